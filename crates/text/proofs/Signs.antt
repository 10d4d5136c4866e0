-- Signed numbers and their texts. Assumes nothing.
use Rattle.std.proofs.Common.{◌≡◌, ℕ, zero, suc, ◌^◌, ◌<◌, true, false, eqb, List, [], ◌∷◌, length, get_or, drop, ℤ, pos, negsuc, nat_abs, Some, None, decimal, Option, sym, refl, ap, ◌∙◌, subst, ⊎_elim, arith}
use lib.Signed.{lt_z}
use Rattle.std.specs.Fmt.{signed_decimal}
use Rattle.std.proofs.lemmas.Bool.{cases_Bool, cond-true, cond-false, ne_eqb, eq-eqb, eqb-true, ltb-true}
use Rattle.text.specs.Numbers.{numeral, signed_numeral, plus, minus, NumberLaws}
use Rattle.std.proofs.lemmas.Str.Parse.{digit_at}
use Rattle.std.proofs.lemmas.Fmt.{digits_decimal}
use Rattle.text.proofs.Numerals.{own, numeral_decimal, decimal_numeral, numeral_no}

pub signed_plus : (s : List ℕ) → (0 < length s → get_or s 0 0 ≡ 45 → ⊥) → signed_numeral s ≡ plus (numeral s)
unfolding signed_numeral
signed_plus [] h = sym (ap plus (numeral_no [] refl))
signed_plus (c ∷ s) h = cond-false (eqb c 45) (minus (numeral s)) (plus (numeral (c ∷ s))) (ne_eqb c 45 (h (omega arith)))

pub signed_minus : (s : List ℕ) → 0 < length s → get_or s 0 0 ≡ 45 → signed_numeral s ≡ minus (numeral (drop 1 s))
unfolding signed_numeral
signed_minus [] h e = absurd (omega arith)
signed_minus (c ∷ s) h e = cond-true (eqb c 45) (minus (numeral s)) (plus (numeral (c ∷ s))) (eq-eqb c 45 e)

-- a number begins with a digit, and so with no minus
no_minus : (n : ℕ) → n < 10 ^ 11 → 0 < length (decimal n) → get_or (decimal n) 0 0 ≡ 45 → ⊥
no_minus n g h e =
    let w : n < 2 ^ 64 = omega arith in
    let d = digit_at (decimal n) 0 (own.to _ (digits_decimal own n w)) h in
    omega (arith, e, d)

-- ---- the laws

signed_forth : (z : ℤ) → nat_abs z < 10 ^ 11 → signed_numeral (signed_decimal z) ≡ Some z
signed_forth (pos n) g = signed_plus (decimal n) (no_minus n g) ∙ ap plus (numeral_decimal n g)
signed_forth (negsuc n) g = signed_minus (45 ∷ decimal (suc n)) (omega arith) refl ∙ ap minus (numeral_decimal (suc n) g)

plus_some : (o : Option ℕ) (z : ℤ) → plus o ≡ Some z → (n : ℕ) × (o ≡ Some n) × (z ≡ pos n)
plus_some None z e = let x : ◌≡◌ {A = ℕ} 0 1 = cc in absurd (omega arith)
plus_some (Some n) z e = let same : pos n ≡ z = cc in (n, refl, sym same)

minus_is : (o : Option ℕ) (z : ℤ) → minus o ≡ Some z → (n : ℕ) × (o ≡ Some (suc n)) × (z ≡ negsuc n)
minus_is None z e = let x : ◌≡◌ {A = ℕ} 0 1 = cc in absurd (omega arith)
minus_is (Some zero) z e = let x : ◌≡◌ {A = ℕ} 0 1 = cc in absurd (omega arith)
minus_is (Some (suc n)) z e = let same : negsuc n ≡ z = cc in (n, refl, sym same)

signed_back : (s : List ℕ) (z : ℤ) → signed_numeral s ≡ Some z → (s ≡ signed_decimal z) × (nat_abs z < 10 ^ 11)
unfolding signed_numeral
signed_back [] z e = let x : ◌≡◌ {A = ℕ} 0 1 = cc in absurd (omega arith)
signed_back (c ∷ s) z e =
    ⊎_elim
    (λ t.
    let m = minus_is (numeral s) z (sym (cond-true (eqb c 45) (minus (numeral s)) (plus (numeral (c ∷ s))) t) ∙ e) in
    let d = decimal_numeral s (suc m.0) m.1 in
    subst (λ y. (c ∷ s ≡ signed_decimal y) × (nat_abs y < 10 ^ 11)) (sym m.2) ((λ i. eqb-true c 45 t i ∷ d.0 i), d.1))
    (λ f.
    let p = plus_some (numeral (c ∷ s)) z (sym (cond-false (eqb c 45) (minus (numeral s)) (plus (numeral (c ∷ s))) f) ∙ e) in
    let d = decimal_numeral (c ∷ s) p.0 p.1 in
    subst (λ y. (c ∷ s ≡ signed_decimal y) × (nat_abs y < 10 ^ 11)) (sym p.2) (d.0, d.1))
    (cases_Bool (eqb c 45))

pub number_laws : NumberLaws
number_laws = record { forth = numeral_decimal; back = decimal_numeral; signed_forth = signed_forth; signed_back = signed_back }

-- the text of a signed number, by its sign
pub text_minus : (m z : ℤ) (k : ℕ) → m ≡ z → k ≡ nat_abs m → lt_z m (pos 0) ≡ true → 45 ∷ decimal k ≡ signed_decimal z
text_minus (pos n) z k e h lt = absurd (omega (arith, ltb-true n 0 lt))
text_minus (negsuc n) z k e h lt = ap (λ j. 45 ∷ decimal j) h ∙ ap signed_decimal e

pub text_plus : (m z : ℤ) (k : ℕ) → m ≡ z → k ≡ nat_abs m → lt_z m (pos 0) ≡ false → decimal k ≡ signed_decimal z
text_plus (pos n) z k e h lt = ap decimal h ∙ ap signed_decimal e
text_plus (negsuc n) z k e h lt = let x : ◌≡◌ {A = ℕ} 0 1 = cc in absurd (omega arith)
