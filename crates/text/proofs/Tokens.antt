-- The laws of the tokens. Assumes nothing.
use Rattle.std.proofs.Common.{◌≡◌, ℕ, suc, ◌^◌, ◌<◌, ◌≤◌, ◌&&◌, eqb, leb, List, [], ◌∷◌, ℤ, pos, negsuc, nat_abs, Some, None, decimal, refl, ap, ◌∙◌, subst, ⊎_elim, arith}
use Rattle.std.specs.Str.Parse.{AllDigits}
use Rattle.std.specs.Fmt.{signed_decimal}
use Rattle.std.proofs.lemmas.Fmt.{digits_decimal}
use Rattle.std.proofs.lemmas.Str.Parse.{digit_from_value}
use Rattle.std.proofs.lemmas.Bool.{cases_Bool, cond-true, cond-false, eq-eqb, eqb-true, and_from, and_parts, leb-true, le-leb}
use Rattle.text.specs.Formats.{number, signed_number, letter, capital, fixed, only_letter}
use Rattle.text.specs.Numbers.{plus}
use Rattle.text.proofs.Codecs.{Free, TokenLaws}
use Rattle.text.proofs.Numerals.{own, numeral_no}
use Rattle.text.proofs.Signs.{signed_plus, number_laws}

-- ---- numbers
free_digits : (b : ℕ) → b < 48 → (s : List ℕ) → AllDigits 10 s → Free b s
free_digits b h [] d = tt
free_digits b h (c ∷ s) d = (λ e. omega (arith, digit_from_value c d.0), free_digits b h s d.1)

pub free_decimal : (b : ℕ) → b < 48 → (n : ℕ) → n < 10 ^ 11 → Free b (decimal n)
free_decimal b h n small = let w : n < 2 ^ 64 = omega arith in free_digits b h (decimal n) (own.to (decimal n) (digits_decimal own n w))

pub number_token : TokenLaws number
number_token = record {
  forth = number_laws.forth;
  back = number_laws.back;
  some = numeral_no [] refl;
  clear = λ n g. free_decimal 32 (omega arith) n g;
  flat = λ n g. free_decimal 10 (omega arith) n g;
}

free_signed : (b : ℕ) → b < 45 → (z : ℤ) → nat_abs z < 10 ^ 11 → Free b (signed_decimal z)
free_signed b h (pos n) g = free_decimal b (omega arith) n g
free_signed b h (negsuc n) g = (λ e. omega (arith, e), free_decimal b (omega arith) (suc n) g)

pub signed_token : TokenLaws signed_number
signed_token = record {
  forth = number_laws.signed_forth;
  back = number_laws.signed_back;
  some = signed_plus [] (λ h e. omega arith) ∙ ap plus (numeral_no [] refl);
  clear = λ z g. free_signed 32 (omega arith) z g;
  flat = λ z g. free_signed 10 (omega arith) z g;
}

-- ---- letters
capital_forth : (c : ℕ) → (65 ≤ c) × (c ≤ 90) → capital (c ∷ []) ≡ Some c
capital_forth c g = cond-true (leb 65 c && leb c 90) _ _ (and_from _ _ (le-leb 65 c g.0) (le-leb c 90 g.1))

capital_back : (s : List ℕ) (x : ℕ) → capital s ≡ Some x → (s ≡ x ∷ []) × ((65 ≤ x) × (x ≤ 90))
capital_back [] x e = let z : ◌≡◌ {A = ℕ} 0 1 = cc in absurd (omega arith)
capital_back (c ∷ []) x e =
    ⊎_elim
    (λ t. let p = and_parts (leb 65 c) (leb c 90) t in let same : c ≡ x = cc (cond-true (leb 65 c && leb c 90) (Some c) None t) in
    (ap (λ y. y ∷ []) same, subst (λ y. (65 ≤ y) × (y ≤ 90)) same (leb-true 65 c p.0, leb-true c 90 p.1)))
    (λ f. let z : ◌≡◌ {A = ℕ} 0 1 = cc (cond-false (leb 65 c && leb c 90) (Some c) None f) in absurd (omega arith))
    (cases_Bool (leb 65 c && leb c 90))
capital_back (c ∷ d ∷ s) x e = let z : ◌≡◌ {A = ℕ} 0 1 = cc in absurd (omega arith)

pub letter_token : TokenLaws letter
letter_token = record {
  forth = capital_forth;
  back = capital_back;
  some = refl;
  clear = λ c g. (λ e. omega (arith, e), tt);
  flat = λ c g. (λ e. omega (arith, e), tt);
}

-- the letter that a line begins with
only_back : (c : ℕ) (s : List ℕ) (u : Unit {0}) → only_letter c s ≡ Some u → s ≡ c ∷ []
only_back c [] u e = let x : ◌≡◌ {A = ℕ} 0 1 = cc in absurd (omega arith)
only_back c (d ∷ []) u e =
    ⊎_elim
    (λ t. ap (λ y. y ∷ []) (eqb-true d c t))
    (λ f. let x : ◌≡◌ {A = ℕ} 0 1 = cc (cond-false (eqb d c) (Some (tt {0})) None f) in absurd (omega arith))
    (cases_Bool (eqb d c))
only_back c (d ∷ k ∷ s) u e = let x : ◌≡◌ {A = ℕ} 0 1 = cc in absurd (omega arith)

pub fixed_token : (c : ℕ) → (c ≡ 32 → ⊥) → (c ≡ 10 → ⊥) → TokenLaws (fixed c)
fixed_token c space end = record {
  forth = λ u g. cond-true (eqb c c) (Some tt) None (eq-eqb c c refl);
  back = λ s u e. (only_back c s u e, tt);
  some = refl;
  clear = λ u g. (space, tt);
  flat = λ u g. (end, tt);
}
