-- Number fields and their texts. Assumes nothing.
use Rattle.std.proofs.Common.{◌≡◌, ℕ, ◌^◌, ◌<◌, ◌≤◌, true, false, cond, not, ◌&&◌, eqb, leb, List, length, get_or, Some, None, decimal, sym, refl, ap, ◌∙◌, ⊎_elim, arith}
use Rattle.std.specs.Str.Parse.{digits_value}
use Rattle.std.specs.Str.{all_ascii_digits}
use Rattle.std.proofs.lemmas.Bool.{cases_Bool, cond-true, cond-false, and_parts, and_from, le-leb, leb-true, or_cases, or_left, or_right, not_from_false, ne_eqb, not-true, eqb-false, cases_eq, cases_lt}
use Rattle.std.proofs.lemmas.Str.Parse.{IsNumeralModel, numerals_by_value, tells_all_ascii_digits, digits_value_short}
use Rattle.std.proofs.lemmas.Fmt.{decimal-digits_value, digits_value-decimal, digits_decimal, decimal_nonempty, length-decimal-le, first_decimal, decimal_digit}
use Rattle.text.specs.Numbers.{sized, unpadded, numeral}

pub own : IsNumeralModel (λ ds. all_ascii_digits ds ≡ true) (digits_value 10)
own = numerals_by_value (λ ds. all_ascii_digits ds ≡ true) tells_all_ascii_digits

pub numeral_yes : (s : List ℕ) → sized s ≡ true → unpadded s ≡ true → numeral s ≡ cond (all_ascii_digits s) (Some (digits_value 10 s)) None
unfolding numeral
numeral_yes s h k = rw (h, k) refl

pub numeral_no : (s : List ℕ) → sized s ≡ false → numeral s ≡ None
unfolding numeral
numeral_no s h = rw h refl

-- what a number field is, in facts
pub record Plain (s : List ℕ) : Type 0 where
  pub some : 0 < length s
  pub short : length s ≤ 11
  pub front : get_or s 0 0 ≡ 48 → length s ≡ 1
  pub digits : all_ascii_digits s ≡ true

plain_facts : (s : List ℕ) → (sized s && (unpadded s && all_ascii_digits s)) ≡ true → Plain s
plain_facts s h =
    let p = and_parts (sized s) (unpadded s && all_ascii_digits s) h in
    let q = and_parts (leb 1 (length s)) (leb (length s) 11) p.0 in
    let r = and_parts (unpadded s) (all_ascii_digits s) p.1 in
    let some : 1 ≤ length s = leb-true 1 (length s) q.0 in
    let first = or_cases (leb (length s) 1) (not (eqb (get_or s 0 0) 48)) r.0 in
    record {
      some = some;
      short = leb-true (length s) 11 q.1;
      front = λ z. ⊎_elim (λ e. let one : length s ≤ 1 = leb-true (length s) 1 e in omega arith) (λ e. absurd (eqb-false (get_or s 0 0) 48 (not-true _ e) z)) first;
      digits = r.1;
    }

plain_sized : (s : List ℕ) → Plain s → sized s ≡ true
plain_sized s p = and_from _ _ (le-leb 1 (length s) p.some) (le-leb (length s) 11 p.short)

plain_unpadded : (s : List ℕ) → Plain s → unpadded s ≡ true
plain_unpadded s p =
    ⊎_elim
    (λ z. let short : length s ≤ 1 = omega (arith, p.front z) in or_left _ _ (le-leb (length s) 1 short))
    (λ n. or_right (leb (length s) 1) _ (not_from_false _ (ne_eqb _ 48 n)))
    (cases_eq (get_or s 0 0) 48)

is_plain : (s : List ℕ) → Plain s → numeral s ≡ Some (digits_value 10 s)
is_plain s p = numeral_yes s (plain_sized s p) (plain_unpadded s p) ∙ cond-true (all_ascii_digits s) _ _ p.digits

numeral_some : (s : List ℕ) (n : ℕ) → numeral s ≡ Some n → Plain s × (digits_value 10 s ≡ n)
unfolding numeral
numeral_some s n e =
    ⊎_elim
    (λ t. (plain_facts s t, let v : Some (digits_value 10 s) ≡ Some n = sym (cond-true (sized s && (unpadded s && all_ascii_digits s)) _ _ t) ∙ e in cc))
    (λ f. let v : None ≡ Some n = sym (cond-false (sized s && (unpadded s && all_ascii_digits s)) _ _ f) ∙ e in let z : ◌≡◌ {A = ℕ} 0 1 = cc in absurd (omega arith))
    (cases_Bool (sized s && (unpadded s && all_ascii_digits s)))

-- the text of a number below ten to the eleventh is plain
decimal_plain : (n : ℕ) → n < 10 ^ 11 → n < 2 ^ 64 → Plain (decimal n)
decimal_plain n h w = record {
  some = decimal_nonempty n w;
  short = length-decimal-le 11 n (omega arith) h w;
  front = λ z. ⊎_elim (λ e. omega (arith, ap length (decimal_digit n (omega arith)))) (λ p. absurd (omega (arith, first_decimal n (omega arith) w))) (cases_lt n 1);
  digits = digits_decimal own n w;
}

pub numeral_decimal : (n : ℕ) → n < 10 ^ 11 → numeral (decimal n) ≡ Some n
numeral_decimal n h =
    let w : n < 2 ^ 64 = omega arith in
    is_plain (decimal n) (decimal_plain n h w) ∙ ap Some (digits_value-decimal own n w)

pub decimal_numeral : (s : List ℕ) (n : ℕ) → numeral s ≡ Some n → (s ≡ decimal n) × (n < 10 ^ 11)
decimal_numeral s n e =
    let q = numeral_some s n e in
    let p = q.0 in
    let v = q.1 in
    let small : digits_value 10 s < 10 ^ 11 = digits_value_short own s 11 p.digits p.short in
    let w : digits_value 10 s < 2 ^ 64 = omega arith in
    let d : decimal (digits_value 10 s) ≡ s = decimal-digits_value own s p.digits p.some p.front w in
    (sym d ∙ ap decimal v, omega arith)
