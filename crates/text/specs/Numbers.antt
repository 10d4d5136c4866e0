-- Number fields, and the text that writes each number. Assumes nothing.
use Rattle.std.specs.Prelude.{◌≡◌, ℕ, zero, suc, ◌^◌, ◌<◌, Bool, cond, not, ◌&&◌, ◌||◌, List, [], ◌∷◌, length, ℤ, pos, negsuc, Some, None, decimal, Option, ◌==◌, nat_le, slice_index, unsigned_abs}
use Rattle.std.specs.Str.Parse.{digits_value}
use Rattle.std.specs.Fmt.{signed_decimal}
use Rattle.std.specs.Str.{all_ascii_digits}

-- one to eleven bytes
abbrev pub sized : List ℕ → Bool
sized s = nat_le 1 (length s) && nat_le (length s) 11

-- no zero in front of another digit
abbrev pub unpadded : List ℕ → Bool
unpadded s = nat_le (length s) 1 || not (slice_index s 0 == 48)

-- the number that a field writes in one to eleven digits, with no zero in front
unfoldable pub numeral : List ℕ → Option ℕ
numeral s = cond (sized s && (unpadded s && all_ascii_digits s)) (Some (digits_value 10 s)) None

-- a signed number has its minus only before a nonzero number
abbrev pub plus : Option ℕ → Option ℤ
plus None = None
plus (Some n) = Some (pos n)

abbrev pub minus : Option ℕ → Option ℤ
minus None = None
minus (Some zero) = None
minus (Some (suc n)) = Some (negsuc n)

unfoldable pub signed_numeral : List ℕ → Option ℤ
signed_numeral [] = None
signed_numeral (c ∷ s) = cond (c == 45) (minus (numeral s)) (plus (numeral (c ∷ s)))

-- Numbers of at most eleven digits and their texts fix each other: what is written is read back, and what is read is
-- what would be written.
pub record NumberLaws : Type 0 where
  pub forth : (n : ℕ) → n < 10 ^ 11 → numeral (decimal n) ≡ Some n
  pub back : (s : List ℕ) (n : ℕ) → numeral s ≡ Some n → (s ≡ decimal n) × (n < 10 ^ 11)
  pub signed_forth : (z : ℤ) → unsigned_abs z < 10 ^ 11 → signed_numeral (signed_decimal z) ≡ Some z
  pub signed_back : (s : List ℕ) (z : ℤ) → signed_numeral s ≡ Some z → (s ≡ signed_decimal z) × (unsigned_abs z < 10 ^ 11)
