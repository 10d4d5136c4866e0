-- How a line is written and read: formats of one field, and of several after one another. Assumes nothing.
use Rattle.std.specs.Prelude.{◌≡◌, ℕ, zero, suc, ◌+◌, ◌*◌, ◌^◌, ◌<◌, ◌≤◌, Bool, false, cond, ◌&&◌, List, [], ◌∷◌, ◌++◌, length, ℤ, Some, None, Ok, Err, decimal, Option, Result, ◌==◌, nat_le, unsigned_abs}
use Rattle.std.specs.List.{flat_map, AllByRecursion}
use Rattle.std.specs.Fmt.{signed_decimal}
use Rattle.text.specs.declared.faults.Spot.{Spot}
use Rattle.text.specs.declared.faults.FieldFault.{FieldFault}
use Rattle.text.specs.Cuts.{before, from, next, past}
use Rattle.text.specs.Numbers.{numeral, signed_numeral}

-- what a `?` does: go on with the value, or pass the fault
abbrev pub then : {A B F : Type 0} → Result A F → (A → Result B F) → Result B F
then (Ok x) f = f x
then (Err e) f = Err e

-- the value of a field, or the field's fault
abbrev pub or_fault : {A : Type 0} → Option A → Spot → ℕ → Result A FieldFault
or_fault (Some x) at k = Ok x
or_fault None at k = Err (record { spot = at; place = k })

-- nothing is left of a line
abbrev pub nothing : List ℕ → Option (Unit {0})
nothing [] = Some tt
nothing (c ∷ s) = None

-- one field: its text, the values that have one, and what a text says
pub record Token (A : Type 0) : Type 1 where
  pub text : A → List ℕ
  pub good : A → Type 0
  pub read : List ℕ → Option A

-- fields after one another: the text of a value; the pieces that a line is cut into, and what is left of it; the value
-- of the pieces, the first of which is at place k of its line, or the leftmost fault; and how many fields there are
pub record Format (A P : Type 0) : Type 1 where
  pub text : A → List ℕ
  pub good : A → Type 0
  pub piece : List ℕ → P
  pub left : List ℕ → List ℕ
  pub value : Spot → ℕ → P → Result A FieldFault
  pub width : ℕ

-- the first field of a line, and a later one, after its space
abbrev pub leads : {A : Type 0} → Token A → Format A (List ℕ)
leads t = record { text = t.text; good = t.good; piece = before 32; left = from 32; value = λ at k p. or_fault (t.read p) at k; width = 1 }

abbrev pub follows : {A : Type 0} → Token A → Format A (List ℕ)
follows t = record { text = λ x. 32 ∷ t.text x; good = t.good; piece = next; left = past; value = λ at k p. or_fault (t.read p) at k; width = 1 }

abbrev pub both : {A B P Q : Type 0} → Format A P → Format B Q → Format (A × B) (P × Q)
both f g = record {
  text = λ x. f.text x.0 ++ g.text x.1;
  good = λ x. f.good x.0 × g.good x.1;
  piece = λ s. (f.piece s, g.piece (f.left s));
  left = λ s. g.left (f.left s);
  value = λ at k p. then (f.value at k p.0) (λ a. then (g.value at (k + f.width) p.1) (λ b. Ok (a, b)));
  width = f.width + g.width;
}

-- a whole line: what is left after the last field is a surplus field
abbrev pub row_value : {A P : Type 0} → Format A P → Spot → P → List ℕ → Result A FieldFault
row_value f at p tail = then (f.value at 1 p) (λ x. then (or_fault (nothing tail) at (1 + f.width)) (λ _. Ok x))

abbrev pub read_row : {A P : Type 0} → Format A P → Spot → List ℕ → Result A FieldFault
read_row f at s = row_value f at (f.piece s) (f.left s)

abbrev pub number : Token ℕ
number = record { text = decimal; good = λ n. n < 10 ^ 11; read = numeral }

abbrev pub signed_number : Token ℤ
signed_number = record { text = signed_decimal; good = λ z. unsigned_abs z < 10 ^ 11; read = signed_numeral }

-- one capital letter
abbrev pub capital : List ℕ → Option ℕ
capital [] = None
capital (c ∷ []) = cond (nat_le 65 c && nat_le c 90) (Some c) None
capital (c ∷ d ∷ s) = None

abbrev pub letter : Token ℕ
letter = record { text = λ c. c ∷ []; good = λ c. (65 ≤ c) × (c ≤ 90); read = capital }

-- a field of the one letter c
abbrev pub letter_is : ℕ → List ℕ → Bool
letter_is c [] = false
letter_is c (x ∷ []) = x == c
letter_is c (x ∷ y ∷ s) = false

-- the letter that a line begins with
abbrev pub only_letter : ℕ → List ℕ → Option (Unit {0})
only_letter c s = cond (letter_is c s) (Some tt) None

abbrev pub fixed : ℕ → Token (Unit {0})
fixed c = record { text = λ _. c ∷ []; good = λ _. Unit {0}; read = only_letter c }

-- k values of one format, one after another
unfoldable pub many_pieces : {A P : Type 0} → Format A P → ℕ → List ℕ → List P
many_pieces f zero s = []
many_pieces f (suc k) s = f.piece s ∷ many_pieces f k (f.left s)

unfoldable pub many_left : {A P : Type 0} → Format A P → ℕ → List ℕ → List ℕ
many_left f zero s = s
many_left f (suc k) s = many_left f k (f.left s)

unfoldable pub many_values : {A P : Type 0} → Format A P → Spot → ℕ → List P → Result (List A) FieldFault
many_values f at p [] = Ok []
many_values f at p (q ∷ qs) = then (f.value at p q) (λ x. then (many_values f at (p + f.width) qs) (λ xs. Ok (x ∷ xs)))

abbrev pub many : {A P : Type 0} → ℕ → Format A P → Format (List A) (List P)
many k f = record {
  text = λ xs. flat_map f.text xs;
  good = λ xs. (length xs ≡ k) × AllByRecursion f.good xs;
  piece = many_pieces f k;
  left = many_left f k;
  value = many_values f;
  width = k * f.width;
}

-- the k numbers of a part that begins at place p, with nothing after them
abbrev pub numbers_of : ℕ → Spot → ℕ → List ℕ → Result (List ℕ) FieldFault
numbers_of k at p s =
    then (many_values (follows number) at p (many_pieces (follows number) k s))
    (λ xs. then (or_fault (nothing (many_left (follows number) k s)) at (p + k)) (λ _. Ok xs))
