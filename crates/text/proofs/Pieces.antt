-- A text cut at its first b. Assumes nothing.
use Rattle.std.proofs.Common.{◌≡◌, ℕ, Bool, ◌+◌, ◌<◌, ◌≤◌, true, false, cond, not, eqb, List, [], ◌∷◌, ◌++◌, length, take, drop, refl, ap, ◌∙◌, one-add, arith, take-append-drop}
use Rattle.std.proofs.lemmas.Bool.{cond-true, cond-false}
use Rattle.std.specs.List.{position, position_or_len}
use Rattle.std.specs.Option.{unwrap_or}
use Rattle.std.proofs.lemmas.Grind.{common_steps}
use Rattle.std.proofs.lemmas.List.Sums.{prefix_len-le-length}
use Rattle.std.proofs.lemmas.Bool.Decides.{nat_tests}
use Rattle.std.proofs.lemmas.List.{length-append}
use Rattle.text.specs.Cuts.{before, from, ended}

pub before_stop : (b c : ℕ) (s : List ℕ) → eqb c b ≡ true → before b (c ∷ s) ≡ []
before_stop b c s e = cond-true (eqb c b) [] (c ∷ before b s) e

pub before_more : (b c : ℕ) (s : List ℕ) → eqb c b ≡ false → before b (c ∷ s) ≡ c ∷ before b s
before_more b c s e = cond-false (eqb c b) [] (c ∷ before b s) e

pub from_stop : (b c : ℕ) (s : List ℕ) → eqb c b ≡ true → from b (c ∷ s) ≡ c ∷ s
from_stop b c s e = cond-true (eqb c b) (c ∷ s) (from b s) e

pub from_more : (b c : ℕ) (s : List ℕ) → eqb c b ≡ false → from b (c ∷ s) ≡ from b s
from_more b c s e = cond-false (eqb c b) (c ∷ s) (from b s) e

-- the place of what is sought, or the end
pub place_or_len : {X : Type 0} (p : X → Bool) (xs : List X) → unwrap_or (position p xs) (length xs) ≡ position_or_len p xs
place_or_len p xs = grind (arith, nat_tests, common_steps, prefix_len-le-length (λ x. not (p x)) xs)

pub place_le : {X : Type 0} (p : X → Bool) (xs : List X) → position_or_len p xs ≤ length xs
place_le p xs = prefix_len-le-length (λ x. not (p x)) xs

-- the same cut in the library's words
pub before_is : (b : ℕ) (s : List ℕ) → before b s ≡ take (position_or_len (λ x. eqb x b) s) s
before_is b [] = refl
before_is b (c ∷ s) =
    elim (eqb c b) as (λ e. cond e [] (c ∷ before b s) ≡ take (cond (not e) (1 + position_or_len (λ x. eqb x b) s) 0) (c ∷ s)) [
      | true ↦ refl
      | false ↦ rw (one-add, before_is b s) refl
    ]

pub from_is : (b : ℕ) (s : List ℕ) → from b s ≡ drop (position_or_len (λ x. eqb x b) s) s
from_is b [] = refl
from_is b (c ∷ s) =
    elim (eqb c b) as (λ e. cond e (c ∷ s) (from b s) ≡ drop (cond (not e) (1 + position_or_len (λ x. eqb x b) s) 0) (c ∷ s)) [
      | true ↦ refl
      | false ↦ rw (one-add, from_is b s) refl
    ]

-- the two parts are the text
pub parts : (b : ℕ) (s : List ℕ) → before b s ++ from b s ≡ s
parts b s = (λ i. before_is b s i ++ from_is b s i) ∙ take-append-drop (position_or_len (λ x. eqb x b) s) s

pub from_le : (b : ℕ) (s : List ℕ) → length (from b s) ≤ length s
from_le b s = omega (arith, ap length (parts b s), length-append (before b s) (from b s))

-- a line is ended just where the search for LF finds one
pub ended_some : (s : List ℕ) → 0 < length (from 10 s) → ended s ≡ true
ended_some [] h = absurd (omega arith)
ended_some (c ∷ s) h =
    elim (eqb c 10) as (λ e. 0 < length (cond e (c ∷ s) (from 10 s)) → cond e true (ended s) ≡ true) [
      | true ↦ λ g. refl
      | false ↦ λ g. ended_some s g
    ] h

pub ended_not : (s : List ℕ) → length (from 10 s) ≡ 0 → ended s ≡ false
ended_not [] h = refl
ended_not (c ∷ s) h =
    elim (eqb c 10) as (λ e. length (cond e (c ∷ s) (from 10 s)) ≡ 0 → cond e true (ended s) ≡ false) [
      | true ↦ λ g. absurd (omega arith)
      | false ↦ λ g. ended_not s g
    ] h
