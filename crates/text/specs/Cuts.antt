-- Where a text is cut into lines and a line into fields. Assumes nothing.
use Rattle.std.specs.Prelude.{ℕ, Bool, true, false, cond, List, [], ◌∷◌, drop, ◌==◌}

-- the bytes before the first b, and those from it on
abbrev pub before : ℕ → List ℕ → List ℕ
before b [] = []
before b (c ∷ s) = cond (c == b) [] (c ∷ before b s)

abbrev pub from : ℕ → List ℕ → List ℕ
from b [] = []
from b (c ∷ s) = cond (c == b) (c ∷ s) (from b s)

-- the first line of a text, the text after it and its LF, and whether it has its LF
abbrev pub row : List ℕ → List ℕ
row s = before 10 s

abbrev pub below : List ℕ → List ℕ
below s = drop 1 (from 10 s)

abbrev pub ended : List ℕ → Bool
ended [] = false
ended (c ∷ s) = cond (c == 10) true (ended s)

-- the next field of what is left of a line, which begins with its space, and what is left after it: a field that is
-- missing counts as an empty one
abbrev pub next : List ℕ → List ℕ
next [] = []
next (c ∷ s) = cond (c == 32) (before 32 s) []

abbrev pub past : List ℕ → List ℕ
past [] = []
past (c ∷ s) = cond (c == 32) (from 32 s) (c ∷ s)

-- The lines of a text: each is ended by LF, but the last may stand without it.
abbrev pub onto : ℕ → List (List ℕ) → List (List ℕ)
onto c [] = (c ∷ []) ∷ []
onto c (l ∷ ls) = (c ∷ l) ∷ ls

unfoldable pub lines : List ℕ → List (List ℕ)
lines [] = []
lines (c ∷ s) = cond (c == 10) ([] ∷ lines s) (onto c (lines s))
