-- The months of a period, June to May. Assumes nothing.
use Rattle.std.specs.Prelude.{ℕ, ◌+◌, ◌-◌, ◌*◌, ◌%◌, cond, [], ◌∷◌, ◌==◌}
use Rattle.rules.specs.Rows.{row_of}

-- February is of the year after the one in which the period begins
abbrev pub february : ℕ → ℕ
february year = cond ((year + 1) % 4 == 0) 29 28

-- the days of month m, where the period begins in June of the year
abbrev pub days : ℕ → ℕ → ℕ
days year m = row_of 0 (30 ∷ 31 ∷ 31 ∷ 30 ∷ 31 ∷ 30 ∷ 31 ∷ 31 ∷ february year ∷ 31 ∷ 30 ∷ 31 ∷ []) m

-- an hour of a day, counted from the month's first
abbrev pub start : ℕ → ℕ → ℕ
start day hour = (day - 1) * 24 + hour
