-- Rows whose months are within 0 to 200,000. Assumes nothing.
use Rattle.std.specs.Prelude.{ℕ, Bool, true, cond, not, ◌&&◌, List, [], ◌∷◌, Some, None, Option}
use Rattle.rules.specs.declared.rows.Change.{Change}
use Rattle.rules.specs.declared.rows.Resource.{Resource}
use Rattle.rules.specs.Positions.{month_leaves, month_after}
use Rattle.rules.specs.Tests.{any_above}

abbrev pub within : List ℕ → Bool
within row = not (any_above 200000 row)

abbrev pub all_within : List Resource → Bool
all_within [] = true
all_within (r ∷ rs) = within r.row && all_within rs

-- what a change makes of the position of the k-th month alone
abbrev pub changed_month : Change → ℕ → ℕ → Option ℕ
changed_month ch k q = cond (month_leaves ch k q) None (Some (month_after ch k q))
