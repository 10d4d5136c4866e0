-- The rents that count for a month. Assumes nothing.
use Rattle.std.specs.Prelude.{ℕ, Bool, ◌&&◌, ◌==◌, nat_lt}
use Rattle.rules.specs.declared.rows.Rent.{Rent}

-- the rent is one of that zone, for an earlier month
unfoldable pub is_earlier : ℕ → ℕ → Rent → Bool
is_earlier z m r = r.zone == z && nat_lt r.month m
