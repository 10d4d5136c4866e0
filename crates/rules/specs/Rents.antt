-- The rent deduction of a month. Assumes nothing.
use Rattle.std.specs.Prelude.{ℕ, ◌-◌, ◌&&◌, List, drop, ℤ, pos, ◌+ℤ◌, ◌-ℤ◌, ◌*ℤ◌, ◌==◌, nat_lt}
use Rattle.std.specs.Int.{int_max, int_min}
use Rattle.rules.specs.declared.rows.Rent.{Rent}
use Rattle.rules.specs.Classes.{has_deduction}
use Rattle.rules.specs.Ledger.{Standing, resource_of, zone_of, price_of}
use Rattle.rules.specs.Positions.{position}
use Rattle.rules.specs.Rows.{row_of, no_zone}
use Rattle.rules.specs.Totals.{◌÷◌, only, total, sum_to}

unfoldable pub rent_before : ℕ → ℕ → Rent → ℤ
rent_before z m x = only (x.zone == z && nat_lt x.month m) (pos x.amount)

-- A: the mean of the zone's twelve rents before month m, those of set-up and those entered since
unfoldable pub mean_rent : Standing → List Rent → ℕ → ℕ → ℤ
mean_rent s rents z m = (total pos (drop (m - 1) (row_of no_zone s.zones z).rents) +ℤ total (rent_before z m) rents) ÷ 12

-- B: the position less the self-supplied part, or nil
unfoldable pub exposed : Standing → ℕ → ℕ → ℤ
exposed s r m = int_max (pos 0) (position s r m -ℤ pos (resource_of s r).supplied)

-- the lesser of B · P and A · B / 1,000; nil where the class has no rent deduction
unfoldable pub deduction : Standing → List Rent → ℕ → ℕ → ℤ
deduction s rents r m =
    only (has_deduction (resource_of s r).class)
    (int_min (exposed s r m *ℤ pos (price_of s r)) ((mean_rent s rents (zone_of s r) m *ℤ exposed s r m) ÷ 1000))

-- from June through month m
unfoldable pub deductions_since_june : Standing → List Rent → ℕ → ℕ → ℤ
deductions_since_june s rents r m = sum_to m (deduction s rents r)
