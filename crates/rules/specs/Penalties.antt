-- The penalties of an event. Assumes nothing.
use Rattle.std.specs.Prelude.{ℕ, ◌+◌, ◌-◌, ◌*◌, ◌&&◌, List, [], ◌∷◌, map, ℤ, pos, ◌-ℤ◌, ◌*ℤ◌, ◌==◌, nat_lt, unsigned_abs}
use Rattle.std.specs.Int.{int_max, int_min}
use Rattle.readings.specs.Table.{Table}
use Rattle.rules.specs.declared.rows.Rent.{Rent}
use Rattle.rules.specs.declared.rows.Event.{Event}
use Rattle.rules.specs.declared.rows.Posting.{Posting}
use Rattle.rules.specs.Ledger.{Standing, resource_of, price_of, members}
use Rattle.rules.specs.Positions.{position, annual}
use Rattle.rules.specs.Rents.{deductions_since_june}
use Rattle.rules.specs.Classes.{has_penalties}
use Rattle.rules.specs.Totals.{◌÷◌, only, total, sum_to}

-- ---- what was posted before
unfoldable pub day_penalty : List Posting → ℕ → ℕ → ℕ → ℤ
day_penalty ps r m d = total (λ p. only (p.resource == r && (p.month == m && p.day == d)) (pos p.penalty)) ps

unfoldable pub month_penalty : List Posting → ℕ → ℕ → ℤ
month_penalty ps r m = total (λ p. only (p.resource == r && p.month == m) (pos p.penalty)) ps

-- from June through month m
unfoldable pub penalties_since_june : List Posting → ℕ → ℕ → ℤ
penalties_since_june ps r m = sum_to m (month_penalty ps r)

-- ---- the three rooms
unfoldable pub day_room : Standing → List Posting → ℕ → ℕ → ℕ → ℤ
day_room s ps r m d = annual s r m ÷ 10 -ℤ day_penalty ps r m d

unfoldable pub month_room : Standing → List Posting → ℕ → ℕ → ℤ
month_room s ps r m = (pos (5 * price_of s r) *ℤ position s r m) ÷ 2 -ℤ month_penalty ps r m

unfoldable pub period_room : Standing → List Rent → List Posting → ℕ → ℕ → ℤ
period_room s rents ps r m = annual s r m -ℤ deductions_since_june s rents r m -ℤ penalties_since_june ps r m

-- a negative room counts as nil
abbrev pub room : ℤ → ℤ
room x = int_max (pos 0) x

-- ---- the penalty
-- 5, and 1 for each hour above 5
unfoldable pub factor : ℕ → ℕ
factor h = 5 + (h - 5)

-- 12 · P · Q · F · (due − kept) / (100 · due), for an event of h hours
unfoldable pub assessed : Standing → ℕ → ℕ → ℕ → ℕ × ℕ → ℤ
assessed s r m h score = (annual s r m *ℤ pos (factor h) *ℤ (pos score.1 -ℤ pos score.0)) ÷ (100 * score.1)

-- nil where the position is nil or the class has no penalties
unfoldable pub assessment : Standing → Table → ℕ → ℕ → ℕ → ℤ
assessment s t h r m =
    only (has_penalties (resource_of s r).class && nat_lt 0 (unsigned_abs (position s r m)))
    (assessed s r m h (t.score r (unsigned_abs (position s r m)) h))

-- the least of the assessment and the three rooms
unfoldable pub penalty_of : Standing → List Rent → List Posting → Table → Event → ℕ → ℤ
penalty_of s rents ps t e r =
    int_min (assessment s t e.hours r e.month)
    (int_min (room (day_room s ps r e.month e.day))
    (int_min (room (month_room s ps r e.month)) (room (period_room s rents ps r e.month))))

-- ---- postings
unfoldable pub posting_of : Standing → List Rent → List Posting → Table → Event → ℕ → Posting
posting_of s rents ps t e r = record { resource = r; month = e.month; day = e.day; penalty = unsigned_abs (penalty_of s rents ps t e r); weight = t.weight r (unsigned_abs (position s r e.month)) e.hours }

-- one for each resource of the event's zone; ps are the postings before the event
unfoldable pub added : Standing → List Rent → List Posting → Table → Event → List Posting
added s rents ps t e = map (posting_of s rents ps t e) (members s e.zone)

-- the sum of their penalties
abbrev pub penalties_in : List Posting → ℕ
penalties_in [] = 0
penalties_in (p ∷ ps) = p.penalty + penalties_in ps
