-- The penalty of an event is not below nil, and within its three rooms.
use Rattle.std.proofs.Common.{◌≡◌, ℕ, ◌*◌, ◌≤◌, Bool, true, false, ◌&&◌, ltb, List, length, ℤ, pos, negsuc, nat_abs, ◌≤ℤ◌, refl, arith}
use borrow.Author.Differences.{ints}
use Rattle.std.specs.Int.{int_min}
use Rattle.std.proofs.lemmas.Bool.{and_parts, ltb-true}
use Rattle.readings.specs.Table.{Table, Lawful, Answered}
use Rattle.rules.specs.declared.rows.Rent.{Rent}
use Rattle.rules.specs.declared.rows.Event.{Event}
use Rattle.rules.specs.declared.rows.Posting.{Posting}
use Rattle.rules.specs.Ledger.{Standing, price_of, resource_of}
use Rattle.rules.specs.Penalties.{day_room, month_room, period_room, room, assessed, assessment, penalty_of}
use Rattle.rules.specs.Positions.{position, annual}
use Rattle.rules.specs.Classes.{has_penalties}
use Rattle.rules.specs.Sums.{Known}
use Rattle.rules.specs.Totals.{only}
use Rattle.rules.proofs.Integers.{min_z_left, min_z_right, min_z_above, product_above, floor_nonneg}
use Rattle.rules.proofs.Limits.{room_nonneg}
use Rattle.rules.proofs.Sound.{PositionInRange}

-- what an accepted event and its readings keep to
pub record LawfulEvent (s : Standing) (b : ℕ) (t : Table) (e : Event) : Type 0 where
  pub of_month : e.month ≡ b
  pub low : 1 ≤ b
  pub hours_low : 1 ≤ e.hours
  pub hours_high : e.hours ≤ 24
  pub covered : t.covers (length s.resources) e.hours ≡ true
  pub lawful : Lawful t

pub annual_nonneg : (s : Standing) (r m : ℕ) → PositionInRange s r m → pos 0 ≤ℤ annual s r m
unfolding annual
annual_nonneg s r m h = product_above (pos (12 * price_of s r)) (position s r m) (omega (arith, ints)) h.low

assessed_nonneg : (s : Standing) (r m h : ℕ) (score : ℕ × ℕ) → PositionInRange s r m → score.0 ≤ score.1 → pos 0 ≤ℤ assessed s r m h score
unfolding assessed
assessed_nonneg s r m h score i low =
    floor_nonneg _ (100 * score.1) (product_above _ _ (product_above _ _ (annual_nonneg s r m i) (omega (arith, ints))) (omega (arith, ints)))

pub assessment_nonneg : (s : Standing) (t : Table) (h r m : ℕ) → PositionInRange s r m → Known s r → 1 ≤ h → h ≤ 24 → t.covers (length s.resources) h ≡ true → Lawful t → pos 0 ≤ℤ assessment s t h r m
unfolding assessment only
assessment_nonneg s t h r m i k low high cov laws = by (has_penalties (resource_of s r).class && ltb 0 q) refl
  where
    q : ℕ
    q = nat_abs (position s r m)

    by : (b : Bool) → (has_penalties (resource_of s r).class && ltb 0 q) ≡ b → pos 0 ≤ℤ only b (assessed s r m h (t.score r q h))
    by false e = omega (arith, ints)
    by true e =
        let lo : 1 ≤ q = ltb-true 0 q (and_parts (has_penalties (resource_of s r).class) (ltb 0 q) e).1 in
        let hi : q ≤ 200000 = omega (arith, ints, i.low, i.high) in
        let law : Answered t r q h = laws (length s.resources) r q h (record { covered = cov; r_low = k.low; r_high = k.high; q_low = lo; q_high = hi; h_low = low; h_high = high }) in
        assessed_nonneg s r m h (t.score r q h) i law.kept_high

-- ---- the least of four
abbrev least : ℤ → ℤ → ℤ → ℤ → ℤ
least a x y z = int_min a (int_min (room x) (int_min (room y) (room z)))

least_nonneg : (a x y z : ℤ) → pos 0 ≤ℤ a → pos 0 ≤ℤ least a x y z
least_nonneg a x y z h =
    min_z_above (pos 0) a (int_min (room x) (int_min (room y) (room z))) h
    (min_z_above (pos 0) (room x) (int_min (room y) (room z)) (room_nonneg x) (min_z_above (pos 0) (room y) (room z) (room_nonneg y) (room_nonneg z)))

at_most : (a b c : ℤ) → a ≤ℤ b → b ≤ℤ c → a ≤ℤ c
at_most a b c h k = omega (arith, ints)

least_first : (a x y z : ℤ) → least a x y z ≤ℤ room x
least_first a x y z = at_most (least a x y z) (int_min (room x) (int_min (room y) (room z))) (room x) (min_z_right a (int_min (room x) (int_min (room y) (room z)))) (min_z_left (room x) (int_min (room y) (room z)))

least_rest : (a x y z : ℤ) → least a x y z ≤ℤ int_min (room y) (room z)
least_rest a x y z = at_most (least a x y z) (int_min (room x) (int_min (room y) (room z))) (int_min (room y) (room z)) (min_z_right a (int_min (room x) (int_min (room y) (room z)))) (min_z_right (room x) (int_min (room y) (room z)))

least_second : (a x y z : ℤ) → least a x y z ≤ℤ room y
least_second a x y z = at_most (least a x y z) (int_min (room y) (room z)) (room y) (least_rest a x y z) (min_z_left (room y) (room z))

least_third : (a x y z : ℤ) → least a x y z ≤ℤ room z
least_third a x y z = at_most (least a x y z) (int_min (room y) (room z)) (room z) (least_rest a x y z) (min_z_right (room y) (room z))

-- ---- the penalty
module _ (s : Standing) (rents : List Rent) (ps : List Posting) (t : Table) (e : Event) (r : ℕ) where
  pub penalty_nonneg : (b : ℕ) → LawfulEvent s b t e → PositionInRange s r b → Known s r → pos 0 ≤ℤ penalty_of s rents ps t e r
  unfolding penalty_of
  penalty_nonneg b l i k =
      least_nonneg (assessment s t e.hours r e.month) (day_room s ps r e.month e.day) (month_room s ps r e.month) (period_room s rents ps r e.month)
      (assessment_nonneg s t e.hours r e.month (rw l.of_month i) k l.hours_low l.hours_high l.covered l.lawful)

  pub within_day : penalty_of s rents ps t e r ≤ℤ room (day_room s ps r e.month e.day)
  unfolding penalty_of
  within_day = least_first (assessment s t e.hours r e.month) (day_room s ps r e.month e.day) (month_room s ps r e.month) (period_room s rents ps r e.month)

  pub within_month : penalty_of s rents ps t e r ≤ℤ room (month_room s ps r e.month)
  unfolding penalty_of
  within_month = least_second (assessment s t e.hours r e.month) (day_room s ps r e.month e.day) (month_room s ps r e.month) (period_room s rents ps r e.month)

  pub within_period : penalty_of s rents ps t e r ≤ℤ room (period_room s rents ps r e.month)
  unfolding penalty_of
  within_period = least_third (assessment s t e.hours r e.month) (day_room s ps r e.month e.day) (month_room s ps r e.month) (period_room s rents ps r e.month)

-- an amount that is not below nil, as a count
pub counted : (x : ℤ) → pos 0 ≤ℤ x → pos (nat_abs x) ≡ x
counted (pos n) h = refl
counted (negsuc n) h = absurd (omega (arith, ints))
