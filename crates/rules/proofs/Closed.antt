-- The amounts of a closed month stay as they are.
use Rattle.std.proofs.Common.{◌≡◌, ℕ, ◌≤◌, Bool, true, false, ◌&&◌, eqb, leb, List, [], ◌∷◌, ◌++◌, length, ℤ, pos, ◌+ℤ◌, ◌-ℤ◌, sym, refl, ap, ◌∙◌, subst, ap₂, arith}
use mathlib.Core.Path.{fun_ext}
use lib.IntN.{+ℤ_idr}
use Rattle.std.proofs.lemmas.Bool.{and_parts, and_from, and_right, leb-true, le-leb, ne_eqb}
use Rattle.readings.specs.Table.{Table}
use Rattle.sharing.specs.Shares.{shares, leftover}
use Rattle.rules.specs.declared.rows.Event.{Event}
use Rattle.rules.specs.declared.rows.Load.{Load}
use Rattle.rules.specs.declared.rows.Posting.{Posting}
use Rattle.rules.specs.declared.rows.Rent.{Rent}
use Rattle.rules.specs.declared.rows.Resource.{Resource}
use Rattle.rules.specs.declared.rows.Stage.{Stage}
use Rattle.rules.specs.declared.rows.Stage.TheVariants.{SetUp, Running, Closed}
use Rattle.rules.specs.declared.rows.Trade.{Trade}
use Rattle.rules.specs.declared.rows.Trade.TheVariants as trade
use Rattle.rules.specs.Charges.{cost, charge_weight, charge_weights, charge_at_close, charge, remainder}
use Rattle.rules.specs.Closed.{MonthStays}
use Rattle.rules.specs.Credits.{zone_sum, pool, weight_of, is_recipient, credit_weight, credit_weights, credit_at_close, credit, unshared}
use Rattle.rules.specs.Ledger.{Standing, Ledger, closed_months, closed, resource_of, zone_of, load_of, with_event, with_rent, at_stage, with_standing, more_trade}
use Rattle.rules.specs.Payments.{auctioned, exchanged, payment_without_bilaterals, payment}
use Rattle.rules.specs.Penalties.{month_penalty, posting_of, added}
use Rattle.rules.specs.Positions.{runs, moved, position}
use Rattle.rules.specs.Rents.{deduction}
use Rattle.rules.specs.Rows.{row_of, no_load}
use Rattle.rules.specs.Totals.{only, total, sum_to, each_to}
use Rattle.rules.proofs.Entering.{rent_later}
use Rattle.rules.proofs.Posting.{of_each, added_all, added_to}
use Rattle.rules.proofs.Totals.{total_push, total_append, total_nil, only_false}
use Rattle.rules.proofs.Trading.{SameButRows, traded, cleared_stays, supplied_stays, class_stays, zone_stays, price_stays, position_with, deduction_stays}

-- what the amounts of a month are made from
pub record SameEntries (l l' : Ledger) (m : ℕ) : Type 0 where
  pub count : length l'.standing.resources ≡ length l.standing.resources
  pub zones : (r : ℕ) → zone_of l'.standing r ≡ zone_of l.standing r
  pub classes : (r : ℕ) → (resource_of l'.standing r).class ≡ (resource_of l.standing r).class
  pub loads : l'.standing.loads ≡ l.standing.loads
  pub positions : (r : ℕ) → position l'.standing r m ≡ position l.standing r m
  pub own : (r : ℕ) → payment_without_bilaterals l'.standing r m ≡ payment_without_bilaterals l.standing r m
  pub paid : (r : ℕ) → payment l'.standing r m ≡ payment l.standing r m
  pub deducted : (r : ℕ) → deduction l'.standing l'.rents r m ≡ deduction l.standing l.rents r m
  pub penalized : (r : ℕ) → month_penalty l'.postings r m ≡ month_penalty l.postings r m
  pub weighed : (r : ℕ) → weight_of l'.postings r m ≡ weight_of l.postings r m
  pub still : closed l' m ≡ true

module _ (l l' : Ledger) (m : ℕ) (c : closed l m ≡ true) (e : SameEntries l l' m) where
  same_sum : (z : ℕ) (f g : ℕ → ℤ) → ((r : ℕ) → f r ≡ g r) → zone_sum l'.standing z f ≡ zone_sum l.standing z g
  unfolding zone_sum
  same_sum z f g h = ap₂ sum_to e.count (fun_ext (λ r. ap₂ (λ (y : ℕ) (v : ℤ). only (eqb y z) v) (e.zones r) (h r)))

  same_pool : (z : ℕ) → pool l'.standing l'.postings z m ≡ pool l.standing l.postings z m
  unfolding pool
  same_pool z = same_sum z _ _ e.penalized

  same_recipient : (r : ℕ) → is_recipient l'.standing l'.postings m r ≡ is_recipient l.standing l.postings m r
  unfolding is_recipient
  same_recipient r = rw (e.positions r, e.classes r, e.weighed r) refl

  same_weights : (z : ℕ) → credit_weights l'.standing l'.postings z m ≡ credit_weights l.standing l.postings z m
  unfolding credit_weights credit_weight
  same_weights z = ap₂ each_to e.count (fun_ext (λ r. rw (e.zones r, same_recipient r, e.weighed r) refl))

  same_credit : (r : ℕ) → credit l' m r ≡ credit l m r
  unfolding credit credit_at_close
  same_credit r = ap₂ only (e.still ∙ sym c)
      (ap (λ (z : ℕ). row_of (pos 0) (shares (pool l'.standing l'.postings z m) (credit_weights l'.standing l'.postings z m)) r) (e.zones r)
      ∙ ap₂ (λ (x : ℤ) (ws : List ℤ). row_of (pos 0) (shares x ws) r) (same_pool (zone_of l.standing r)) (same_weights (zone_of l.standing r)))

  same_unshared : (z : ℕ) → unshared l'.standing l'.postings z m ≡ unshared l.standing l.postings z m
  unfolding unshared
  same_unshared z = ap₂ leftover (same_pool z) (same_weights z)

  same_cost : (z : ℕ) → cost l'.standing l'.rents l'.postings z m ≡ cost l.standing l.rents l.postings z m
  unfolding cost
  same_cost z = ap₂ ◌-ℤ◌ (ap₂ ◌-ℤ◌ (same_sum z _ _ e.own) (same_sum z _ _ e.deducted)) (same_unshared z)

  same_load : (k : ℕ) → load_of l'.standing k ≡ load_of l.standing k
  unfolding load_of
  same_load k = ap (λ (xs : List Load). row_of no_load xs k) e.loads

  same_charge_weights : (z : ℕ) → charge_weights l'.standing z ≡ charge_weights l.standing z
  unfolding charge_weights charge_weight
  same_charge_weights z = ap₂ each_to (ap length e.loads) (fun_ext (λ k. rw (same_load k) refl))

  same_charge : (k : ℕ) → charge l' m k ≡ charge l m k
  unfolding charge charge_at_close
  same_charge k = ap₂ only (e.still ∙ sym c)
      (ap (λ (x : Load). row_of (pos 0) (shares (cost l'.standing l'.rents l'.postings x.zone m) (charge_weights l'.standing x.zone)) k) (same_load k)
      ∙ ap₂ (λ (x : ℤ) (ws : List ℤ). row_of (pos 0) (shares x ws) k) (same_cost (load_of l.standing k).zone) (same_charge_weights (load_of l.standing k).zone))

  same_remainder : (z : ℕ) → remainder l'.standing l'.rents l'.postings z m ≡ remainder l.standing l.rents l.postings z m
  unfolding remainder
  same_remainder z = ap₂ leftover (same_cost z) (same_charge_weights z)

  pub month_stays : MonthStays l l' m
  month_stays = record {
    still_closed = e.still;
    resource = λ r. rw (e.paid r, e.deducted r, e.penalized r, same_credit r) refl;
    load = same_charge;
    zone = λ z. rw (same_unshared z, same_remainder z) refl;
  }

-- ---- a closed month
module _ (l : Ledger) (m : ℕ) (c : closed l m ≡ true) where
  low : 1 ≤ m
  unfolding closed
  low = leb-true 1 m (and_parts (leb 1 m) (leb m (closed_months l.stage l.month)) c).0

  high : m ≤ closed_months l.stage l.month
  unfolding closed
  high = leb-true m _ (and_parts (leb 1 m) (leb m (closed_months l.stage l.month)) c).1

  at : (st : Stage) → l.stage ≡ st → m ≤ closed_months st l.month
  at st e = subst (λ (st : Stage). m ≤ closed_months st l.month) e high

  pub begun : m ≤ l.month
  begun = by l.stage high
    where
      by : (st : Stage) → m ≤ closed_months st l.month → m ≤ l.month
      by SetUp h = absurd (omega (arith, low))
      by Running h = omega arith
      by Closed h = h

  pub never_set_up : l.stage ≡ SetUp → ⊥
  never_set_up e = let h = at SetUp e in let k = low in omega arith

  pub not_running_month : l.stage ≡ Running → l.month ≡ m → ⊥
  not_running_month e f = let h = at Running e in let k = low in omega arith

  -- the same entries, at a later stage
  pub moves_on : (st : Stage) (b : ℕ) → m ≤ closed_months st b → SameEntries l (at_stage l st b) m
  unfolding closed
  moves_on st b h = record {
    count = refl;
    zones = λ r. refl;
    classes = λ r. refl;
    loads = refl;
    positions = λ r. refl;
    own = λ r. refl;
    paid = λ r. refl;
    deducted = λ r. refl;
    penalized = λ r. refl;
    weighed = λ r. refl;
    still = and_from (leb 1 m) _ (le-leb 1 m low) (le-leb m _ h);
  }

  -- a rent of the month in hand
  pub rent_after : (x : Rent) → x.month ≡ l.month → SameEntries l (with_rent l x) m
  unfolding closed
  rent_after x e = record {
    count = refl;
    zones = λ r. refl;
    classes = λ r. refl;
    loads = refl;
    positions = λ r. refl;
    own = λ r. refl;
    paid = λ r. refl;
    deducted = λ r. rent_later l.standing l.rents x r m (let h = begun in omega (arith, e));
    penalized = λ r. refl;
    weighed = λ r. refl;
    still = c;
  }

  -- an event of the month in hand
  posted_other : (t : Table) (e : Event) → (e.month ≡ m → ⊥) → (g : Posting → Bool) (f : Posting → ℤ) →
      total (λ p. only (g p && eqb p.month m) (f p)) (l.postings ++ added l.standing l.rents l.postings t e) ≡ total (λ p. only (g p && eqb p.month m) (f p)) l.postings
  unfolding posting_of
  posted_other t e o g f =
      total_append h l.postings (added l.standing l.rents l.postings t e)
      ∙ ap (λ (v : ℤ). total h l.postings +ℤ v)
      (rw (added_all l.standing l.rents l.postings t e)
      (total_nil h (added_to l.standing l.rents l.postings t e (length l.standing.resources))
      (of_each l.standing l.rents l.postings t e (λ p. h p ≡ pos 0) (length l.standing.resources)
      (λ r a b z. only_false _ _ (and_right _ (eqb e.month m) (ne_eqb e.month m o))))))
      ∙ +ℤ_idr (total h l.postings)
    where
      h : Posting → ℤ
      h p = only (g p && eqb p.month m) (f p)

  pub event_other : (t : Table) (e : Event) → (e.month ≡ m → ⊥) → SameEntries l (with_event l e (added l.standing l.rents l.postings t e)) m
  unfolding month_penalty weight_of closed
  event_other t e o = record {
    count = refl;
    zones = λ r. refl;
    classes = λ r. refl;
    loads = refl;
    positions = λ r. refl;
    own = λ r. refl;
    paid = λ r. refl;
    deducted = λ r. refl;
    penalized = λ r. posted_other t e o (λ p. eqb p.resource r) (λ p. pos p.penalty);
    weighed = λ r. posted_other t e o (λ p. eqb p.resource r) (λ p. pos p.weight);
    still = c;
  }

-- ---- a trade for later months
abbrev pub runs_at : Trade → ℕ → Bool
runs_at (trade.Bilateral t) m = runs t.first t.last m
runs_at (trade.Auction t) m = runs t.first t.last m

later_nil : (x : Trade) (r m : ℕ) → runs_at x m ≡ false → (moved r m x ≡ pos 0) × (auctioned r m x ≡ pos 0) × (exchanged r m x ≡ pos 0)
unfolding moved auctioned exchanged
later_nil (trade.Bilateral t) r m e = (only_false (runs t.first t.last m) _ e, refl, only_false (runs t.first t.last m) _ e)
later_nil (trade.Auction t) r m e = (only_false (runs t.first t.last m) _ e, only_false (runs t.first t.last m) _ e, refl)

push_nil : {X : Type 0} (f : X → ℤ) (xs : List X) (x : X) → f x ≡ pos 0 → total f (xs ++ x ∷ []) ≡ total f xs
push_nil f xs x e = total_push f xs x ∙ ap (λ (v : ℤ). total f xs +ℤ v) e ∙ +ℤ_idr (total f xs)

-- what a trade for other months leaves of a resource's month
module _ (s : Standing) (rs : List Resource) (x : Trade) (same : SameButRows s.resources rs) (m : ℕ) (e : runs_at x m ≡ false) where
  pub held_stays : (r : ℕ) → position (traded s rs x) r m ≡ position s r m
  held_stays r = position_with s rs x same r m ∙ ap (λ (v : ℤ). position s r m +ℤ v) (later_nil x r m e).0 ∙ +ℤ_idr (position s r m)

  own_stays : (r : ℕ) → payment_without_bilaterals (traded s rs x) r m ≡ payment_without_bilaterals s r m
  unfolding payment_without_bilaterals
  own_stays r = rw (cleared_stays s rs x same r, supplied_stays s rs x same r, price_stays s rs x same r, push_nil (auctioned r m) s.trades x (later_nil x r m e).1) refl

  pub paid_stays : (r : ℕ) → payment (traded s rs x) r m ≡ payment s r m
  unfolding payment
  paid_stays r = ap₂ ◌+ℤ◌ (own_stays r) (push_nil (exchanged r m) s.trades x (later_nil x r m e).2)

  pub deducted_stays : (rents : List Rent) (r : ℕ) → deduction (traded s rs x) rents r m ≡ deduction s rents r m
  deducted_stays rents r = deduction_stays s rs x same r m (held_stays r) rents

pub trade_later : (l : Ledger) (m : ℕ) → closed l m ≡ true → (rs : List Resource) (x : Trade) → SameButRows l.standing.resources rs → runs_at x m ≡ false → SameEntries l (with_standing l (more_trade l.standing rs x)) m
unfolding closed
trade_later l m c rs x same e = record {
  count = same.count;
  zones = zone_stays l.standing rs x same;
  classes = class_stays l.standing rs x same;
  loads = refl;
  positions = held_stays l.standing rs x same m e;
  own = own_stays l.standing rs x same m e;
  paid = paid_stays l.standing rs x same m e;
  deducted = deducted_stays l.standing rs x same m e l.rents;
  penalized = λ r. refl;
  weighed = λ r. refl;
  still = c;
}
