-- A zone's load charges fall short of what its resources are paid net by less than a cent for each load.
use Rattle.std.proofs.Common.{◌≡◌, ℕ, Bool, true, false, not, eqb, List, length, ℤ, pos, ◌+ℤ◌, ◌-ℤ◌, nat_abs, ◌≤ℤ◌, ◌<ℤ◌, sym, refl, ap, ◌∙◌, ap₂, arith}
use borrow.Author.Differences.{ints}
use lib.IntN.{+ℤ_idr}
use Rattle.std.specs.List.{AllByRecursion}
use Rattle.std.proofs.lemmas.Bool.{eqb-true}
use Rattle.rules.specs.Totals.{only, total, sum_to}
use Rattle.rules.specs.declared.rows.Rent.{Rent}
use Rattle.rules.specs.declared.rows.Posting.{Posting}
use Rattle.rules.specs.Charges.{cost, load_sum, obligations, loads_of, charge_weight, charge_weights, charge_at_close, charge, charges, net, nets}
use Rattle.rules.specs.Credits.{zone_sum, pool, credit, credit_at_close, credit_weight, credit_weights, unshared}
use Rattle.rules.specs.Ledger.{Standing, Ledger, closed, load_of}
use Rattle.rules.specs.Payments.{exchanged, payment_without_bilaterals, payment}
use Rattle.rules.specs.Penalties.{month_penalty}
use Rattle.rules.specs.Rents.{deduction}
use Rattle.rules.specs.Sums.{JustBelow}
use Rattle.rules.proofs.Shares.{share, parties, shares_fill, share_nil, share_none, sum_shares}
use Rattle.rules.proofs.Totals.{only_true, only_false, only_nil, sum_same, sum_le}
use Rattle.rules.proofs.Credits.{credits_are}
use Rattle.rules.proofs.Sound.{TradeSound}
use Rattle.rules.proofs.Zones.{zone_same, zone_add, zone_sub, exchanges_nil}

-- bilaterals change no zone's sum of payments
payments_are : (s : Standing) (z m : ℕ) → AllByRecursion (TradeSound s) s.trades → zone_sum s z (λ r. payment s r m) ≡ zone_sum s z (λ r. payment_without_bilaterals s r m)
unfolding payment
payments_are s z m h =
    zone_add s z (λ r. payment_without_bilaterals s r m) (λ r. total (exchanged r m) s.trades)
    ∙ ap (λ (x : ℤ). zone_sum s z (λ r. payment_without_bilaterals s r m) +ℤ x) (exchanges_nil s z m s.trades h)
    ∙ +ℤ_idr (zone_sum s z (λ r. payment_without_bilaterals s r m))

-- the unshared sum of a closed month is what the credits leave of the pool
unshared_is : (s : Standing) (ps : List Posting) (z m : ℕ) → unshared s ps z m ≡ pool s ps z m -ℤ zone_sum s z (credit_at_close s ps m)
unfolding unshared credit_weights
unshared_is s ps z m =
    rest (sum_to (length s.resources) (share (length s.resources) (credit_weight s ps z m) (pool s ps z m))) (zone_sum s z (credit_at_close s ps m)) _ (pool s ps z m)
    (sum_shares (length s.resources) (credit_weight s ps z m) (pool s ps z m)) (credits_are s ps z m)
  where
    rest : (a b c d : ℤ) → a +ℤ c ≡ d → b ≡ a → c ≡ d -ℤ b
    rest a b c d e f = omega (arith, ints)

pooled : (s : Standing) (ps : List Posting) (z m : ℕ) → zone_sum s z (λ r. month_penalty ps r m) ≡ pool s ps z m
unfolding pool
pooled s ps z m = refl

-- the cost of a zone in a closed month is what its resources are paid net
pub cost_is : (l : Ledger) (z m : ℕ) → AllByRecursion (TradeSound l.standing) l.standing.trades → closed l m ≡ true → nets l z m ≡ cost l.standing l.rents l.postings z m
unfolding nets net cost credit
cost_is l z m h c =
    zone_add s z (λ r. payment s r m -ℤ deduction s l.rents r m -ℤ month_penalty l.postings r m) (credit l m)
    ∙ ap (λ (x : ℤ). x +ℤ zone_sum s z (credit l m))
    (zone_sub s z (λ r. payment s r m -ℤ deduction s l.rents r m) (λ r. month_penalty l.postings r m)
    ∙ ap (λ (x : ℤ). x -ℤ zone_sum s z (λ r. month_penalty l.postings r m))
    (zone_sub s z (λ r. payment s r m) (λ r. deduction s l.rents r m)
    ∙ ap (λ (x : ℤ). x -ℤ zone_sum s z (λ r. deduction s l.rents r m)) (payments_are s z m h)))
    ∙ turned (zone_sum s z (λ r. payment_without_bilaterals s r m)) (zone_sum s z (λ r. deduction s l.rents r m)) (zone_sum s z (λ r. month_penalty l.postings r m)) (zone_sum s z (credit l m))
    ∙ ap (λ (x : ℤ). (zone_sum s z (λ r. payment_without_bilaterals s r m) -ℤ zone_sum s z (λ r. deduction s l.rents r m)) -ℤ x) unshared_now
  where
    s : Standing
    s = l.standing

    turned : (a b c d : ℤ) → ((a -ℤ b) -ℤ c) +ℤ d ≡ (a -ℤ b) -ℤ (c -ℤ d)
    turned a b c d = omega (arith, ints)

    unshared_now : zone_sum s z (λ r. month_penalty l.postings r m) -ℤ zone_sum s z (credit l m) ≡ unshared s l.postings z m
    unshared_now =
        ap₂ ◌-ℤ◌ (pooled s l.postings z m) (zone_same s z (credit l m) (credit_at_close s l.postings m) (λ r. only_true (closed l m) _ c))
        ∙ sym (unshared_is s l.postings z m)

-- a load of another zone has no part in a zone's cost
elsewhere : (s : Standing) (z k : ℕ) → eqb (load_of s k).zone z ≡ false → charge_weight s z k ≡ pos 0
unfolding charge_weight
elsewhere s z k e = only_false _ _ e

weights_above : (s : Standing) (z : ℕ) → pos 0 <ℤ obligations s z → pos 0 <ℤ sum_to (length s.loads) (charge_weight s z)
unfolding obligations load_sum charge_weight
weights_above s z h = h

weights_below : (s : Standing) (z : ℕ) → obligations s z ≤ℤ pos 0 → sum_to (length s.loads) (charge_weight s z) ≤ℤ pos 0
unfolding obligations load_sum charge_weight
weights_below s z h = h

at_close : (s : Standing) (rents : List Rent) (ps : List Posting) (m k : ℕ) → charge_at_close s rents ps m k ≡ share (length s.loads) (charge_weight s (load_of s k).zone) (cost s rents ps (load_of s k).zone m) k
unfolding charge_at_close charge_weights share
at_close s rents ps m k = refl

charges_are : (l : Ledger) (z m : ℕ) → closed l m ≡ true → charges l z m ≡ sum_to (length l.standing.loads) (share (length l.standing.loads) (charge_weight l.standing z) (cost l.standing l.rents l.postings z m))
unfolding charges load_sum charge
charges_are l z m c = sum_same n _ _ (λ k _ _. by k (eqb (load_of s k).zone z) refl)
  where
    s : Standing
    s = l.standing

    n : ℕ
    n = length s.loads

    by : (k : ℕ) (b : Bool) → eqb (load_of s k).zone z ≡ b → only b (charge l m k) ≡ share n (charge_weight s z) (cost s l.rents l.postings z m) k
    by k true e = only_true true _ refl ∙ only_true (closed l m) _ c ∙ at_close s l.rents l.postings m k ∙ ap (λ (y : ℕ). share n (charge_weight s y) (cost s l.rents l.postings y m) k) (eqb-true (load_of s k).zone z e)
    by k false e = only_false false _ refl ∙ sym (share_nil n (charge_weight s z) (cost s l.rents l.postings z m) k (elsewhere s z k e))

-- those with an obligation other than nil are loads of the zone
parties_few : (s : Standing) (z : ℕ) → parties (length s.loads) (charge_weight s z) ≤ℤ loads_of s z
unfolding parties charge_weight loads_of load_sum only
parties_few s z = sum_le (length s.loads) _ _ (λ k. by (eqb (load_of s k).zone z) (load_of s k).obligation)
  where
    by : (b : Bool) (w : ℤ) → only (not (eqb (nat_abs (only b w)) 0)) (pos 1) ≤ℤ only b (pos 1)
    by false w = omega (arith, ints)
    by true w = one (not (eqb (nat_abs w) 0))
      where
        one : (t : Bool) → only t (pos 1) ≤ℤ pos 1
        one true = omega (arith, ints)
        one false = omega (arith, ints)

pub charges_fill : (l : Ledger) (z m : ℕ) → AllByRecursion (TradeSound l.standing) l.standing.trades → closed l m ≡ true → pos 0 <ℤ obligations l.standing z → JustBelow (charges l z m) (nets l z m) (loads_of l.standing z)
charges_fill l z m t c h =
    let f = shares_fill (length l.standing.loads) (charge_weight l.standing z) (cost l.standing l.rents l.postings z m) (weights_above l.standing z h) in
    rw (charges_are l z m c, cost_is l z m t c) (f.0, wider _ _ _ _ f.1 (parties_few l.standing z))
  where
    wider : (x y p q : ℤ) → y <ℤ (x +ℤ p) → p ≤ℤ q → y <ℤ (x +ℤ q)
    wider x y p q h k = omega (arith, ints)

pub charges_open : (l : Ledger) (m k : ℕ) → closed l m ≡ false → charge l m k ≡ pos 0
unfolding charge
charges_open l m k c = only_false _ _ c

pub charges_none : (l : Ledger) (z m k : ℕ) → obligations l.standing z ≤ℤ pos 0 → (load_of l.standing k).zone ≡ z → charge l m k ≡ pos 0
unfolding charge
charges_none l z m k h q =
    ap (λ (x : ℤ). only (closed l m) x)
    (at_close s l.rents l.postings m k
    ∙ ap (λ (y : ℕ). share (length s.loads) (charge_weight s y) (cost s l.rents l.postings y m) k) q
    ∙ share_none (length s.loads) (charge_weight s z) (cost s l.rents l.postings z m) k (weights_below s z h))
    ∙ only_nil (closed l m)
  where
    s : Standing
    s = l.standing
