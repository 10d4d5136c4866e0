-- What is entered keeps its limits.
use Rattle.std.proofs.Common.{◌≡◌, ℕ, zero, suc, ◌≤◌, false, eqb, ltb, List, set, ℤ, pos, negsuc, nat_abs, Ok, subst, arith}
use borrow.Author.Differences.{ints}
use lib.Signed.{lt_z}
use Rattle.std.specs.List.{AllByRecursion}
use Rattle.std.proofs.ByRecursion.{All-get_or, All-push, All-set}
use Rattle.std.proofs.lemmas.Bool.{or_parts, ltb-false}
use Rattle.rules.specs.declared.rows.Zone.{Zone}
use Rattle.rules.specs.declared.rows.Resource.{Resource}
use Rattle.rules.specs.declared.rows.Load.{Load}
use Rattle.rules.specs.declared.rows.Trade.{Trade}
use Rattle.rules.specs.declared.rows.Rent.{Rent}
use Rattle.rules.specs.Kept.{ZoneBounded, ResourceBounded, LoadBounded, TradeBounded, Bounded}
use Rattle.rules.specs.Ledger.{Standing, Ledger, more_zone, more_resource, more_load, more_trade, with_rent}
use Rattle.rules.specs.Positions.{with_row}
use Rattle.rules.specs.Rows.{no_resource}
use Rattle.rules.specs.Tests.{price_test, rents_test, cleared_test, supplied_test, obligation_test, quantity_test, amount_test}
use Rattle.rules.proofs.Above.{all_below}
use Rattle.rules.proofs.Changes.{Found}
use Rattle.rules.proofs.Through.{passed}

-- ---- what the tests of limits tell
pub price_within : (p : ℕ) (x : Unit {0}) → price_test p ≡ Ok x → p ≤ 20000
price_within p x e = ltb-false 20000 p (passed _ _ x e)

pub rents_within : (rents : List ℕ) (x : Unit {0}) → rents_test rents ≡ Ok x → AllByRecursion (λ y. y ≤ 10000000000) rents
rents_within rents x e = all_below 10000000000 rents (passed _ _ x e)

pub cleared_within : (c : ℕ) (x : Unit {0}) → cleared_test c ≡ Ok x → c ≤ 200000
cleared_within c x e = ltb-false 200000 c (passed _ _ x e)

pub supplied_within : (c s : ℕ) (x : Unit {0}) → supplied_test c s ≡ Ok x → s ≤ c
supplied_within c s x e = ltb-false c s (passed _ _ x e)

pub quantity_within : (q : ℕ) (x : Unit {0}) → quantity_test q ≡ Ok x → q ≤ 200000
quantity_within q x e = ltb-false 200000 q (or_parts (eqb q 0) (ltb 200000 q) (passed _ _ x e)).1

pub amount_within : (a : ℕ) (x : Unit {0}) → amount_test a ≡ Ok x → a ≤ 10000000000
amount_within a x e = ltb-false 10000000000 a (passed _ _ x e)

size_within : (z : ℤ) → lt_z z (negsuc 199999) ≡ false → lt_z (pos 200000) z ≡ false → nat_abs z ≤ 200000
size_within (pos n) a b = omega (arith, ints)
size_within (negsuc n) a b = omega (arith, ints)

pub obligation_within : (o : ℤ) (x : Unit {0}) → obligation_test o ≡ Ok x → nat_abs o ≤ 200000
obligation_within o x e = let p = or_parts (lt_z o (negsuc 199999)) (lt_z (pos 200000) o) (passed _ _ x e) in size_within o p.0 p.1

-- ---- one entry more
pub found_bounded : (s : Standing) (rents : List Rent) (n : ℕ) (x : Resource) → Bounded s rents → Found no_resource s.resources n x → ResourceBounded x
found_bounded s rents zero x b f = absurd (omega (arith, f.low))
found_bounded s rents (suc i) x b f = subst ResourceBounded f.here (All-get_or ResourceBounded s.resources i no_resource f.high b.resources)

module _ (l : Ledger) (b : Bounded l.standing l.rents) where
  pub zone_bounded : (z : Zone) → ZoneBounded z → Bounded (more_zone l.standing z) l.rents
  zone_bounded z h = record { zones = All-push ZoneBounded l.standing.zones z b.zones h; resources = b.resources; loads = b.loads; trades = b.trades; entered = b.entered }

  pub resource_bounded : (r : Resource) → ResourceBounded r → Bounded (more_resource l.standing r) l.rents
  resource_bounded r h = record { zones = b.zones; resources = All-push ResourceBounded l.standing.resources r b.resources h; loads = b.loads; trades = b.trades; entered = b.entered }

  pub load_bounded : (k : Load) → LoadBounded k → Bounded (more_load l.standing k) l.rents
  load_bounded k h = record { zones = b.zones; resources = b.resources; loads = All-push LoadBounded l.standing.loads k b.loads h; trades = b.trades; entered = b.entered }

  pub rent_bounded : (x : Rent) → x.amount ≤ 10000000000 → Bounded l.standing (with_rent l x).rents
  rent_bounded x h = record { zones = b.zones; resources = b.resources; loads = b.loads; trades = b.trades; entered = All-push (λ y. y.amount ≤ 10000000000) l.rents x b.entered h }

  -- a trade changes rows of positions alone
  pub trade_bounded : (rs : List Resource) (t : Trade) → AllByRecursion ResourceBounded rs → TradeBounded t → Bounded (more_trade l.standing rs t) l.rents
  trade_bounded rs t all h = record { zones = b.zones; resources = all; loads = b.loads; trades = All-push TradeBounded l.standing.trades t b.trades h; entered = b.entered }

  pub row_bounded : (rs : List Resource) (i : ℕ) (x : Resource) (row : List ℕ) → AllByRecursion ResourceBounded rs → ResourceBounded x → AllByRecursion ResourceBounded (set rs i (with_row x row))
  row_bounded rs i x row all h = All-set ResourceBounded rs i (with_row x row) h all
