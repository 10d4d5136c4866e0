-- A trade keeps the ledger sound: the rows follow the positions, and no month that has begun changes.
use Rattle.std.proofs.Common.{◌≡◌, ℕ, ◌+◌, ◌-◌, ◌*◌, ◌<◌, ◌≤◌, true, false, leb, ◌⊎◌, List, [], ◌∷◌, ◌++◌, length, get_or, set, ℤ, pos, negsuc, ◌+ℤ◌, ◌-ℤ◌, ◌*ℤ◌, Some, sym, refl, ap, ◌∙◌, subst, ap₂, inl, inr, arith, length-set}
use borrow.Author.Differences.{ints}
use lib.IntN.{+ℤ_idr, +ℤ_assoc}
use Rattle.std.proofs.ByRecursion.{All-push, All-weaker}
use Rattle.std.proofs.lemmas.Bool.{eq-eqb, ne_eqb, lt-leb, and_left, cases_eq}
use Rattle.rules.specs.declared.rows.Auction.{Auction}
use Rattle.rules.specs.declared.rows.Bilateral.{Bilateral}
use Rattle.rules.specs.declared.rows.Resource.{Resource}
use Rattle.rules.specs.declared.rows.Trade.{Trade}
use Rattle.rules.specs.declared.rows.Trade.TheVariants as trade
use Rattle.rules.specs.declared.rows.Change.{Change}
use Rattle.rules.specs.declared.rows.Rent.{Rent}
use Rattle.rules.specs.declared.rows.Posting.{Posting}
use Rattle.rules.specs.Ledger.{Standing, resource_of, zone_of, price_of}
use Rattle.rules.specs.Positions.{runs, moved, position, annual, row_at, covers, changed_row, acquired_of, shed_of, with_row}
use Rattle.rules.specs.Rents.{mean_rent, exposed, deduction, deductions_since_june}
use Rattle.rules.specs.Rows.{row_of, no_resource, no_zone}
use Rattle.rules.specs.Sums.{Known, RowRight}
use Rattle.rules.specs.Totals.{only, total}
use Rattle.rules.proofs.Changes.{Found, row_set, row_other, changed_at}
use Rattle.rules.proofs.Sound.{TradeSound, PostingSound, Limits, Sound}
use Rattle.rules.proofs.Totals.{total_push, only_true, only_false, only_nil, sum_same}

-- ---- resources that differ in their rows only
pub record SameButRows (old new : List Resource) : Type 0 where
  pub count : length new ≡ length old
  pub rest : (r : ℕ) → row_of no_resource new r ≡ with_row (row_of no_resource old r) (row_of no_resource new r).row

pub one_row : (xs : List Resource) (n : ℕ) (x : Resource) (row : List ℕ) → Found no_resource xs n x → SameButRows xs (set xs (n - 1) (with_row x row))
one_row xs n x row f = record { count = length-set xs (n - 1) (with_row x row); rest = λ r. by r (cases_eq n r) }
  where
    ys : List Resource
    ys = set xs (n - 1) (with_row x row)

    at : row_of no_resource ys n ≡ with_row x row
    at = row_set no_resource xs (with_row x row) n f.low f.high

    by : (r : ℕ) → (n ≡ r) ⊎ (n ≡ r → ⊥) → row_of no_resource ys r ≡ with_row (row_of no_resource xs r) (row_of no_resource ys r).row
    by r (inl e) = subst (λ (r : ℕ). row_of no_resource ys r ≡ with_row (row_of no_resource xs r) (row_of no_resource ys r).row) e (rw (at, f.here) refl)
    by r (inr o) = rw (row_other no_resource xs (with_row x row) n r f.low o) refl

pub two_rows : (xs ys zs : List Resource) → SameButRows xs ys → SameButRows ys zs → SameButRows xs zs
two_rows xs ys zs h k = record { count = k.count ∙ h.count; rest = λ r. k.rest r ∙ ap (λ (u : Resource). with_row u (row_of no_resource zs r).row) (h.rest r) }

-- ---- a trade is booked
abbrev pub traded : Standing → List Resource → Trade → Standing
traded s rs x = record { zones = s.zones; resources = rs; loads = s.loads; trades = s.trades ++ x ∷ [] }

module _ (s : Standing) (rs : List Resource) (x : Trade) (same : SameButRows s.resources rs) where
  abbrev Stays : {X : Type 0} → (Resource → X) → Type 0
  Stays f = (r : ℕ) → f (resource_of (traded s rs x) r) ≡ f (resource_of s r)

  pub cleared_stays : Stays (λ u. u.cleared)
  unfolding resource_of
  cleared_stays r = ap (λ (u : Resource). u.cleared) (same.rest r)

  pub supplied_stays : Stays (λ u. u.supplied)
  unfolding resource_of
  supplied_stays r = ap (λ (u : Resource). u.supplied) (same.rest r)

  pub class_stays : Stays (λ u. u.class)
  unfolding resource_of
  class_stays r = ap (λ (u : Resource). u.class) (same.rest r)

  pub zone_stays : (r : ℕ) → zone_of (traded s rs x) r ≡ zone_of s r
  unfolding zone_of resource_of
  zone_stays r = ap (λ (u : Resource). u.zone) (same.rest r)

  pub price_stays : (r : ℕ) → price_of (traded s rs x) r ≡ price_of s r
  unfolding price_of
  price_stays r = ap (λ (z : ℕ). (row_of no_zone s.zones z).price) (zone_stays r)

  pub position_with : (r m : ℕ) → position (traded s rs x) r m ≡ position s r m +ℤ moved r m x
  unfolding position
  position_with r m =
      ap₂ (λ (c : ℕ) (v : ℤ). pos c +ℤ v) (cleared_stays r) (total_push (moved r m) s.trades x)
      ∙ sym (+ℤ_assoc (pos (resource_of s r).cleared) (total (moved r m) s.trades) (moved r m x))

  pub known_stays : (r : ℕ) → Known s r → Known (traded s rs x) r
  known_stays r k = record { low = k.low; high = rw same.count k.high }

  pub known_before : (r : ℕ) → Known (traded s rs x) r → Known s r
  known_before r k = record { low = k.low; high = rw same.count at k.high }

  trade_stays : (t : Trade) → TradeSound s t → TradeSound (traded s rs x) t
  trade_stays (trade.Bilateral t) h = (known_stays t.shedder h.0, known_stays t.acquirer h.1, zone_stays t.shedder ∙ h.2 ∙ sym (zone_stays t.acquirer))
  trade_stays (trade.Auction t) h = known_stays t.resource h

  -- ---- a month in which the trade moves nothing
  module _ (r m : ℕ) (e : position (traded s rs x) r m ≡ position s r m) where
    pub deduction_stays : (rents : List Rent) → deduction (traded s rs x) rents r m ≡ deduction s rents r m
    unfolding deduction mean_rent exposed
    deduction_stays rents = rw (e, supplied_stays r, price_stays r, zone_stays r, class_stays r) refl

    annual_stays : annual (traded s rs x) r m ≡ annual s r m
    unfolding annual
    annual_stays = rw (e, price_stays r) refl

    month_limit_stays : pos (5 * price_of (traded s rs x) r) *ℤ position (traded s rs x) r m ≡ pos (5 * price_of s r) *ℤ position s r m
    month_limit_stays = rw (e, price_stays r) refl

  since_stays : (rents : List Rent) (r m : ℕ) → ((k : ℕ) → 1 ≤ k → k ≤ m → position (traded s rs x) r k ≡ position s r k) → deductions_since_june (traded s rs x) rents r m ≡ deductions_since_june s rents r m
  unfolding deductions_since_june
  since_stays rents r m e = sum_same m (deduction (traded s rs x) rents r) (deduction s rents r) (λ k a c. deduction_stays r k (e k a c) rents)

  pub trade_enters : (b : ℕ) (rents : List Rent) (ps : List Posting) → TradeSound s x →
      ((r m : ℕ) → m ≤ b → moved r m x ≡ pos 0) →
      ((r m : ℕ) → Known s r → 1 ≤ m → m ≤ 12 → (pos (row_at (traded s rs x) r m) ≡ pos (row_at s r m) +ℤ moved r m x) × (row_at (traded s rs x) r m ≤ 200000)) →
      Sound s b rents ps → Sound (traded s rs x) b rents ps
  trade_enters b rents ps sound later moves h = record {
    year = h.year;
    rows = λ r m k a c. let i = moves r m (known_before r k) a c in record
        { same = i.0 ∙ ap (λ (v : ℤ). v +ℤ moved r m x) (h.rows r m (known_before r k) a c).same ∙ sym (position_with r m); high = i.1 };
    trades = All-push (TradeSound (traded s rs x)) s.trades x (All-weaker (TradeSound s) (TradeSound (traded s rs x)) trade_stays s.trades h.trades) (trade_stays x sound);
    postings = All-weaker (PostingSound s b) (PostingSound (traded s rs x) b) (λ p i. record { resource = known_stays p.resource i.resource; low = i.low; high = i.high }) ps h.postings;
    limits = λ r m k low high. let i : Limits s rents ps r m = h.limits r m (known_before r k) low high in record {
      day = λ d. rw (annual_stays r m (same_position r m high)) (i.day d);
      month = rw (month_limit_stays r m (same_position r m high)) i.month;
      period = rw (annual_stays r m (same_position r m high), since_stays rents r m (λ k a c. same_position r k (omega arith))) i.period;
    };
  }
    where
      same_position : (r m : ℕ) → m ≤ b → position (traded s rs x) r m ≡ position s r m
      same_position r m o = position_with r m ∙ ap (λ (v : ℤ). position s r m +ℤ v) (later r m o) ∙ +ℤ_idr (position s r m)

-- ---- what the trade moves
covers_runs : (ch : Change) (m : ℕ) → 1 ≤ m → covers ch (m - 1) ≡ runs ch.first ch.last m
unfolding runs
covers_runs ch m h = let at : m - 1 + 1 ≡ m = omega arith in rw at refl

-- the row of one resource after a change
pub row_moves : (s s' : Standing) (n m : ℕ) (x : Resource) (ch : Change) (new : List ℕ) → resource_of s n ≡ x → (resource_of s' n).row ≡ new → changed_row ch x.row ≡ Some new → 1 ≤ m → m ≤ 12 → RowRight s n m →
    (pos (row_at s' n m) ≡ pos (row_at s n m) +ℤ only (runs ch.first ch.last m) (pos ch.acquired -ℤ pos ch.shed)) × (row_at s' n m ≤ 200000)
unfolding row_at
row_moves s s' n m x ch new e e' c low high i =
    let before : get_or (resource_of s n).row (m - 1) 0 ≡ get_or x.row (m - 1) 0 = ap (λ (u : Resource). get_or u.row (m - 1) 0) e in
    let after : get_or (resource_of s' n).row (m - 1) 0 ≡ get_or new (m - 1) 0 = ap (λ (u : List ℕ). get_or u (m - 1) 0) e' in
    let moves = changed_at ch x.row new (m - 1) c (omega arith) (rw (← before) i.high) in
    rw (after, before, ← (covers_runs ch m low)) moves

pub row_stays : (s s' : Standing) (n m : ℕ) (x : Trade) → resource_of s' n ≡ resource_of s n → moved n m x ≡ pos 0 → RowRight s n m →
    (pos (row_at s' n m) ≡ pos (row_at s n m) +ℤ moved n m x) × (row_at s' n m ≤ 200000)
unfolding row_at
row_stays s s' n m x e z i = (rw (z, e) (sym (+ℤ_idr (pos (get_or (resource_of s n).row (m - 1) 0)))), rw e i.high)

pub not_running : (first last m b : ℕ) → b < first → m ≤ b → runs first last m ≡ false
unfolding runs
not_running first last m b h k = and_left (leb first m) (leb m last) (lt-leb first m (omega arith))

pub no_move : (r m : ℕ) (t : Bilateral) → runs t.first t.last m ≡ false → moved r m (trade.Bilateral t) ≡ pos 0
unfolding moved
no_move r m t e = only_false (runs t.first t.last m) _ e

pub no_auction : (r m : ℕ) (t : Auction) → runs t.first t.last m ≡ false → moved r m (trade.Auction t) ≡ pos 0
unfolding moved
no_auction r m t e = only_false (runs t.first t.last m) _ e

pub no_part : (r m : ℕ) (t : Bilateral) → (t.shedder ≡ r → ⊥) → (t.acquirer ≡ r → ⊥) → moved r m (trade.Bilateral t) ≡ pos 0
unfolding moved
no_part r m t n n' = rw (ne_eqb t.acquirer r n', ne_eqb t.shedder r n, only_false false (pos t.quantity) refl, only_nil (runs t.first t.last m)) refl

pub no_bid : (r m : ℕ) (t : Auction) → (t.resource ≡ r → ⊥) → moved r m (trade.Auction t) ≡ pos 0
unfolding moved
no_bid r m t n = rw (ne_eqb t.resource r n, only_false false t.quantity refl, only_nil (runs t.first t.last m)) refl

pub shed_moves : (m : ℕ) (t : Bilateral) → (t.shedder ≡ t.acquirer → ⊥) → moved t.shedder m (trade.Bilateral t) ≡ only (runs t.first t.last m) (pos 0 -ℤ pos t.quantity)
unfolding moved
shed_moves m t n = rw (ne_eqb t.acquirer t.shedder (λ e. n (sym e)), eq-eqb t.shedder t.shedder refl, only_false false (pos t.quantity) refl, only_true true (pos t.quantity) refl) refl

pub acquired_moves : (m : ℕ) (t : Bilateral) → (t.shedder ≡ t.acquirer → ⊥) → moved t.acquirer m (trade.Bilateral t) ≡ only (runs t.first t.last m) (pos t.quantity -ℤ pos 0)
unfolding moved
acquired_moves m t n = rw (ne_eqb t.shedder t.acquirer n, eq-eqb t.acquirer t.acquirer refl, only_false false (pos t.quantity) refl, only_true true (pos t.quantity) refl) refl

acquired_less_shed : (q : ℤ) → q ≡ pos (acquired_of q) -ℤ pos (shed_of q)
acquired_less_shed (pos n) = omega (arith, ints)
acquired_less_shed (negsuc n) = omega (arith, ints)

pub auction_moves : (m : ℕ) (t : Auction) → moved t.resource m (trade.Auction t) ≡ only (runs t.first t.last m) (pos (acquired_of t.quantity) -ℤ pos (shed_of t.quantity))
unfolding moved
auction_moves m t = rw (eq-eqb t.resource t.resource refl, only_true true t.quantity refl) (ap (only (runs t.first t.last m)) (acquired_less_shed t.quantity))
