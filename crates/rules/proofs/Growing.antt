-- What an entry that a book takes leaves: the standing entries, as they were entered, with that one more; and figures of
-- at most eleven digits.
use Rattle.std.proofs.Common.{◌≡◌, ℕ, zero, suc, ◌-◌, ◌^◌, ◌<◌, ◌≤◌, false, ◌||◌, ltb, leb, List, [], ◌∷◌, ◌++◌, map, length, set, nat_abs, Some, Ok, Err, Result, sym, refl, ap, ◌∙◌, subst, append_assoc, append-nil, arith, length-set}
use Rattle.std.specs.List.{slice_get, AllByRecursion}
use Rattle.std.proofs.lemmas.List.{map-append, map-set, length_push}
use Rattle.std.proofs.lemmas.Bool.{ltb-false, leb-false, or_parts}
use Rattle.rules.specs.declared.class.Class.{Class}
use Rattle.rules.specs.declared.class.Class.TheVariants.{Generating, Import, NonIntermittentSettlementOnly, IntermittentPower, IntermittentSettlementOnly}
use Rattle.rules.specs.declared.entry.Entry.{Entry}
use Rattle.rules.specs.declared.entry.Entry.TheVariants.{Zone, Resource, Load, Trade}
use Rattle.rules.specs.declared.entry.Offer.{Offer}
use Rattle.rules.specs.declared.refusal.Refusal.{Refusal}
use Rattle.rules.specs.declared.refusal.Refusal.TheVariants.{ZonesFull, ResourcesFull, LoadsFull, TradesFull, ClassUnknown, ResourceUnknown}
use Rattle.rules.specs.declared.rows.Auction.{Auction}
use Rattle.rules.specs.declared.rows.Bilateral.{Bilateral}
use Rattle.rules.specs.declared.rows.Load.{Load as LoadRow}
use Rattle.rules.specs.declared.rows.Resource.{Resource as Row}
use Rattle.rules.specs.declared.rows.Stage.TheVariants.{SetUp}
use Rattle.rules.specs.declared.rows.Trade.TheVariants as trade
use Rattle.rules.specs.declared.rows.Zone.{Zone as ZoneRow}
use Rattle.rules.specs.Calls.{Answered, into, open_call}
use Rattle.rules.specs.Chains.{after, then}
use Rattle.rules.specs.Classes.{class_of, letter_of}
use Rattle.rules.specs.Ledger.{Standing, Ledger, opened}
use Rattle.rules.specs.Positions.{shedding, acquiring, auction_change, with_row}
use Rattle.rules.specs.Replays.{zone_entry, resource_entry, load_entry, trade_entry, taken, enter}
use Rattle.rules.specs.Rows.{numbered, no_resource}
use Rattle.rules.specs.Tests.{year_test, peak_test, ticket_test, room_test, price_test, rents_test, zone_test, class_test, cleared_test, supplied_test, obligation_test, resource_test, parties_test, months_test, quantity_test, position_test}
use Rattle.rules.proofs.Bounds.{price_within, rents_within, cleared_within, supplied_within, quantity_within, obligation_within}
use Rattle.rules.proofs.Changes.{Found, found}
use Rattle.rules.proofs.Classes.{class_laws}
use Rattle.rules.proofs.Through.{clash, passed, given}

-- ---- what is left of a ledger
-- its standing entries, as they were entered
abbrev pub zones_of : Ledger → List Entry
zones_of l = map zone_entry l.standing.zones

abbrev pub resources_of : Ledger → List Entry
resources_of l = map resource_entry l.standing.resources

abbrev pub loads_of : Ledger → List Entry
loads_of l = map load_entry l.standing.loads

abbrev pub trades_of : Ledger → List Entry
trades_of l = map trade_entry l.standing.trades

-- the entries that the ledger m has more than l
pub record Grown (zs rs ks ts : List Entry) (l m : Ledger) : Type 0 where
  pub year : m.year ≡ l.year
  pub peak : m.peak ≡ l.peak
  pub zones : zones_of m ≡ zones_of l ++ zs
  pub resources : resources_of m ≡ resources_of l ++ rs
  pub loads : loads_of m ≡ loads_of l ++ ks
  pub trades : trades_of m ≡ trades_of l ++ ts

-- one entry more, of its kind
abbrev pub Added : Entry → Ledger → Ledger → Type 0
Added (Zone z) l m = Grown (Zone z ∷ []) [] [] [] l m
Added (Resource r) l m = Grown [] (Resource r ∷ []) [] [] l m
Added (Load k) l m = Grown [] [] (Load k ∷ []) [] l m
Added (Trade t) l m = Grown [] [] [] (Trade t ∷ []) l m

-- no list is longer than a book allows
pub record Few (l : Ledger) : Type 0 where
  pub zones : length l.standing.zones ≤ 8
  pub resources : length l.standing.resources ≤ 64
  pub loads : length l.standing.loads ≤ 32
  pub trades : length l.standing.trades ≤ 128

-- figures of at most eleven digits, and a capital letter
abbrev pub Low : Entry → Type 0
Low (Zone z) = (z.price < 10 ^ 11) × AllByRecursion (λ x. x < 10 ^ 11) z.rents
Low (Resource r) = (r.zone < 10 ^ 11) × ((65 ≤ r.letter) × (r.letter ≤ 90)) × (r.cleared < 10 ^ 11) × (r.supplied < 10 ^ 11)
Low (Load k) = (k.zone < 10 ^ 11) × (nat_abs k.obligation < 10 ^ 11)
Low (Trade (trade.Bilateral b)) = (b.shedder < 10 ^ 11) × (b.acquirer < 10 ^ 11) × (b.first < 10 ^ 11) × (b.last < 10 ^ 11) × (b.quantity < 10 ^ 11) × (b.price < 10 ^ 11)
Low (Trade (trade.Auction a)) = (a.resource < 10 ^ 11) × (a.first < 10 ^ 11) × (a.last < 10 ^ 11) × (nat_abs a.quantity < 10 ^ 11) × (a.price < 10 ^ 11)

pub record Taken (x : Entry) (l m : Ledger) : Type 0 where
  pub added : Added x l m
  pub few : Few l → Few m
  pub low : Few l → Low x

-- ---- a call that was taken passed its tests
pub same_ok : {A E : Type 0} (x y : A) → ◌≡◌ {A = Result A E} (Ok x) (Ok y) → x ≡ y
same_ok x y e = cc

pub then_ok : {A B E : Type 0} (r : Result A E) (rest : A → Result B E) (y : B) → then r rest ≡ Ok y → (x : A) × (r ≡ Ok x) × (rest x ≡ Ok y)
then_ok (Ok x) rest y e = (x, refl, e)
then_ok (Err d) rest y e = absurd (clash d y e)

pub taken_after : {A B : Type 0} (l : Ledger) (t : Result B Refusal) (rest : B → Answered A Refusal) (m : Ledger) → taken (after l t rest) ≡ Ok m → (x : B) × (t ≡ Ok x) × (taken (rest x) ≡ Ok m)
taken_after l (Ok x) rest m h = (x, refl, h)
taken_after l (Err e) rest m h = absurd (clash e m h)

pub taken_in : {A B : Type 0} (l : Ledger) (t : Result B Refusal) (rest : B → Result A Refusal × Standing) (m : Ledger) → taken (into l (after l.standing t rest)) ≡ Ok m → (x : B) × (t ≡ Ok x) × (taken (into l (rest x)) ≡ Ok m)
taken_in l (Ok x) rest m h = (x, refl, h)
taken_in l (Err e) rest m h = absurd (clash e m h)

-- ---- what the tests tell
rents_low : (rents : List ℕ) → AllByRecursion (λ x. x ≤ 10000000000) rents → AllByRecursion (λ x. x < 10 ^ 11) rents
rents_low [] h = tt
rents_low (x ∷ xs) h = let here : x ≤ 10000000000 = h.0 in (omega arith, rents_low xs h.1)

zone_low : (l : Ledger) (z : ℕ) (u : Unit {0}) → Few l → zone_test l.standing z ≡ Ok u → z < 10 ^ 11
zone_low l z u f h =
    let p = or_parts (ltb z 1) (ltb (length l.standing.zones) z) (passed _ _ u h) in
    let le : z ≤ length l.standing.zones = ltb-false (length l.standing.zones) z p.1 in
    omega (arith, f.zones)

letter_low : (c : Class) → (65 ≤ letter_of c) × (letter_of c ≤ 90)
letter_low Generating = (omega arith, omega arith)
letter_low Import = (omega arith, omega arith)
letter_low NonIntermittentSettlementOnly = (omega arith, omega arith)
letter_low IntermittentPower = (omega arith, omega arith)
letter_low IntermittentSettlementOnly = (omega arith, omega arith)

letter_known : (b : ℕ) (c : Class) → class_test b ≡ Ok c → b ≡ letter_of c
letter_known b c h = class_laws.back b c (given (class_of b) ClassUnknown c h)

resource_known : (l : Ledger) (n : ℕ) (r : Row) → resource_test l.standing n ≡ Ok r → numbered l.standing.resources n ≡ Some r
resource_known l n r h = given (numbered l.standing.resources n) ResourceUnknown r h

resource_low : (l : Ledger) (n : ℕ) (r : Row) → Few l → resource_test l.standing n ≡ Ok r → n < 10 ^ 11
resource_low l n r f h = let there : Found no_resource l.standing.resources n r = found no_resource l.standing.resources n r (resource_known l n r h) in omega (arith, f.resources, there.high)

months_low : (month first last : ℕ) (u : Unit {0}) → months_test month first last ≡ Ok u → (first < 10 ^ 11) × (last < 10 ^ 11)
months_low month first last u h =
    let p = or_parts (ltb first 1) (ltb last first || (ltb 12 last || leb first month)) (passed _ _ u h) in
    let q = or_parts (ltb last first) (ltb 12 last || leb first month) p.1 in
    let r = or_parts (ltb 12 last) (leb first month) q.1 in
    let x : first ≤ last = ltb-false last first q.0 in
    let y : last ≤ 12 = ltb-false 12 last r.0 in
    (omega arith, omega arith)

price_low : (p : ℕ) (u : Unit {0}) → price_test p ≡ Ok u → p < 10 ^ 11
price_low p u h = omega (arith, price_within p u h)

quantity_low : (q : ℕ) (u : Unit {0}) → quantity_test q ≡ Ok u → q < 10 ^ 11
quantity_low q u h = omega (arith, quantity_within q u h)

more : {A : Type 0} (xs : List A) (x : A) (k : ℕ) → leb k (length xs) ≡ false → length (xs ++ x ∷ []) ≤ k
more xs x k h = let lt : length xs < k = leb-false k (length xs) h in omega (arith, length_push xs x)

-- ---- what stays of the other entries
same : (xs : List Entry) → xs ≡ xs ++ []
same xs = sym (append-nil xs)

pushed : {A : Type 0} (f : A → Entry) (xs : List A) (x : A) → map f (xs ++ x ∷ []) ≡ map f xs ++ f x ∷ []
pushed f xs x = map-append f xs (x ∷ [])

nth_set : {A B : Type 0} (f : A → B) (xs : List A) (i : ℕ) (x : A) → slice_get xs i ≡ Some x → set (map f xs) i (f x) ≡ map f xs
nth_set f [] i x h = refl
nth_set f (y ∷ xs) zero x h = let here : y ≡ x = cc in ap (λ z. f z ∷ map f xs) (sym here)
nth_set f (y ∷ xs) (suc i) x h = ap (λ ys. f y ∷ ys) (nth_set f xs i x h)

numbered_set : {A B : Type 0} (f : A → B) (xs : List A) (n : ℕ) (x : A) → numbered xs n ≡ Some x → set (map f xs) (n - 1) (f x) ≡ map f xs
numbered_set f xs zero x h = let z : ◌≡◌ {A = ℕ} 0 1 = cc in absurd (omega arith)
numbered_set f xs (suc i) x h = let p : suc i - 1 ≡ i = omega arith in ap (λ k. set (map f xs) k (f x)) p ∙ nth_set f xs i x h

-- another row of positions leaves a resource as it was entered
row_changes : (rs : List Row) (n : ℕ) (r : Row) (row : List ℕ) → numbered rs n ≡ Some r → map resource_entry (set rs (n - 1) (with_row r row)) ≡ map resource_entry rs
row_changes rs n r row h = map-set resource_entry rs (n - 1) (with_row r row) ∙ numbered_set resource_entry rs n r h

-- ---- each kind
zone_taken : (ticket : ℕ) (z : ZoneRow) (l m : Ledger) → enter ticket (Zone z) l ≡ Ok m → Taken (Zone z) l m
unfolding enter
zone_taken ticket z l m h =
    let a = taken_after l (ticket_test l SetUp ticket) _ m h in
    let b = taken_in l (room_test 8 (length l.standing.zones) ZonesFull) _ m a.2 in
    let c = taken_in l (price_test z.price) _ m b.2 in
    let d = taken_in l (rents_test z.rents) _ m c.2 in
    let new = same_ok _ m d.2 in
    subst (Taken (Zone z) l) new (record {
      added = record { year = refl; peak = refl; zones = pushed zone_entry l.standing.zones _; resources = same (resources_of l); loads = same (loads_of l); trades = same (trades_of l) };
      few = λ f. record { zones = more l.standing.zones _ 8 (passed _ _ _ b.1); resources = f.resources; loads = f.loads; trades = f.trades };
      low = λ f. (price_low z.price _ c.1, rents_low z.rents (rents_within z.rents _ d.1));
    })

resource_taken : (ticket : ℕ) (r : Offer) (l m : Ledger) → enter ticket (Resource r) l ≡ Ok m → Taken (Resource r) l m
unfolding enter
resource_taken ticket r l m h =
    let a = taken_after l (ticket_test l SetUp ticket) _ m h in
    let c = taken_in l (zone_test l.standing r.zone) _ m a.2 in
    let d = taken_in l (room_test 64 (length l.standing.resources) ResourcesFull) _ m c.2 in
    let e = taken_in l (class_test r.letter) _ m d.2 in
    let g = taken_in l (cleared_test r.cleared) _ m e.2 in
    let i = taken_in l (supplied_test r.cleared r.supplied) _ m g.2 in
    let new = same_ok _ m i.2 in
    let letter = letter_known r.letter e.0 e.1 in
    let capital = letter_low e.0 in
    let high : r.cleared ≤ 200000 = cleared_within r.cleared _ g.1 in
    let part : r.supplied ≤ r.cleared = supplied_within r.cleared r.supplied _ i.1 in
    subst (Taken (Resource r) l) new (record {
      added = record { year = refl; peak = refl; zones = same (zones_of l); resources = pushed resource_entry l.standing.resources _ ∙ ap (λ y. resources_of l ++ Resource (record { zone = r.zone; letter = y; cleared = r.cleared; supplied = r.supplied }) ∷ []) (sym letter); loads = same (loads_of l); trades = same (trades_of l) };
      few = λ f. record { zones = f.zones; resources = more l.standing.resources _ 64 (passed _ _ _ d.1); loads = f.loads; trades = f.trades };
      low = λ f. (zone_low l r.zone _ f c.1, (omega (arith, letter, capital.0), omega (arith, letter, capital.1)), omega arith, omega arith);
    })

load_taken : (ticket : ℕ) (k : LoadRow) (l m : Ledger) → enter ticket (Load k) l ≡ Ok m → Taken (Load k) l m
unfolding enter
load_taken ticket k l m h =
    let a = taken_after l (ticket_test l SetUp ticket) _ m h in
    let b = taken_in l (zone_test l.standing k.zone) _ m a.2 in
    let c = taken_in l (room_test 32 (length l.standing.loads) LoadsFull) _ m b.2 in
    let d = taken_in l (obligation_test k.obligation) _ m c.2 in
    let new = same_ok _ m d.2 in
    subst (Taken (Load k) l) new (record {
      added = record { year = refl; peak = refl; zones = same (zones_of l); resources = same (resources_of l); loads = pushed load_entry l.standing.loads _; trades = same (trades_of l) };
      few = λ f. record { zones = f.zones; resources = f.resources; loads = more l.standing.loads _ 32 (passed _ _ _ c.1); trades = f.trades };
      low = λ f. (zone_low l k.zone _ f b.1, omega (arith, obligation_within k.obligation _ d.1));
    })

auction_taken : (ticket : ℕ) (t : Auction) (l m : Ledger) → enter ticket (Trade (trade.Auction t)) l ≡ Ok m → Taken (Trade (trade.Auction t)) l m
unfolding enter
auction_taken ticket t l m h =
    let rs = l.standing.resources in
    let a = taken_in l (room_test 128 (length l.standing.trades) TradesFull) _ m h in
    let b = taken_in l (resource_test l.standing t.resource) _ m a.2 in
    let c = taken_in l (months_test l.month t.first t.last) _ m b.2 in
    let d = taken_in l (price_test t.price) _ m c.2 in
    let g = taken_in l (quantity_test (nat_abs t.quantity)) _ m d.2 in
    let i = taken_in l (position_test (auction_change t) b.0.row) _ m g.2 in
    let new = same_ok _ m i.2 in
    let months = months_low l.month t.first t.last _ c.1 in
    subst (Taken (Trade (trade.Auction t)) l) new (record {
      added = record { year = refl; peak = refl; zones = same (zones_of l); resources = row_changes rs t.resource b.0 i.0 (resource_known l t.resource b.0 b.1) ∙ same (resources_of l); loads = same (loads_of l); trades = pushed trade_entry l.standing.trades _ };
      few = λ w. record { zones = w.zones; resources = subst (λ k. k ≤ 64) (sym (length-set rs (t.resource - 1) (with_row b.0 i.0))) w.resources; loads = w.loads; trades = more l.standing.trades _ 128 (passed _ _ _ a.1) };
      low = λ w. (resource_low l t.resource b.0 w b.1, months.0, months.1, quantity_low (nat_abs t.quantity) _ g.1, price_low t.price _ d.1);
    })

bilateral_taken : (ticket : ℕ) (t : Bilateral) (l m : Ledger) → enter ticket (Trade (trade.Bilateral t)) l ≡ Ok m → Taken (Trade (trade.Bilateral t)) l m
unfolding enter
bilateral_taken ticket t l m h =
    let rs = l.standing.resources in
    let a = taken_in l (room_test 128 (length l.standing.trades) TradesFull) _ m h in
    let b = taken_in l (resource_test l.standing t.shedder) _ m a.2 in
    let c = taken_in l (resource_test l.standing t.acquirer) _ m b.2 in
    let d = taken_in l (parties_test t.shedder b.0.zone t.acquirer c.0.zone) _ m c.2 in
    let g = taken_in l (months_test l.month t.first t.last) _ m d.2 in
    let i = taken_in l (price_test t.price) _ m g.2 in
    let j = taken_in l (quantity_test t.quantity) _ m i.2 in
    let k = taken_in l (position_test (shedding t) b.0.row) _ m j.2 in
    let o = taken_in l (position_test (acquiring t) c.0.row) _ m k.2 in
    let new = same_ok _ m o.2 in
    let months = months_low l.month t.first t.last _ g.1 in
    let less : List Row = set rs (t.shedder - 1) (with_row b.0 k.0) in
    let shed : map resource_entry less ≡ resources_of l = row_changes rs t.shedder b.0 k.0 (resource_known l t.shedder b.0 b.1) in
    let both : map resource_entry (set less (t.acquirer - 1) (with_row c.0 o.0)) ≡ resources_of l =
    map-set resource_entry less (t.acquirer - 1) (with_row c.0 o.0)
    ∙ ap (λ xs. set xs (t.acquirer - 1) (resource_entry c.0)) shed
    ∙ numbered_set resource_entry rs t.acquirer c.0 (resource_known l t.acquirer c.0 c.1) in
    let long : length (set less (t.acquirer - 1) (with_row c.0 o.0)) ≡ length rs = length-set less (t.acquirer - 1) (with_row c.0 o.0) ∙ length-set rs (t.shedder - 1) (with_row b.0 k.0) in
    subst (Taken (Trade (trade.Bilateral t)) l) new (record {
      added = record { year = refl; peak = refl; zones = same (zones_of l); resources = both ∙ same (resources_of l); loads = same (loads_of l); trades = pushed trade_entry l.standing.trades _ };
      few = λ w. record { zones = w.zones; resources = subst (λ y. y ≤ 64) (sym long) w.resources; loads = w.loads; trades = more l.standing.trades _ 128 (passed _ _ _ a.1) };
      low = λ w. (resource_low l t.shedder b.0 w b.1, resource_low l t.acquirer c.0 w c.1, months.0, months.1, quantity_low t.quantity _ j.1, price_low t.price _ i.1);
    })

pub entry_taken : (ticket : ℕ) (x : Entry) (l m : Ledger) → enter ticket x l ≡ Ok m → Taken x l m
entry_taken ticket (Zone z) l m h = zone_taken ticket z l m h
entry_taken ticket (Resource r) l m h = resource_taken ticket r l m h
entry_taken ticket (Load k) l m h = load_taken ticket k l m h
entry_taken ticket (Trade (trade.Bilateral t)) l m h = bilateral_taken ticket t l m h
entry_taken ticket (Trade (trade.Auction t)) l m h = auction_taken ticket t l m h

-- ---- entries one after another
pub grown_none : (l : Ledger) → Grown [] [] [] [] l l
grown_none l = record { year = refl; peak = refl; zones = same (zones_of l); resources = same (resources_of l); loads = same (loads_of l); trades = same (trades_of l) }

pub grown_then : (a b c d a' b' c' d' : List Entry) (l m n : Ledger) → Grown a b c d l m → Grown a' b' c' d' m n → Grown (a ++ a') (b ++ b') (c ++ c') (d ++ d') l n
grown_then a b c d a' b' c' d' l m n g h = record {
  year = h.year ∙ g.year;
  peak = h.peak ∙ g.peak;
  zones = h.zones ∙ ap (λ xs. xs ++ a') g.zones ∙ append_assoc (zones_of l) a a';
  resources = h.resources ∙ ap (λ xs. xs ++ b') g.resources ∙ append_assoc (resources_of l) b b';
  loads = h.loads ∙ ap (λ xs. xs ++ c') g.loads ∙ append_assoc (loads_of l) c c';
  trades = h.trades ∙ ap (λ xs. xs ++ d') g.trades ∙ append_assoc (trades_of l) d d';
}

-- ---- opening
pub record Opens (year peak : ℕ) (m : Ledger) : Type 0 where
  pub new : m ≡ opened year peak
  pub year_low : year < 10 ^ 11
  pub peak_low : peak < 10 ^ 11

pub opening_taken : (l : Ledger) (year peak : ℕ) (m : Ledger) → taken (open_call l year peak) ≡ Ok m → Opens year peak m
opening_taken l year peak m h =
    let a = taken_after l (year_test year) _ m h in
    let b = taken_after l (peak_test peak) _ m a.2 in
    let y : year ≤ 2098 = ltb-false 2098 year (or_parts (ltb year 2010) (ltb 2098 year) (passed _ _ _ a.1)).1 in
    let p : peak ≤ 100000 = ltb-false 100000 peak (or_parts (ltb peak 1) (ltb 100000 peak) (passed _ _ _ b.1)).1 in
    record { new = sym (same_ok _ m b.2); year_low = omega arith; peak_low = omega arith }

pub few_opened : (year peak : ℕ) → Few (opened year peak)
few_opened year peak = record { zones = omega arith; resources = omega arith; loads = omega arith; trades = omega arith }
