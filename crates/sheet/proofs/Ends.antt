-- What a reading came to, as equations. Assumes nothing.
use Rattle.std.proofs.Common.{◌≡◌, ℕ, zero, suc, ◌+◌, ◌<◌, Ok, Err, Result, sym, refl, ap, ◌∙◌, arith}
use Rattle.rules.specs.declared.entry.Entry.{Entry}
use Rattle.rules.specs.declared.entry.Entry.TheVariants.{Zone, Resource, Load, Trade}
use Rattle.rules.specs.declared.entry.Offer.{Offer}
use Rattle.rules.specs.declared.refusal.Refusal.{Refusal}
use Rattle.rules.specs.declared.rows.Auction.{Auction}
use Rattle.rules.specs.declared.rows.Bilateral.{Bilateral}
use Rattle.rules.specs.declared.rows.Load.{Load as LoadRow}
use Rattle.rules.specs.declared.rows.Trade.TheVariants as trade
use Rattle.rules.specs.declared.rows.Zone.{Zone as ZoneRow}
use Rattle.rules.specs.Calls.{Answered, open_call, zone_call, resource_call, load_call, bilateral_call, auction_call}
use Rattle.rules.specs.Chains.{after}
use Rattle.rules.specs.Ledger.{Ledger}
use Rattle.rules.specs.Replays.{taken, enter}
use Rattle.rules.specs.Tests.{year_test, peak_test}
use Rattle.book.specs.declared.ticket.SetupTicket.{SetupTicket}
use Rattle.book.specs.View.{setup_ticket, opening}
use Rattle.text.specs.declared.faults.Section.{Section}
use Rattle.text.specs.declared.faults.Section.TheVariants.{Y}
use Rattle.text.specs.declared.faults.Spot.{Spot}
use Rattle.text.specs.Fields.{Place, spot_at}
use Rattle.text.specs.Formats.{then}
use Rattle.lines.specs.declared.faults.LineFault.{LineFault}
use Rattle.lines.specs.Faults.{of_book}
use Rattle.lines.specs.Kinds.{read_entry, read_count, read_opening}
use Rattle.lines.specs.Lines.{ending, settled, line_at}
use Rattle.sheet.specs.Reading.{Progress, step, steps, read_section, read_open, opens}

-- ---- what the book makes of an entry, by its kind
taken_is : {A : Type 0} (r : Result A Refusal) (l : Ledger) (a : Answered A Refusal) → (r, l) ≡ a → settled r l ≡ taken a
taken_is (Ok x) l a e = ap taken e
taken_is (Err x) l a e = ap taken e

pub enter_zone : (t : ℕ) (x : Entry) (l m : Ledger) (r : Result ℕ Refusal) (z : ZoneRow) → x ≡ Zone z → (r, m) ≡ zone_call l t z.price z.rents → settled r m ≡ enter t x l
unfolding enter
enter_zone t x l m r z is call = taken_is r m (zone_call l t z.price z.rents) call ∙ ap (λ y. enter t y l) (sym is)

pub enter_resource : (t : ℕ) (x : Entry) (l m : Ledger) (r : Result ℕ Refusal) (o : Offer) → x ≡ Resource o → (r, m) ≡ resource_call l t o.zone o.letter o.cleared o.supplied → settled r m ≡ enter t x l
unfolding enter
enter_resource t x l m r o is call = taken_is r m (resource_call l t o.zone o.letter o.cleared o.supplied) call ∙ ap (λ y. enter t y l) (sym is)

pub enter_load : (t : ℕ) (x : Entry) (l m : Ledger) (r : Result ℕ Refusal) (k : LoadRow) → x ≡ Load k → (r, m) ≡ load_call l t k.zone k.obligation → settled r m ≡ enter t x l
unfolding enter
enter_load t x l m r k is call = taken_is r m (load_call l t k.zone k.obligation) call ∙ ap (λ y. enter t y l) (sym is)

pub enter_bilateral : (t : ℕ) (x : Entry) (l m : Ledger) (r : Result ℕ Refusal) (b : Bilateral) → x ≡ Trade (trade.Bilateral b) → (r, m) ≡ bilateral_call l b → settled r m ≡ enter t x l
unfolding enter
enter_bilateral t x l m r b is call = taken_is r m (bilateral_call l b) call ∙ ap (λ y. enter t y l) (sym is)

pub enter_auction : (t : ℕ) (x : Entry) (l m : Ledger) (r : Result ℕ Refusal) (a : Auction) → x ≡ Trade (trade.Auction a) → (r, m) ≡ auction_call l a → settled r m ≡ enter t x l
unfolding enter
enter_auction t x l m r a is call = taken_is r m (auction_call l a) call ∙ ap (λ y. enter t y l) (sym is)

-- ---- one line of a section
-- what the book answers at the line's spot decides
pub step_answer : (t : SetupTicket) (section : Section) (p q : Place) (l : Ledger) (x : Entry) (at : Spot) (v : Result Ledger LineFault) → line_at section (read_entry section) p ≡ Ok (x, q) → at ≡ spot_at section p → of_book at (enter t.month x l) ≡ v → step t section (p, l) ≡ then v (λ m. Ok (q, m))
step_answer t section p q l x at v h a e =
    ap (λ v. then v (λ x. then (of_book (spot_at section p) (enter t.month x.0 l)) (λ m. Ok (x.1, m)))) h
    ∙ ap (λ s. then (of_book s (enter t.month x l)) (λ m. Ok (q, m))) (sym a)
    ∙ ap (λ w. then w (λ m. Ok (q, m))) e

-- ---- the lines of a section, one at a time
pub steps_none : (t : SetupTicket) (section : Section) (k : ℕ) (g : Progress) → k ≡ 0 → steps t section k g ≡ Ok g
unfolding steps
steps_none t section zero g e = refl
steps_none t section (suc k) g e = absurd (omega arith)

pub steps_next : (t : SetupTicket) (section : Section) (j k : ℕ) (g h : Progress) → j + 1 ≡ k → Ok h ≡ step t section g → steps t section j h ≡ steps t section k g
unfolding steps
steps_next t section j zero g h e s = absurd (omega arith)
steps_next t section j (suc k) g h e s = ap (λ i. steps t section i h) (let p : j ≡ k = omega arith in p) ∙ ap (λ v. then v (steps t section k)) s

pub steps_fault : (t : SetupTicket) (section : Section) (k : ℕ) (g : Progress) (e : LineFault) → 0 < k → step t section g ≡ Err e → steps t section k g ≡ Err e
unfolding steps
steps_fault t section zero g e lt h = absurd (omega arith)
steps_fault t section (suc k) g e lt h = ap (λ v. then v (steps t section k)) h

-- ---- a section with its count line
pub section_count : (t : SetupTicket) (section : Section) (p q : Place) (l : Ledger) (n : ℕ) → line_at section (read_count section) p ≡ Ok (n, q) → read_section t section (p, l) ≡ steps t section n (q, l)
section_count t section p q l n h = ap (λ v. then v (λ x. steps t section x.0 (x.1, l))) h

-- ---- the first line
pub open_line : (p q : Place) (l : Ledger) (year peak : ℕ) → line_at Y read_opening p ≡ Ok ((year, peak), q) → read_open (p, l) ≡ then (of_book (spot_at Y p) (opens year peak l)) (λ y. Ok (y.0, (q, y.1)))
unfolding read_open
open_line p q l year peak h = ap (λ v. then v (λ x. then (of_book (spot_at Y p) (opens x.0.0 x.0.1 l)) (λ y. Ok (y.0, (x.1, y.1))))) h

-- a call that opens answers month 0
abbrev Zero : Answered ℕ Refusal → Type 0
Zero (Ok n, l) = n ≡ 0
Zero (Err e, l) = Unit {0}

zero_after : {B : Type 0} (l : Ledger) (t : Result B Refusal) (rest : B → Answered ℕ Refusal) → ((x : B) → Zero (rest x)) → Zero (after l t rest)
zero_after l (Ok x) rest h = h x
zero_after l (Err e) rest h = tt

opening_is : (a : Answered ℕ Refusal) → Zero a → ending (opening setup_ticket a).0 (opening setup_ticket a).1 ≡ then (taken a) (λ m. Ok (setup_ticket 0, m))
opening_is (Ok n, l) h = ap (λ k. Ok (setup_ticket k, l)) h
opening_is (Err e, l) h = refl

-- opening gives the ledger that the call leaves, with a ticket of month 0
pub opens_is : (year peak : ℕ) (l : Ledger) → opens year peak l ≡ then (taken (open_call l year peak)) (λ m. Ok (setup_ticket 0, m))
opens_is year peak l = opening_is (open_call l year peak) (zero_after l (year_test year) _ (λ _. zero_after l (peak_test peak) _ (λ _. refl)))

-- what stood in the book before is gone
taken_after_same : {A B : Type 0} (l m : Ledger) (t : Result B Refusal) (f g : B → Answered A Refusal) → ((x : B) → taken (f x) ≡ taken (g x)) → taken (after l t f) ≡ taken (after m t g)
taken_after_same l m (Ok x) f g h = h x
taken_after_same l m (Err e) f g h = refl

pub opens_same : (year peak : ℕ) (l m : Ledger) → opens year peak l ≡ opens year peak m
opens_same year peak l m =
    opens_is year peak l
    ∙ ap (λ v. then v (λ n. Ok (setup_ticket 0, n))) (taken_after_same l m (year_test year) _ _ (λ _. taken_after_same l m (peak_test peak) _ _ (λ _. refl)))
    ∙ sym (opens_is year peak m)
