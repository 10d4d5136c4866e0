-- Opening a book, and the ten calls on it: what each answers, and the ledger that it leaves. Assumes nothing.
-- A ticket is given by its month; the call says of which state the ticket must be.
use Rattle.std.specs.Prelude.{ℕ, ◌+◌, List, ℤ, Ok, Err, Result}
use Rattle.readings.specs.Table.{Table}
use Rattle.rules.specs.declared.refusal.Refusal.{Refusal}
use Rattle.rules.specs.declared.rows.Auction.{Auction}
use Rattle.rules.specs.declared.rows.Bilateral.{Bilateral}
use Rattle.rules.specs.declared.rows.Event.{Event}
use Rattle.rules.specs.declared.rows.Posting.{Posting}
use Rattle.rules.specs.declared.rows.Stage.TheVariants.{SetUp, Running, Closed}
use Rattle.rules.specs.declared.ticket.Returned.{Returned}
use Rattle.rules.specs.Chains.{after, accept}
use Rattle.rules.specs.Entries.{enter_zone, enter_resource, enter_load, book_bilateral, book_auction}
use Rattle.rules.specs.Ledger.{Standing, Ledger, opened, with_standing, at_stage, with_rent, with_event}
use Rattle.rules.specs.Penalties.{added, penalties_in}
use Rattle.rules.specs.Tests.{year_test, peak_test, ticket_test, period_test, zone_test, hours_test, overlap_test, events_test, cover_test, amount_test, entered_test, missing_test}

-- what a call answers, and the ledger that it leaves
abbrev pub Answered : Type 0 → Type 0 → Type 0
Answered A E = Result A E × Ledger

-- what a call on the standing entries leaves of the ledger
abbrev pub into : {A E : Type 0} → Ledger → Result A E × Standing → Answered A E
into l (answer, s) = (answer, with_standing l s)

-- A step that spends a ticket: its answer becomes a ticket, and a refusal hands the spent one back.
abbrev pub spending : {T U : Type 0} → T → (ℕ → U) → Answered ℕ Refusal → Answered U (Returned T)
spending t ticket (Ok month, l) = (Ok (ticket month), l)
spending t ticket (Err refusal, l) = (Err (record { refusal = refusal; ticket = t }), l)

-- ---- opening; the answer is the month of the set-up ticket
abbrev pub open_call : Ledger → ℕ → ℕ → Answered ℕ Refusal
open_call l year peak =
    after l (year_test year) (λ _.
    after l (peak_test peak) (λ _.
    accept 0 (opened year peak)))

-- ---- entries of set-up
abbrev pub zone_call : Ledger → ℕ → ℕ → List ℕ → Answered ℕ Refusal
zone_call l ticket price rents = after l (ticket_test l SetUp ticket) (λ _. into l (enter_zone l.standing price rents))

abbrev pub resource_call : Ledger → ℕ → ℕ → ℕ → ℕ → ℕ → Answered ℕ Refusal
resource_call l ticket zone letter cleared supplied = after l (ticket_test l SetUp ticket) (λ _. into l (enter_resource l.standing zone letter cleared supplied))

abbrev pub load_call : Ledger → ℕ → ℕ → ℤ → Answered ℕ Refusal
load_call l ticket zone obligation = after l (ticket_test l SetUp ticket) (λ _. into l (enter_load l.standing zone obligation))

-- ---- trades, with no ticket, for months after the one that the book has come to
abbrev pub bilateral_call : Ledger → Bilateral → Answered ℕ Refusal
bilateral_call l b = into l (book_bilateral l.standing l.month b)

abbrev pub auction_call : Ledger → Auction → Answered ℕ Refusal
auction_call l a = into l (book_auction l.standing l.month a)

-- ---- steps; the answer is the month of the next ticket
-- June begins.
abbrev pub begin_call : Ledger → ℕ → Answered ℕ Refusal
begin_call l ticket =
    after l (ticket_test l SetUp ticket) (λ _.
    accept 1 (at_stage l Running 1))

abbrev pub close_call : Ledger → ℕ → Answered ℕ Refusal
close_call l ticket =
    after l (ticket_test l Running ticket) (λ _.
    after l (missing_test l.standing l.rents l.month) (λ _.
    accept l.month (at_stage l Closed l.month)))

-- The month after a closed one begins.
abbrev pub next_call : Ledger → ℕ → Answered ℕ Refusal
next_call l ticket =
    after l (ticket_test l Closed ticket) (λ _.
    after l (period_test l) (λ _.
    accept (l.month + 1) (at_stage l Running (l.month + 1))))

-- ---- entries of a month
-- An event of the month in hand.
abbrev pub event_of : Ledger → ℕ → ℕ → ℕ → ℕ → Event
event_of l zone day hour hours = record { zone = zone; month = l.month; day = day; hour = hour; hours = hours }

-- the postings that it adds
abbrev pub event_adds : Ledger → Table → Event → List Posting
event_adds l t e = added l.standing l.rents l.postings t e

-- An event with the table of its readings; the answer is the sum of the penalties that it adds.
abbrev pub event_call : Ledger → ℕ → ℕ → ℕ → ℕ → ℕ → Table → Answered ℕ Refusal
event_call l ticket zone day hour hours t =
    after l (ticket_test l Running ticket) (λ _.
    after l (zone_test l.standing zone) (λ _.
    after l (hours_test l.year l.month day hour hours) (λ _.
    after l (overlap_test l.events zone l.month day hour hours) (λ _.
    after l (events_test l.events zone l.month hours) (λ _.
    after l (cover_test l.standing t hours) (λ _.
    accept (penalties_in (event_adds l t (event_of l zone day hour hours)))
    (with_event l (event_of l zone day hour hours) (event_adds l t (event_of l zone day hour hours)))))))))

-- The rent of a zone for the month in hand.
abbrev pub rent_call : Ledger → ℕ → ℕ → ℕ → Answered (Unit {0}) Refusal
rent_call l ticket zone amount =
    after l (ticket_test l Running ticket) (λ _.
    after l (zone_test l.standing zone) (λ _.
    after l (amount_test amount) (λ _.
    after l (entered_test l.rents l.month zone) (λ _.
    accept tt (with_rent l (record { zone = zone; month = l.month; amount = amount }))))))
