-- What stands in a book. Assumes nothing.
use Rattle.std.specs.Prelude.{ℕ, Ok, Err}
use Rattle.rules.specs.declared.refusal.Refusal.{Refusal}
use Rattle.rules.specs.Calls.{Answered}
use Rattle.rules.specs.Ledger.{Ledger}
use Rattle.standing.specs.View.{entries_of}
use Rattle.book.specs.Holds.{ledger_of}
use Rattle.book.specs.declared.state.Book.{Book}
use Rattle.book.specs.declared.ticket.SetupTicket.{SetupTicket}
use Rattle.book.specs.declared.ticket.MonthTicket.{MonthTicket}

abbrev pub view : Book → Ledger
view b = ledger_of b.year b.peak b.month b.stage (entries_of b.standing)

-- the tickets of a month
abbrev pub setup_ticket : ℕ → SetupTicket
setup_ticket month = record { month = month }

abbrev pub month_ticket : ℕ → MonthTicket
month_ticket month = record { month = month }

-- opening answers a ticket
abbrev pub opening : {T : Type 0} → (ℕ → T) → Answered ℕ Refusal → Answered T Refusal
opening ticket (Ok month, l) = (Ok (ticket month), l)
opening ticket (Err refusal, l) = (Err refusal, l)
