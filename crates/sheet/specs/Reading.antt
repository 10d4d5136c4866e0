-- What a reader makes of a sheet: it stops at the first fault. Assumes nothing.
use Rattle.std.specs.Prelude.{ℕ, zero, suc, List, [], ◌∷◌, Ok, Err, Result}
use Rattle.rules.specs.declared.refusal.Refusal.{Refusal}
use Rattle.rules.specs.Calls.{open_call}
use Rattle.rules.specs.Ledger.{Ledger}
use Rattle.rules.specs.Replays.{enter, empty}
use Rattle.book.specs.declared.ticket.SetupTicket.{SetupTicket}
use Rattle.book.specs.View.{setup_ticket, opening}
use Rattle.text.specs.declared.faults.Section.{Section}
use Rattle.text.specs.declared.faults.Section.TheVariants.{Y, Z, R, L, T}
use Rattle.text.specs.Fields.{Place, spot_at}
use Rattle.text.specs.Formats.{then}
use Rattle.lines.specs.declared.faults.LineFault.{LineFault}
use Rattle.lines.specs.declared.faults.LineFault.TheVariants.{LeftOver}
use Rattle.lines.specs.declared.faults.SheetFault.{SheetFault}
use Rattle.lines.specs.Faults.{sheet_fault, of_book}
use Rattle.lines.specs.Kinds.{read_opening, read_count, read_entry}
use Rattle.lines.specs.Lines.{ending, line_at}

-- how far a sheet is read: the place in the text, and the ledger so far
abbrev pub Progress : Type 0
Progress = Place × Ledger

-- ---- the first line, which opens the book
abbrev pub opens : ℕ → ℕ → Ledger → Result (SetupTicket × Ledger) Refusal
opens year peak l = ending (opening setup_ticket (open_call l year peak)).0 (opening setup_ticket (open_call l year peak)).1

unfoldable pub read_open : Progress → Result (SetupTicket × Progress) LineFault
read_open g =
    then (line_at Y read_opening g.0) (λ x.
    then (of_book (spot_at Y g.0) (opens x.0.0 x.0.1 g.1)) (λ y.
    Ok (y.0, (x.1, y.1))))

-- ---- a section: one line, k lines, and all of it with its count line
abbrev pub step : SetupTicket → Section → Progress → Result Progress LineFault
step t section g =
    then (line_at section (read_entry section) g.0) (λ x.
    then (of_book (spot_at section g.0) (enter t.month x.0 g.1)) (λ l.
    Ok (x.1, l)))

unfoldable pub steps : SetupTicket → Section → ℕ → Progress → Result Progress LineFault
steps t section zero g = Ok g
steps t section (suc k) g = then (step t section g) (steps t section k)

abbrev pub read_section : SetupTicket → Section → Progress → Result Progress LineFault
read_section t section g = then (line_at section (read_count section) g.0) (λ x. steps t section x.0 (x.1, g.1))

-- ---- the sheet
-- no text is left over after the last line
abbrev pub finish : Progress → Result Ledger LineFault
finish g = elim g.0.rest [ [] ↦ Ok g.1 | c ∷ s ↦ Err (LeftOver (spot_at T g.0)) ]

abbrev pub sections : SetupTicket → Progress → Result Ledger LineFault
sections t g =
    then (read_section t Z g) (λ z.
    then (read_section t R z) (λ r.
    then (read_section t L r) (λ l.
    then (read_section t T l) finish)))

abbrev pub read_all : Progress → Result (SetupTicket × Ledger) LineFault
read_all g = then (read_open g) (λ x. then (sections x.0 x.1) (λ l. Ok (x.0, l)))

-- the line's fault as the sheet's
abbrev pub of_line : {A : Type 0} → Result A LineFault → Result A SheetFault
of_line (Ok x) = Ok x
of_line (Err e) = Err (sheet_fault e)

-- the answer to a sheet, and the ledger that it leaves: a fault leaves the empty one
abbrev pub answered : Result (SetupTicket × Ledger) SheetFault → Result SetupTicket SheetFault × Ledger
answered (Ok x) = (Ok x.0, x.1)
answered (Err e) = (Err e, empty)

abbrev pub read_sheet : List ℕ → Result SetupTicket SheetFault × Ledger
read_sheet text = answered (of_line (read_all (record { line = 0; rest = text }, empty)))
