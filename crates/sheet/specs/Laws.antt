-- What holds of every sheet. Assumes nothing.
use Rattle.std.specs.Prelude.{◌≡◌, ℕ, List, Ok}
use Rattle.rules.specs.Ledger.{Ledger}
use Rattle.rules.specs.Replays.{remade, fresh, MadeByCalls}
use Rattle.book.specs.declared.ticket.SetupTicket.{SetupTicket}
use Rattle.book.specs.View.{setup_ticket}
use Rattle.sheet.specs.Reading.{read_sheet}
use Rattle.sheet.specs.Sheets.{Deposit, SheetOf, TwelveRents, sheet_text}

-- Sheets and ledgers fix each other. A deposit's text is read back as that ledger, with the ticket of its set-up; a text
-- that is read is the sheet of the ledger that it gives, which is what the calls of its lines make of the opened book; and
-- no text is the sheet of two ledgers.
-- A ledger of any month is read back as the set-up with the same standing entries, if these make it again; and two such
-- ledgers with one text have the same standing entries.
pub record SheetsStand : Type 0 where
  pub written_is_read : (l : Ledger) → Deposit l → read_sheet (sheet_text l) ≡ (Ok (setup_ticket 0), l)
  pub read_is_written : (text : List ℕ) (t : SetupTicket) (l : Ledger) → read_sheet text ≡ (Ok t, l) → SheetOf l text
  pub read_is_called : (text : List ℕ) (t : SetupTicket) (l : Ledger) → read_sheet text ≡ (Ok t, l) → MadeByCalls l
  pub one_ledger : (k l : Ledger) (text : List ℕ) → SheetOf k text → SheetOf l text → k ≡ l
  pub entries_are_read : (l : Ledger) → remade l ≡ Ok (fresh l) → TwelveRents l → read_sheet (sheet_text l) ≡ (Ok (setup_ticket 0), fresh l)
  pub one_text : (k l : Ledger) → remade k ≡ Ok (fresh k) → remade l ≡ Ok (fresh l) → TwelveRents k → TwelveRents l → sheet_text k ≡ sheet_text l → fresh k ≡ fresh l
