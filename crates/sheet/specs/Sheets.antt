-- The text of a ledger's standing entries, and the ledgers that these entries make. Assumes nothing.
use Rattle.std.specs.Prelude.{◌≡◌, ℕ, List, [], ◌∷◌, ◌++◌, map, length, Ok}
use Rattle.std.specs.List.{flat_map, AllByRecursion}
use Rattle.rules.specs.declared.entry.Entry.{Entry}
use Rattle.rules.specs.Ledger.{Ledger}
use Rattle.rules.specs.Replays.{zone_entry, resource_entry, load_entry, trade_entry, remade}
use Rattle.text.specs.declared.faults.Section.{Section}
use Rattle.text.specs.declared.faults.Section.TheVariants.{Y, Z, R, L, T}
use Rattle.lines.specs.Kinds.{opening, count, section_letter, entry_text}

-- the entries of a section, as they were entered
abbrev pub entries : Section → Ledger → List Entry
entries Y l = []
entries Z l = map zone_entry l.standing.zones
entries R l = map resource_entry l.standing.resources
entries L l = map load_entry l.standing.loads
entries T l = map trade_entry l.standing.trades

-- the text of a line, of the lines of entries, of a section, and of the sheet
abbrev pub line : List ℕ → List ℕ
line s = s ++ 10 ∷ []

abbrev pub lines : List Entry → List ℕ
lines es = flat_map (λ e. line (entry_text e)) es

unfoldable pub section_text : Section → List Entry → List ℕ
section_text section es = line ((count (section_letter section)).text (tt, length es)) ++ lines es

unfoldable pub text_of : (year peak : ℕ) → (zones resources loads trades : List Entry) → List ℕ
text_of year peak zones resources loads trades =
    line (opening.text (tt, (year, peak)))
    ++ (section_text Z zones ++ (section_text R resources ++ (section_text L loads ++ section_text T trades)))

abbrev pub sheet_text : Ledger → List ℕ
sheet_text l = text_of l.year l.peak (entries Z l) (entries R l) (entries L l) (entries T l)

-- every zone has its twelve rents
abbrev pub TwelveRents : Ledger → Type 0
TwelveRents l = AllByRecursion (λ z. length z.rents ≡ 12) l.standing.zones

-- what can be deposited on a sheet: a set-up that is what its own standing entries make
pub record Deposit (l : Ledger) : Type 0 where
  pub made : remade l ≡ Ok l
  pub twelve : TwelveRents l

-- the text is the sheet of the ledger
pub record SheetOf (l : Ledger) (text : List ℕ) : Type 0 where
  pub stands : Deposit l
  pub same : text ≡ sheet_text l
