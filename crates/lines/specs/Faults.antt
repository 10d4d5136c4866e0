-- The number, place, section and layer of each fault. Assumes nothing.
use Rattle.std.specs.Prelude.{Ok, Err, Result}
use Rattle.rules.specs.declared.refusal.Refusal.{Refusal}
use Rattle.rules.specs.Refusals.{number_of}
use Rattle.text.specs.declared.faults.Spot.{Spot}
use Rattle.text.specs.declared.faults.FieldFault.{FieldFault}
use Rattle.lines.specs.declared.faults.Layer.TheVariants as layer
use Rattle.lines.specs.declared.faults.SheetFault.{SheetFault}
use Rattle.lines.specs.declared.faults.BookFault.{BookFault}
use Rattle.lines.specs.declared.faults.LineFault.{LineFault}
use Rattle.lines.specs.declared.faults.LineFault.TheVariants.{Due, LeftOver, Field, Book}

-- the faults of a line and of the book have field 0
abbrev pub sheet_fault : LineFault → SheetFault
sheet_fault (Due at) = record { number = 33; line = at.line; field = 0; section = at.section; layer = layer.Line; cause = Due at }
sheet_fault (LeftOver at) = record { number = 34; line = at.line; field = 0; section = at.section; layer = layer.Line; cause = LeftOver at }
sheet_fault (Field x) = record { number = 32; line = x.spot.line; field = x.place; section = x.spot.section; layer = layer.Field; cause = Field x }
sheet_fault (Book x) = record { number = number_of x.refusal; line = x.spot.line; field = 0; section = x.spot.section; layer = layer.Book; cause = Book x }

-- the book's answer, with the spot of the line that it refuses
abbrev pub at_spot : {A : Type 0} → Spot → Result A Refusal → Result A BookFault
at_spot at (Ok x) = Ok x
at_spot at (Err e) = Err (record { spot = at; refusal = e })

-- the fault of a field, or of the book, as its line's
abbrev pub of_field : {A : Type 0} → Result A FieldFault → Result A LineFault
of_field (Ok x) = Ok x
of_field (Err e) = Err (Field e)

abbrev whole : {A : Type 0} → Result A BookFault → Result A LineFault
whole (Ok x) = Ok x
whole (Err e) = Err (Book e)

abbrev pub of_book : {A : Type 0} → Spot → Result A Refusal → Result A LineFault
of_book at r = whole (at_spot at r)
