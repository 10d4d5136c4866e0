-- What is reported of a month. Assumes nothing.
use Rattle.std.specs.Prelude.{ℕ, List, length, Ok, count_by, Result}
use Rattle.peak_rent.specs.declared.hour.Hour.{Hour}
use Rattle.peak_rent.specs.declared.refusal.RentRefusal.{RentRefusal}
use Rattle.peak_rent.specs.Rents.{above_strike, month_rent}
use Rattle.rent_input.specs.declared.report.Report.{Report}
use Rattle.text.specs.Formats.{then}

abbrev pub report_of : ℕ → List Hour → Result Report RentRefusal
report_of peak hours = then (month_rent peak hours) (λ rent. Ok (record { hours = length hours; above = count_by above_strike hours; rent = rent }))
