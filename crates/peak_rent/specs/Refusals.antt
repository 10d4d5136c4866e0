-- The numbers of the refusals. Assumes nothing.
use Rattle.std.specs.Prelude.{ℕ}
use Rattle.peak_rent.specs.declared.refusal.RentRefusal.{RentRefusal}
use Rattle.peak_rent.specs.declared.refusal.RentRefusal.TheVariants.{PeakOutOfRange, TooManyHours, HourOutOfRange}

abbrev pub number_of : RentRefusal → ℕ
number_of PeakOutOfRange = 2
number_of TooManyHours = 28
number_of HourOutOfRange = 29
