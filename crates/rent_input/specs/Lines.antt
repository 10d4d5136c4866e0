-- What a line of the input says. Assumes nothing.
use Rattle.std.specs.Prelude.{ℕ, List, [], ◌∷◌, ℤ, Ok, Err, Option, Result}
use Rattle.std.specs.Option.{ok_or}
use Rattle.peak_rent.specs.declared.hour.Hour.{Hour}
use Rattle.text.specs.Cuts.{before, from, next, past}
use Rattle.text.specs.Numbers.{numeral, signed_numeral}
use Rattle.text.specs.Formats.{then}
use Rattle.rent_input.specs.declared.faults.Wrong.{Wrong}
use Rattle.rent_input.specs.declared.faults.Wrong.TheVariants.{Missing, NotANumber, Surplus}

-- the number of the field at a place, by what the field reads as
abbrev pub at_place : {A : Type 0} → ℕ → List ℕ → Option A → Result A Wrong
at_place place [] number = Err (Missing place)
at_place place (c ∷ s) number = ok_or number (NotANumber place)

-- a signed number, and one that takes no minus
abbrev pub signed_at : ℕ → List ℕ → Result ℤ Wrong
signed_at place s = at_place place s (signed_numeral s)

abbrev pub number_at : ℕ → List ℕ → Result ℕ Wrong
number_at place s = at_place place s (numeral s)

abbrev pub nothing_left : ℕ → List ℕ → Result (Unit {0}) Wrong
nothing_left place [] = Ok tt
nothing_left place (c ∷ s) = Err (Surplus place)

-- The line of an hour has price, strike and load, parted by one space. The leftmost fault is told.
abbrev pub hour_of : List ℕ → Result Hour Wrong
hour_of line =
    then (signed_at 1 (before 32 line)) (λ price.
    then (signed_at 2 (next (from 32 line))) (λ strike.
    then (signed_at 3 (next (past (from 32 line)))) (λ load.
    then (nothing_left 4 (past (past (from 32 line)))) (λ _.
    Ok (record { price = price; strike = strike; load = load })))))

-- The first line has the peak alone.
abbrev pub peak_of : List ℕ → Result ℕ Wrong
peak_of line = then (number_at 1 (before 32 line)) (λ peak. then (nothing_left 2 (from 32 line)) (λ _. Ok peak))
