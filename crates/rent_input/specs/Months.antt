-- What a whole input says. Assumes nothing.
use Rattle.std.specs.Prelude.{◌≡◌, ℕ, ◌+◌, List, [], ◌∷◌, Ok, Err, Result}
use Rattle.peak_rent.specs.declared.hour.Hour.{Hour}
use Rattle.text.specs.Cuts.{lines}
use Rattle.rent_input.specs.declared.faults.Wrong.{Wrong}
use Rattle.rent_input.specs.declared.faults.Wrong.TheVariants.{Missing}
use Rattle.rent_input.specs.declared.faults.Fault.{Fault}
use Rattle.rent_input.specs.declared.faults.Failure.{Failure}
use Rattle.rent_input.specs.declared.faults.Failure.TheVariants.{Unreadable, NoMemory}
use Rattle.text.specs.Formats.{then}
use Rattle.rent_input.specs.Lines.{hour_of, peak_of}

-- a fault is told with its line
abbrev pub on_line : {A : Type 0} → ℕ → Result A Wrong → Result A Fault
on_line n (Ok x) = Ok x
on_line n (Err w) = Err (record { line = n; wrong = w })

-- the hours on the lines from the n-th on
unfoldable pub hours_from : ℕ → List (List ℕ) → Result (List Hour) Fault
hours_from n [] = Ok []
hours_from n (l ∷ ls) = then (on_line n (hour_of l)) (λ hour. then (hours_from (n + 1) ls) (λ hours. Ok (hour ∷ hours)))

-- the peak on the first line, and the hours on the others
abbrev pub month_on : List (List ℕ) → Result (ℕ × List Hour) Fault
month_on [] = Err (record { line = 1; wrong = Missing 1 })
month_on (l ∷ ls) = then (on_line 1 (peak_of l)) (λ peak. then (hours_from 2 ls) (λ hours. Ok (peak, hours)))

unfoldable pub month_of : List ℕ → Result (ℕ × List Hour) Fault
month_of text = month_on (lines text)

-- why an input was not read: it is unreadable just so, or memory was wanting, which says nothing of it
abbrev pub Failed : {X : Type 0} → Result X Fault → Failure → Type 0
Failed want (Unreadable f) = want ≡ Err f
Failed want NoMemory = Unit {0}

-- an answer tells what was to be read, by a view of its value
abbrev pub Told : {A X : Type 0} → (A → X) → Result X Fault → Result A Failure → Type 0
Told view want (Ok x) = want ≡ Ok (view x)
Told view want (Err e) = Failed want e
