-- The loop over the lines of the hours. Assumes nothing.
use Rattle.std.proofs.Common.{◌≡◌, ℕ, ◌+◌, List, [], ◌∷◌, ◌++◌, Ok, Err, Result, sym, refl, ap, append_assoc, append-nil}
use Rattle.peak_rent.specs.declared.hour.Hour.{Hour}
use Rattle.rent_input.specs.declared.faults.Fault.{Fault}
use Rattle.text.specs.Formats.{then}
use Rattle.rent_input.specs.Lines.{hour_of}
use Rattle.rent_input.specs.Months.{on_line, hours_from}

-- the hours that were read, and those that are still to be read
abbrev pub prefixed : List Hour → Result (List Hour) Fault → Result (List Hour) Fault
prefixed xs r = then r (λ ys. Ok (xs ++ ys))

prefixed_more : (xs : List Hour) (h : Hour) (r : Result (List Hour) Fault) → prefixed xs (then r (λ hs. Ok (h ∷ hs))) ≡ prefixed (xs ++ h ∷ []) r
prefixed_more xs h (Ok ys) = ap Ok (sym (append_assoc xs (h ∷ []) ys))
prefixed_more xs h (Err f) = refl

-- a turn that read an hour, a turn that met a fault, and the end
pub hour_read : (xs : List Hour) (n : ℕ) (l : List ℕ) (ls : List (List ℕ)) (h : Hour) (m : ℕ) → m ≡ n + 1 → on_line n (hour_of l) ≡ Ok h
    → prefixed xs (hours_from n (l ∷ ls)) ≡ prefixed (xs ++ h ∷ []) (hours_from m ls)
unfolding hours_from
hour_read xs n l ls h m next e = rw (e, next) (prefixed_more xs h (hours_from (n + 1) ls))

pub hour_faulty : (xs : List Hour) (n : ℕ) (l : List ℕ) (ls : List (List ℕ)) (f : Fault) → on_line n (hour_of l) ≡ Err f
    → prefixed xs (hours_from n (l ∷ ls)) ≡ Err f
unfolding hours_from
hour_faulty xs n l ls f e = rw e refl

pub hours_end : (xs : List Hour) (n : ℕ) → prefixed xs (hours_from n []) ≡ Ok xs
unfolding hours_from
hours_end xs n = ap Ok (append-nil xs)
