-- How an amount of cents is shared over parties by their weights. Assumes nothing.
use Rattle.std.specs.Prelude.{List, [], ◌∷◌, map, ℤ, pos, ◌+ℤ◌, ◌-ℤ◌, ◌*ℤ◌}
use Rattle.sharing.specs.Floor.{floor_div}

abbrev pub sum_z : List ℤ → ℤ
sum_z [] = pos 0
sum_z (x ∷ xs) = x +ℤ sum_z xs

-- what a weight brings of an amount, where all weights sum to `total`; nil where the total is not above nil
abbrev pub portion : ℤ → ℤ → ℤ → ℤ
portion amount total weight = floor_div (amount *ℤ weight) total

-- the shares of the parties with these weights, in their order
unfoldable pub shares : ℤ → List ℤ → List ℤ
shares amount weights = map (portion amount (sum_z weights)) weights

-- what the shares leave of the amount
unfoldable pub leftover : ℤ → List ℤ → ℤ
leftover amount weights = amount -ℤ sum_z (shares amount weights)

-- each party takes its share; where the shares end, the parties stay
abbrev pub each_takes : {P : Type 0} → (P → ℤ → P) → List P → List ℤ → List P
each_takes given ps [] = ps
each_takes given [] (s ∷ ss) = []
each_takes given (p ∷ ps) (s ∷ ss) = given p s ∷ each_takes given ps ss
