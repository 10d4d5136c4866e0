-- The deduction of a resource from its exposed part, its zone's price and the mean rent. Assumes nothing.
use Rattle.std.proofs.Common.{◌≡◌, ℕ, ◌*◌, ◌/◌, min, true, List, ℤ, pos, ◌*ℤ◌, sym, ◌∙◌, ap₂, arith}
use borrow.Author.Differences.{ints}
use Rattle.std.specs.Int.{int_min}
use Rattle.rules.specs.declared.rows.Rent.{Rent}
use Rattle.rules.specs.Classes.{has_deduction}
use Rattle.rules.specs.Ledger.{Standing, resource_of, zone_of, price_of}
use Rattle.rules.specs.Rents.{mean_rent, exposed, deduction}
use Rattle.rules.specs.Totals.{◌÷◌}
use Rattle.rules.proofs.Totals.{only_true}

-- the lesser of the two worths
lesser_is : (x p a : ℕ) → pos (min (x * p) (a * x / 1000)) ≡ int_min (pos x *ℤ pos p) ((pos a *ℤ pos x) ÷ 1000)
unfolding ◌÷◌
lesser_is x p a = grind (arith, ints)

pub deduction_is : (s : Standing) (rents : List Rent) (n m x p a : ℕ) → has_deduction (resource_of s n).class ≡ true → pos x ≡ exposed s n m → p ≡ price_of s n → pos a ≡ mean_rent s rents (zone_of s n) m
    → pos (min (x * p) (a * x / 1000)) ≡ deduction s rents n m
unfolding deduction
deduction_is s rents n m x p a d e f g =
    lesser_is x p a ∙ ap₂ int_min (ap₂ (λ (u : ℤ) (v : ℕ). u *ℤ pos v) e f) (ap₂ (λ (u v : ℤ). (u *ℤ v) ÷ 1000) g e) ∙ sym (only_true _ _ d)
