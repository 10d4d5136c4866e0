-- The class table.
use Rattle.std.proofs.Common.{◌≡◌, ℕ, Bool, true, false, cond, eqb, Some, None, Option, refl, arith}
use Rattle.std.proofs.lemmas.Bool.{eqb-true, false≢true}
use Rattle.rules.specs.declared.class.Class.{Class}
use Rattle.rules.specs.declared.class.Class.TheVariants.{Generating, Import, NonIntermittentSettlementOnly, IntermittentPower, IntermittentSettlementOnly}
use Rattle.rules.specs.Classes.{class_of, letter_of, has_deduction, has_penalties, has_credits, ClassLaws}

forth : (c : Class) → class_of (letter_of c) ≡ Some c
forth Generating = refl
forth Import = refl
forth NonIntermittentSettlementOnly = refl
forth IntermittentPower = refl
forth IntermittentSettlementOnly = refl

deducted : (c : Class) → has_deduction c ≡ true
deducted Generating = refl
deducted Import = refl
deducted NonIntermittentSettlementOnly = refl
deducted IntermittentPower = refl
deducted IntermittentSettlementOnly = refl

credited : (c : Class) → has_credits c ≡ true → has_penalties c ≡ true
credited Generating e = refl
credited Import e = refl
credited NonIntermittentSettlementOnly e = absurd (false≢true e)
credited IntermittentPower e = absurd (false≢true e)
credited IntermittentSettlementOnly e = absurd (false≢true e)

-- one letter of the table: it is this one, or a later one
by_letter : (t : Bool) (b n : ℕ) (x c : Class) (rest : Option Class) → eqb b n ≡ t → n ≡ letter_of x → (rest ≡ Some c → b ≡ letter_of c) → cond t (Some x) rest ≡ Some c → b ≡ letter_of c
by_letter true b n x c rest e k h o = let same : x ≡ c = cc in let here : b ≡ n = eqb-true b n e in cc
by_letter false b n x c rest e k h o = h o

back : (b : ℕ) (c : Class) → class_of b ≡ Some c → b ≡ letter_of c
back b c =
    by_letter (eqb b 71) b 71 Generating c _ refl refl
    (by_letter (eqb b 73) b 73 Import c _ refl refl
    (by_letter (eqb b 78) b 78 NonIntermittentSettlementOnly c _ refl refl
    (by_letter (eqb b 80) b 80 IntermittentPower c _ refl refl
    (by_letter (eqb b 83) b 83 IntermittentSettlementOnly c None refl refl (λ o. let z : ◌≡◌ {A = ℕ} 0 1 = cc in absurd (omega arith))))))

pub class_laws : ClassLaws
class_laws = record { forth = forth; back = back; deducted = deducted; credited = credited }
