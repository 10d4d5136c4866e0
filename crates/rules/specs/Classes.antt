-- The class of a resource is one letter, and decides how the resource is treated. Assumes nothing.
use Rattle.std.specs.Prelude.{◌≡◌, ℕ, Bool, true, false, cond, Some, None, Option, ◌==◌}
use Rattle.rules.specs.declared.class.Class.{Class}
use Rattle.rules.specs.declared.class.Class.TheVariants.{Generating, Import, NonIntermittentSettlementOnly, IntermittentPower, IntermittentSettlementOnly}
use Rattle.rules.specs.declared.class.Treatment.{Treatment}

abbrev treated : Bool → Bool → Bool → Treatment
treated deducted penalized credited = record { deducted = deducted; penalized = penalized; credited = credited }

-- The table: rent deduction, penalties, credits.
abbrev pub treatment : Class → Treatment
treatment Generating = treated true true true
treatment Import = treated true true true
treatment NonIntermittentSettlementOnly = treated true true false
treatment IntermittentPower = treated true false false
treatment IntermittentSettlementOnly = treated true false false

abbrev pub has_deduction : Class → Bool
has_deduction c = (treatment c).deducted

abbrev pub has_penalties : Class → Bool
has_penalties c = (treatment c).penalized

abbrev pub has_credits : Class → Bool
has_credits c = (treatment c).credited

-- the letters G, I, N, P and S, by their codes
abbrev pub letter_of : Class → ℕ
letter_of Generating = 71
letter_of Import = 73
letter_of NonIntermittentSettlementOnly = 78
letter_of IntermittentPower = 80
letter_of IntermittentSettlementOnly = 83

abbrev pub class_of : ℕ → Option Class
class_of b =
    cond (b == 71) (Some Generating)
    (cond (b == 73) (Some Import)
    (cond (b == 78) (Some NonIntermittentSettlementOnly)
    (cond (b == 80) (Some IntermittentPower)
    (cond (b == 83) (Some IntermittentSettlementOnly) None))))

-- What the table comes to: letters and classes fix each other, every class has rent deductions, and a class with credits
-- has penalties.
pub record ClassLaws : Type 0 where
  pub forth : (c : Class) → class_of (letter_of c) ≡ Some c
  pub back : (b : ℕ) (c : Class) → class_of b ≡ Some c → b ≡ letter_of c
  pub deducted : (c : Class) → has_deduction c ≡ true
  pub credited : (c : Class) → has_credits c ≡ true → has_penalties c ≡ true
