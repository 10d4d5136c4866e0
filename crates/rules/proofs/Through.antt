-- What a call that goes through its tests tells.
use Rattle.std.proofs.Common.{◌≡◌, ℕ, Bool, true, false, eqb, Some, None, Ok, Err, Option, Result, refl, ap, subst, arith}
use Rattle.std.specs.Option.{ok_or}
use Rattle.std.proofs.lemmas.Bool.{and_parts, not-false, false≢true}
use Rattle.rules.specs.declared.refusal.Refusal.{Refusal}
use Rattle.rules.specs.declared.rows.Stage.{Stage}
use Rattle.rules.specs.declared.rows.Stage.TheVariants.{SetUp, Running, Closed}
use Rattle.rules.specs.Calls.{Answered, into}
use Rattle.rules.specs.Chains.{after}
use Rattle.rules.specs.Ledger.{Standing, Ledger}
use Rattle.rules.specs.Tests.{barred, same_stage, ticket_test}
use Rattle.rules.proofs.Sound.{StageMonth, Kept}

-- What holds where the test refuses, and of the rest where it passes, holds of the two together.
pub through : {A B E : Type 0} (P : Answered A E → Type 0) (l : Ledger) (t : Result B E) (rest : B → Answered A E) → ((e : E) → P (Err e, l)) → ((x : B) → t ≡ Ok x → P (rest x)) → P (after l t rest)
through P l (Err e) rest h k = h e
through P l (Ok x) rest h k = k x refl

-- The same of a call on the standing entries.
pub through_in : {A B E : Type 0} (P : Answered A E → Type 0) (l : Ledger) (t : Result B E) (rest : B → Result A E × Standing) → ((e : E) → P (Err e, l)) → ((x : B) → t ≡ Ok x → P (into l (rest x))) → P (into l (after l.standing t rest))
through_in P l (Err e) rest h k = h e
through_in P l (Ok x) rest h k = k x refl

pub clash : {A E : Type 0} (e : E) (x : A) → ◌≡◌ {A = Result A E} (Err e) (Ok x) → ⊥
clash e x h = let z : ◌≡◌ {A = ℕ} 0 1 = cc in omega arith

-- what a test that passed tells
pub passed : (b : Bool) (refusal : Refusal) (x : Unit {0}) → barred b refusal ≡ Ok x → b ≡ false
passed true refusal x e = absurd (clash refusal x e)
passed false refusal x e = refl

pub given : {X : Type 0} (o : Option X) (refusal : Refusal) (x : X) → ok_or o refusal ≡ Ok x → o ≡ Some x
given None refusal x e = absurd (clash refusal x e)
given (Some y) refusal x e = ap Some (is y x e)
  where
    is : {X E : Type 0} (y x : X) → ◌≡◌ {A = Result X E} (Ok y) (Ok x) → y ≡ x
    is y x e = cc

same_stage_is : (a b : Stage) → same_stage a b ≡ true → a ≡ b
same_stage_is SetUp SetUp e = refl
same_stage_is Running Running e = refl
same_stage_is Closed Closed e = refl
same_stage_is SetUp Running e = absurd (false≢true e)
same_stage_is SetUp Closed e = absurd (false≢true e)
same_stage_is Running SetUp e = absurd (false≢true e)
same_stage_is Running Closed e = absurd (false≢true e)
same_stage_is Closed SetUp e = absurd (false≢true e)
same_stage_is Closed Running e = absurd (false≢true e)

pub stage_of : (l : Ledger) (stage : Stage) (ticket : ℕ) (x : Unit {0}) → ticket_test l stage ticket ≡ Ok x → l.stage ≡ stage
stage_of l stage ticket x e = same_stage_is l.stage stage (and_parts (same_stage l.stage stage) (eqb l.month ticket) (not-false _ (passed _ _ x e))).0

-- the month is one of the stage that the ticket is of
pub month_of : (l : Ledger) (stage : Stage) (ticket : ℕ) (x : Unit {0}) → ticket_test l stage ticket ≡ Ok x → Kept l → StageMonth stage l.month
month_of l stage ticket x e k = subst (λ (st : Stage). StageMonth st l.month) (stage_of l stage ticket x e) k.stage
