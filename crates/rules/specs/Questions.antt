-- The questions: about positions, about the month in hand, and about a closed month. Assumes nothing.
use Rattle.std.specs.Prelude.{ℕ, ℤ, Ok, Err, Result}
use Rattle.rules.specs.declared.answers.Terms.{Terms}
use Rattle.rules.specs.declared.answers.Settled.{Settled}
use Rattle.rules.specs.declared.answers.Left.{Left}
use Rattle.rules.specs.declared.refusal.Refusal.{Refusal}
use Rattle.rules.specs.declared.rows.Stage.TheVariants.{Running}
use Rattle.rules.specs.Charges.{charge, remainder}
use Rattle.rules.specs.Credits.{credit, unshared}
use Rattle.rules.specs.Ledger.{Ledger}
use Rattle.rules.specs.Payments.{payment}
use Rattle.rules.specs.Penalties.{month_penalty}
use Rattle.rules.specs.Positions.{position}
use Rattle.rules.specs.Rents.{deduction}
use Rattle.rules.specs.Tests.{month_test, ticket_test, closed_test, resource_test, load_test, zone_test}

-- a test that refuses ends the question
abbrev pub passing : {A B : Type 0} → Result B Refusal → Result A Refusal → Result A Refusal
passing (Err refusal) answer = Err refusal
passing (Ok x) answer = answer

-- ---- a position, in any month of the period
abbrev pub position_question : Ledger → ℕ → ℕ → Result ℤ Refusal
position_question l r m = passing (resource_test l.standing r) (passing (month_test m) (Ok (position l.standing r m)))

-- ---- what a resource is paid and deducted for a month; of the month in hand, by its ticket
abbrev pub terms : Ledger → ℕ → ℕ → Terms
terms l r m = record { payment = payment l.standing r m; deduction = deduction l.standing l.rents r m }

abbrev pub terms_question : Ledger → ℕ → ℕ → Result Terms Refusal
terms_question l ticket r = passing (ticket_test l Running ticket) (passing (resource_test l.standing r) (Ok (terms l r l.month)))

-- ---- a closed month
abbrev pub settled : Ledger → ℕ → ℕ → Settled
settled l m r = record { payment = payment l.standing r m; deduction = deduction l.standing l.rents r m; penalty = month_penalty l.postings r m; credit = credit l m r }

abbrev pub left : Ledger → ℕ → ℕ → Left
left l m z = record { unshared = unshared l.standing l.postings z m; remainder = remainder l.standing l.rents l.postings z m }

abbrev pub resource_question : Ledger → ℕ → ℕ → Result Settled Refusal
resource_question l m r = passing (closed_test l m) (passing (resource_test l.standing r) (Ok (settled l m r)))

abbrev pub load_question : Ledger → ℕ → ℕ → Result ℤ Refusal
load_question l m k = passing (closed_test l m) (passing (load_test l.standing k) (Ok (charge l m k)))

abbrev pub zone_question : Ledger → ℕ → ℕ → Result Left Refusal
zone_question l m z = passing (closed_test l m) (passing (zone_test l.standing z) (Ok (left l m z)))
