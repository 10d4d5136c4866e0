-- What a book's questions rest on.
use Rattle.std.proofs.Common.{◌≡◌, ℕ, ◌-◌, ◌≤◌, ltb, List, get_or, ℤ, pos, Ok, Result, sym, ap, ◌∙◌, ap₂, arith}
use mathlib.Core.Logic.{∥∥₁_elim, ∥∥₁_map}
use native.Mathlib.Bridge.{le_prop}
use Rattle.std.proofs.lemmas.Bool.{or_parts, ltb-false}
use Rattle.payments.specs.Settles.{Settles}
use Rattle.payments.proofs.Entries.{held_is}
use Rattle.rules.specs.declared.answers.Terms.{Terms}
use Rattle.rules.specs.declared.refusal.Refusal.{Refusal}
use Rattle.rules.specs.declared.rows.Resource.{Resource}
use Rattle.rules.specs.declared.rows.Stage.{Stage}
use Rattle.rules.specs.declared.rows.Stage.TheVariants.{SetUp, Running}
use Rattle.rules.specs.Begun.{Begun}
use Rattle.rules.specs.Ledger.{Ledger, resource_of}
use Rattle.rules.specs.Payments.{payment}
use Rattle.rules.specs.Positions.{position}
use Rattle.rules.specs.Questions.{passing, position_question, terms}
use Rattle.rules.specs.Rents.{deduction}
use Rattle.rules.specs.Runs.{Call, after_all}
use Rattle.rules.specs.Sums.{Known}
use Rattle.rules.specs.Tests.{resource_test, month_test, ticket_test}
use Rattle.rules.proofs.Begun.{begun_months_fixed_lem}
use Rattle.rules.proofs.Steps.{found_by}
use Rattle.rules.proofs.Through.{passed, stage_of, month_of}
use Rattle.book.specs.Holds.{Held}

pub settles : (l : Ledger) → ∥ Held l ∥₁ → ∥ Settles l.standing ∥₁
settles l h = ∥∥₁_map {B = Settles l.standing} h (λ k.
    record { zones = k.kept.bounds.zones; resources = k.kept.bounds.resources; trades = k.kept.bounds.trades; rows = k.kept.sound.rows })

-- ---- a resource that was found
pub stands : (l : Ledger) (n : ℕ) (x : Resource) → resource_test l.standing n ≡ Ok x → resource_of l.standing n ≡ x
unfolding resource_of
stands l n x e = (found_by l n x e).here

pub known : (l : Ledger) (n : ℕ) (x : Resource) → resource_test l.standing n ≡ Ok x → Known l.standing n
known l n x e = let f = found_by l n x e in record { low = f.low; high = f.high }

-- ---- positions
pub position_asked : (l : Ledger) (n m : ℕ) (x : Resource) (u : Unit {0}) → ∥ Held l ∥₁ → resource_test l.standing n ≡ Ok x → month_test m ≡ Ok u
    → Ok (pos (get_or x.row (m - 1) 0)) ≡ position_question l n m
position_asked l n m x u h e f =
    let p = or_parts (ltb m 1) (ltb 12 m) (passed _ _ u f) in
    let held = held_is l.standing (settles l h) n x (stands l n x e) m (known l n x e) (ltb-false m 1 p.0) (ltb-false 12 m p.1) in
    ap Ok held ∙ sym (ap₂ (λ (a : Result Resource Refusal) (b : Result (Unit {0}) Refusal). passing a (passing b (Ok (position l.standing n m)))) e f)

-- ---- the month in hand
module _ (l : Ledger) (h : ∥ Held l ∥₁) (ticket : ℕ) (u : Unit {0}) (e : ticket_test l Running ticket ≡ Ok u) where
  pub month_low : 1 ≤ l.month
  month_low = ∥∥₁_elim h le_prop (λ k. month_of l Running ticket u e k.kept)

  pub month_high : l.month ≤ 12
  month_high = ∥∥₁_elim h le_prop (λ k. k.kept.sound.year)

  not_set_up : (st : Stage) → st ≡ Running → st ≡ SetUp → ⊥
  not_set_up st a b = let z : ◌≡◌ {A = ℕ} 0 1 = cc in omega arith

  begun : Begun l l.month
  begun = record { low = month_low; high = omega arith; set_up = not_set_up l.stage (stage_of l Running ticket u e) }

  -- whatever is called later
  pub terms_stay : (n : ℕ) (t : Terms) → t.payment ≡ payment l.standing n l.month → t.deduction ≡ deduction l.standing l.rents n l.month → (calls : List Call) → terms (after_all l calls) n l.month ≡ t
  terms_stay n t p d calls =
      let fixed = begun_months_fixed_lem l l.month calls begun in
      ap₂ (λ (y z : ℤ). record { payment = y; deduction = z }) (fixed.paid n ∙ sym p) (fixed.deducted n ∙ sym d)
