-- Each call keeps what a book keeps.
use Rattle.std.proofs.Common.{◌≡◌, ℕ, List, length, ℤ, Ok, Result, sym, refl, subst}
use mathlib.Core.Logic.{∥∥₁_map}
use Rattle.rules.specs.declared.refusal.Refusal.{Refusal}
use Rattle.rules.specs.declared.rows.Auction.{Auction}
use Rattle.rules.specs.declared.rows.Bilateral.{Bilateral}
use Rattle.rules.specs.declared.rows.Stage.TheVariants.{SetUp, Running}
use Rattle.rules.specs.Calls.{Answered, into}
use Rattle.rules.specs.Chains.{after}
use Rattle.rules.specs.Entries.{enter_zone, enter_resource, enter_load, book_bilateral, book_auction}
use Rattle.rules.specs.Kept.{Kept}
use Rattle.rules.specs.Ledger.{Standing, Ledger, no_entries, with_standing, at_stage}
use Rattle.rules.specs.Tests.{year_test, peak_test, ticket_test}
use Rattle.rules.proofs.Entered.{Enters, opened_entered, zone_entered, resource_entered, load_entered, bilateral_entered, auction_entered, zone_twelve, twelve_stays}
use Rattle.rules.proofs.Steps.{opened_kept, zone_kept, resource_kept, load_kept, bilateral_then, auction_then, begin_kept}
use Rattle.book.specs.Holds.{ledger_of, Held}

pub keeps_opening : (year peak : ℕ) (s : Standing) (x y : Unit {0}) → s ≡ no_entries → year_test year ≡ Ok x → peak_test peak ≡ Ok y → ∥ Held (ledger_of year peak 0 SetUp s) ∥₁
keeps_opening year peak s x y none e f =
    subst (λ (s : Standing). ∥ Held (ledger_of year peak 0 SetUp s) ∥₁) (sym none)
    ∣ record { kept = opened_kept year peak; entered = opened_entered year peak e f; twelve = tt } ∣₁

-- what a call on the standing entries left, as the code has it
left : (l : Ledger) (t : Result (Unit {0}) Refusal) (x : Unit {0}) (a : Result ℕ Refusal × Standing) (r : Result ℕ Refusal) (s : Standing) → t ≡ Ok x → (r, s) ≡ a
    → Held (after l t (λ _. into l a)).1 → Held (with_standing l s)
left l t x a r s e q k =
    let passed = subst (λ (u : Result (Unit {0}) Refusal). Held (after l u (λ _. into l a)).1) e k in
    subst (λ (v : Result ℕ Refusal × Standing). Held (with_standing l v.1)) (sym q) passed

-- a call that enters no zone
same_zones : (l new : Ledger) → Held l → Kept new → Enters l new → Held new
same_zones l new h k e = record { kept = k; entered = e.entered; twelve = twelve_stays l new e h.twelve }

module _ (l : Ledger) (r : Result ℕ Refusal) (s : Standing) where
  pub keeps_zone : (ticket price : ℕ) (rents : List ℕ) (x : Unit {0}) → length rents ≡ 12 → ticket_test l SetUp ticket ≡ Ok x → (r, s) ≡ enter_zone l.standing price rents → ∥ Held l ∥₁ → ∥ Held (with_standing l s) ∥₁
  keeps_zone ticket price rents x n e q h = ∥∥₁_map {B = Held (with_standing l s)} h (λ k. left l (ticket_test l SetUp ticket) x (enter_zone l.standing price rents) r s e q
      (record { kept = zone_kept l k.kept ticket price rents; entered = zone_entered l k.entered ticket price rents; twelve = zone_twelve l ticket price rents n k.twelve }))

  pub keeps_resource : (ticket z letter cleared supplied : ℕ) (x : Unit {0}) → ticket_test l SetUp ticket ≡ Ok x → (r, s) ≡ enter_resource l.standing z letter cleared supplied → ∥ Held l ∥₁ → ∥ Held (with_standing l s) ∥₁
  keeps_resource ticket z letter cleared supplied x e q h = ∥∥₁_map {B = Held (with_standing l s)} h (λ k. left l (ticket_test l SetUp ticket) x (enter_resource l.standing z letter cleared supplied) r s e q
      (same_zones l _ k (resource_kept l k.kept ticket z letter cleared supplied) (resource_entered l k.entered ticket z letter cleared supplied)))

  pub keeps_load : (ticket z : ℕ) (obligation : ℤ) (x : Unit {0}) → ticket_test l SetUp ticket ≡ Ok x → (r, s) ≡ enter_load l.standing z obligation → ∥ Held l ∥₁ → ∥ Held (with_standing l s) ∥₁
  keeps_load ticket z obligation x e q h = ∥∥₁_map {B = Held (with_standing l s)} h (λ k. left l (ticket_test l SetUp ticket) x (enter_load l.standing z obligation) r s e q
      (same_zones l _ k (load_kept l k.kept ticket z obligation) (load_entered l k.entered ticket z obligation)))

  pub keeps_bilateral : (t : Bilateral) → (r, s) ≡ book_bilateral l.standing l.month t → ∥ Held l ∥₁ → ∥ Held (with_standing l s) ∥₁
  keeps_bilateral t e h = ∥∥₁_map {B = Held (with_standing l s)} h (λ k. left l (Ok tt) tt (book_bilateral l.standing l.month t) r s refl e
      (same_zones l _ k (bilateral_then l k.kept t) (bilateral_entered l k.entered t)))

  pub keeps_auction : (t : Auction) → (r, s) ≡ book_auction l.standing l.month t → ∥ Held l ∥₁ → ∥ Held (with_standing l s) ∥₁
  keeps_auction t e h = ∥∥₁_map {B = Held (with_standing l s)} h (λ k. left l (Ok tt) tt (book_auction l.standing l.month t) r s refl e
      (same_zones l _ k (auction_then l k.kept t) (auction_entered l k.entered t)))

begins : (l : Ledger) → Answered ℕ Refusal
begins l = (Ok 1, at_stage l Running 1)

pub keeps_begin : (l : Ledger) (ticket : ℕ) (x : Unit {0}) → ticket_test l SetUp ticket ≡ Ok x → ∥ Held l ∥₁ → ∥ Held (at_stage l Running 1) ∥₁
unfolding begins
keeps_begin l ticket x e h = ∥∥₁_map {B = Held (at_stage l Running 1)} h (λ k.
    record {
      kept = subst (λ (t : Result (Unit {0}) Refusal). Kept (after l t (λ _. begins l)).1) e (begin_kept l k.kept ticket);
      entered = k.entered;
      twelve = k.twelve;
    })
