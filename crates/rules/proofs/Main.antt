-- What holds after every list of calls.
use Rattle.std.proofs.Common.{◌≡◌, ℕ, ◌+◌, ◌*◌, ◌<◌, ◌≤◌, ◌++◌, ℤ, pos, ◌*ℤ◌, ◌≤ℤ◌, Ok, Err, Result, refl, ap, ◌∙◌, ⊎_elim, arith}
use borrow.Author.Differences.{ints}
use Rattle.std.proofs.lemmas.Bool.{cases_lt}
use Rattle.readings.specs.Table.{Table, Lawful}
use Rattle.rules.specs.declared.refusal.Refusal.{Refusal}
use Rattle.rules.specs.declared.rows.Stage.TheVariants.{Running}
use Rattle.rules.specs.Calls.{Answered, event_call, event_of, event_adds}
use Rattle.rules.specs.Credits.{pool, credit, credits, credit_at_close}
use Rattle.rules.specs.Ledger.{Ledger, opened, closed, price_of}
use Rattle.rules.specs.Penalties.{penalties_in}
use Rattle.rules.specs.Positions.{position, annual}
use Rattle.rules.specs.Runs.{after_all, answered}
use Rattle.rules.specs.Sums.{Known, PenaltiesBounded, CreditsShare, ChargesShare, EventRight, ThreeSums}
use Rattle.rules.specs.Tests.{ticket_test, zone_test, hours_test, overlap_test, events_test, cover_test}
use Rattle.rules.specs.Totals.{◌÷◌, only}
use Rattle.rules.proofs.Charges.{charges_fill, charges_open, charges_none}
use Rattle.rules.proofs.Credits.{credits_fill, credits_none}
use Rattle.rules.proofs.Entering.{new_month}
use Rattle.rules.proofs.Integers.{tenth, floor_below}
use Rattle.rules.proofs.Penalty.{LawfulEvent}
use Rattle.rules.proofs.Pools.{run_pool}
use Rattle.rules.proofs.Posting.{whom, each_by_rule, each_nonneg}
use Rattle.rules.proofs.Sound.{in_range, Limits, Kept}
use Rattle.rules.proofs.Steps.{event_lawful, opened_kept, after_kept}
use Rattle.rules.proofs.Through.{through, clash}
use Rattle.rules.proofs.Totals.{only_true, only_false, only_nil}
use Rattle.rules.proofs.Zones.{zone_same}

-- the month's limit, 5 · P · Q / 2, is two and a half twelfths of 12 · P · Q
half_fifth : (x q : ℤ) (p : ℕ) → x ≤ℤ ((pos (5 * p) *ℤ q) ÷ 2) → (pos 24 *ℤ x) ≤ℤ (pos 5 *ℤ (pos (12 * p) *ℤ q))
half_fifth x q p h = omega (arith, ints, floor_below (pos (5 * p) *ℤ q) 2 (omega arith))

module _ (l : Ledger) (k : Kept l) where
  bounded : (r m : ℕ) → Known l.standing r → 1 ≤ m → m ≤ 12 → PenaltiesBounded l r m
  unfolding annual
  bounded r m kr low high = record {
    a_day = λ d. tenth _ (annual l.standing r m) (limits.day d);
    a_month = half_fifth _ (position l.standing r m) (price_of l.standing r) limits.month;
    a_period = limits.period;
  }
    where
      limits : Limits l.standing l.rents l.postings r m
      limits = ⊎_elim
          (λ (o : m < l.month + 1). k.sound.limits r m kr low (omega arith))
          (λ (o : l.month + 1 ≤ m). new_month l.standing l.month l.rents l.postings r m k.sound.postings (in_range l.standing r m (k.sound.rows r m kr low high)) (omega arith))
          (cases_lt m (l.month + 1))

  credited : (z m : ℕ) (answers : ℤ) → pool l.standing l.postings z m ≡ answers → CreditsShare l z m answers
  unfolding credit credits
  credited z m answers e = record {
    shared = λ c h. rw (zone_same l.standing z (λ r. only (closed l m) (credit_at_close l.standing l.postings m r)) (credit_at_close l.standing l.postings m) (λ r. only_true (closed l m) _ c), ← e) (credits_fill l.standing l.postings z m h);
    none_open = λ c r. only_false (closed l m) _ c;
    none_shared = λ h r kr q. ap (λ (x : ℤ). only (closed l m) x) (credits_none l.standing l.postings z m h r kr q) ∙ only_nil (closed l m);
  }

  charged : (z m : ℕ) → ChargesShare l z m
  charged z m = record {
    shared = λ c h. charges_fill l z m k.sound.trades c h;
    none_open = λ c i. charges_open l m i c;
    none_shared = λ h i q. charges_none l z m i h q;
  }

  -- ---- events
  module _ (ticket z day hour hours answer : ℕ) (t : Table) (w : Lawful t) where
    abbrev Right : Answered ℕ Refusal → Type 0
    Right a = a.0 ≡ Ok answer → EventRight l t (event_of l z day hour hours) answer a.1

    refused : (e : Refusal) → Right (Err e, l)
    refused e h = absurd (clash e answer h)

    answer_is : (n : ℕ) → ◌≡◌ {A = Result ℕ Refusal} (Ok n) (Ok answer) → answer ≡ n
    answer_is n h = cc

    accepted : LawfulEvent l.standing l.month t (event_of l z day hour hours) → answer ≡ penalties_in (event_adds l t (event_of l z day hour hours)) →
        (new : Ledger) → new.postings ≡ l.postings ++ event_adds l t (event_of l z day hour hours) → EventRight l t (event_of l z day hour hours) answer new
    accepted f s new e = record {
      added = event_adds l t (event_of l z day hour hours);
      adds = e;
      whom = whom l.standing l.rents l.postings t (event_of l z day hour hours);
      by_rule = each_by_rule l.standing l.rents l.postings t (event_of l z day hour hours) l.month f k.sound;
      never_below = each_nonneg l.standing l.rents l.postings t (event_of l z day hour hours) l.month f k.sound;
      sum = s;
    }

    event_right : Right (event_call l ticket z day hour hours t)
    event_right =
        through Right l (ticket_test l Running ticket) _ refused (λ x e₁.
        through Right l (zone_test l.standing z) _ refused (λ _ _.
        through Right l (hours_test l.year l.month day hour hours) _ refused (λ y e₂.
        through Right l (overlap_test l.events z l.month day hour hours) _ refused (λ _ _.
        through Right l (events_test l.events z l.month hours) _ refused (λ _ _.
        through Right l (cover_test l.standing t hours) _ refused (λ v e₃ h.
        accepted (event_lawful l ticket z day hour hours t x y v e₁ e₂ e₃ w k) (answer_is _ h) _ refl))))))

pub three_sums : ThreeSums
three_sums year peak calls w =
    let k = after_kept calls (opened year peak) w (opened_kept year peak) in
    let l = after_all (opened year peak) calls in
    record {
      rows = k.sound.rows;
      penalties = bounded l k;
      credited = λ z m. credited l k z m (answered z m (opened year peak) calls) (run_pool year peak calls z m w (opened_kept year peak));
      charged = charged l k;
      events = λ ticket z day hour hours answer t lawful. event_right l k ticket z day hour hours answer t lawful;
    }
