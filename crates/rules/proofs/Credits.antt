-- A zone's credits fall short of its pool by less than a cent for each recipient.
use Rattle.std.proofs.Common.{◌≡◌, ℕ, Bool, true, false, not, ◌&&◌, eqb, List, length, ℤ, pos, nat_abs, ◌≤ℤ◌, ◌<ℤ◌, sym, refl, ap, ◌∙◌, arith}
use borrow.Author.Differences.{ints}
use lib.Signed.{lt_z}
use Rattle.std.proofs.lemmas.Bool.{eqb-true, ne_eqb, eq-eqb, and_parts, and_left}
use Rattle.rules.specs.Totals.{only, sum_to}
use Rattle.rules.proofs.Totals.{only_true, only_false, only_and, sum_same, sum_le, member_le, one_nonneg, too_many}
use Rattle.rules.proofs.Shares.{share, parties, shares_fill, share_nil}
use Rattle.rules.specs.declared.rows.Posting.{Posting}
use Rattle.rules.specs.Credits.{zone_sum, weight_of, pool, is_recipient, recipients, credit_weight, credit_weights, credit_at_close}
use Rattle.rules.specs.Ledger.{Standing, resource_of, zone_of}
use Rattle.rules.specs.Positions.{position}
use Rattle.rules.specs.Classes.{has_credits}
use Rattle.rules.specs.Sums.{Known, JustBelow}

module _ (s : Standing) (ps : List Posting) (z m : ℕ) where
  abbrev n : ℕ
  n = length s.resources

  -- a recipient of the zone
  here : ℕ → Bool
  here r = eqb (zone_of s r) z && is_recipient s ps m r

  weighs : (r : ℕ) → here r ≡ true → pos 0 <ℤ weight_of ps r m
  unfolding here is_recipient
  weighs r e =
      let recipient : is_recipient s ps m r ≡ true = (and_parts (eqb (zone_of s r) z) (is_recipient s ps m r) e).1 in
      let rest = (and_parts (lt_z (pos 0) (position s r m)) (has_credits (resource_of s r).class && lt_z (pos 0) (weight_of ps r m)) recipient).1 in
      let above : lt_z (pos 0) (weight_of ps r m) ≡ true = (and_parts (has_credits (resource_of s r).class) (lt_z (pos 0) (weight_of ps r m)) rest).1 in
      omega (arith, ints)

  count_is : recipients s ps z m ≡ sum_to n (λ r. only (here r) (pos 1))
  unfolding recipients zone_sum here
  count_is = sum_same n _ _ (λ r _ _. only_and (eqb (zone_of s r) z) (is_recipient s ps m r) (pos 1))

  -- the parties of the sharing are the recipients
  parties_are : parties n (credit_weight s ps z m) ≡ recipients s ps z m
  unfolding parties credit_weight here only
  parties_are = sum_same n _ _ (λ r _ _. ap (λ (t : Bool). only t (pos 1)) (by r (here r) refl)) ∙ sym count_is
    where
      counts : (w : ℤ) → pos 0 <ℤ w → not (eqb (nat_abs w) 0) ≡ true
      counts w h = ap not (ne_eqb (nat_abs w) 0 (λ e. omega (arith, ints)))

      by : (r : ℕ) (b : Bool) → here r ≡ b → not (eqb (nat_abs (only b (weight_of ps r m))) 0) ≡ b
      by r true e = counts (weight_of ps r m) (weighs r e)
      by r false e = refl

  elsewhere : (r : ℕ) → eqb (zone_of s r) z ≡ false → credit_weight s ps z m r ≡ pos 0
  unfolding credit_weight
  elsewhere r e = only_false _ _ (and_left (eqb (zone_of s r) z) (is_recipient s ps m r) e)

  not_recipient : (r : ℕ) → is_recipient s ps m r ≡ false → credit_weight s ps z m r ≡ pos 0
  unfolding credit_weight
  not_recipient r e = only_false _ _ (Rattle.std.proofs.lemmas.Bool.and_right (eqb (zone_of s r) z) (is_recipient s ps m r) e)

  weight_above : pos 0 <ℤ recipients s ps z m → pos 0 <ℤ sum_to n (credit_weight s ps z m)
  unfolding credit_weight here only
  weight_above h = more (recipients s ps z m) (sum_to n (credit_weight s ps z m)) h (rw count_is (sum_le n _ _ (λ r. by r (here r) refl)))
    where
      by : (r : ℕ) (b : Bool) → here r ≡ b → only b (pos 1) ≤ℤ only b (weight_of ps r m)
      by r true e = omega (arith, ints, weighs r e)
      by r false e = omega (arith, ints)

      more : (c w : ℤ) → pos 0 <ℤ c → c ≤ℤ w → pos 0 <ℤ w
      more c w h k = omega (arith, ints)

  at_close : (r : ℕ) → credit_at_close s ps m r ≡ share n (credit_weight s ps (zone_of s r) m) (pool s ps (zone_of s r) m) r
  unfolding credit_at_close credit_weights share
  at_close r = refl

  pub credits_are : zone_sum s z (credit_at_close s ps m) ≡ sum_to (length s.resources) (share (length s.resources) (credit_weight s ps z m) (pool s ps z m))
  unfolding zone_sum
  credits_are = sum_same n _ _ (λ r _ _. by r (eqb (zone_of s r) z) refl)
    where
      by : (r : ℕ) (b : Bool) → eqb (zone_of s r) z ≡ b → only b (credit_at_close s ps m r) ≡ share n (credit_weight s ps z m) (pool s ps z m) r
      by r true e = only_true true _ refl ∙ at_close r ∙ ap (λ (y : ℕ). share n (credit_weight s ps y m) (pool s ps y m) r) (eqb-true (zone_of s r) z e)
      by r false e = only_false false _ refl ∙ sym (share_nil n (credit_weight s ps z m) (pool s ps z m) r (elsewhere r e))

  pub credits_fill : pos 0 <ℤ recipients s ps z m → JustBelow (zone_sum s z (credit_at_close s ps m)) (pool s ps z m) (recipients s ps z m)
  credits_fill h = rw (credits_are, ← parties_are) (shares_fill n (credit_weight s ps z m) (pool s ps z m) (weight_above h))

  pub credits_none : recipients s ps z m ≡ pos 0 → (r : ℕ) → Known s r → zone_of s r ≡ z → credit_at_close s ps m r ≡ pos 0
  unfolding here
  credits_none e r k q = at_close r ∙ ap (λ (y : ℕ). share n (credit_weight s ps y m) (pool s ps y m) r) q ∙ share_nil n (credit_weight s ps z m) (pool s ps z m) r (by (is_recipient s ps m r) refl)
    where
      by : (t : Bool) → is_recipient s ps m r ≡ t → credit_weight s ps z m r ≡ pos 0
      by false i = not_recipient r i
      by true i = absurd (too_many (sum_to n (λ r. only (here r) (pos 1))) (sym count_is ∙ e) (rw (eq-eqb (zone_of s r) z q, i) at (member_le n (λ r. only (here r) (pos 1)) (λ r. one_nonneg (here r)) r k.low k.high)))
