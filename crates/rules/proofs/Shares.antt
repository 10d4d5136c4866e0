-- The shares of parties that are numbered from 1.
use Rattle.std.proofs.Common.{◌≡◌, ℕ, zero, suc, ◌+◌, ◌<◌, ◌≤◌, not, eqb, List, [], ◌∷◌, ◌++◌, length, ℤ, pos, negsuc, ◌+ℤ◌, nat_abs, ◌≤ℤ◌, ◌<ℤ◌, sym, refl, ap, ◌∙◌, ap₂, ⊎_elim, arith}
use borrow.Author.Differences.{ints}
use lib.IntN.{+ℤ_assoc, +ℤ_idl, +ℤ_idr}
use Rattle.std.proofs.lemmas.List.{length_push, get_or_past}
use Rattle.std.proofs.lemmas.Bool.{cases_lt, ne_eqb}
use Rattle.sharing.specs.Shares.{sum_z, shares, leftover}
use Rattle.sharing.specs.Fair.{bears, bearing, Fair}
use Rattle.sharing.proofs.Fairness.{shares_fair}
use Rattle.sharing.proofs.Sums.{sum_z_push}
use Rattle.rules.specs.Rows.{row_of}
use Rattle.rules.specs.Sums.{JustBelow}
use Rattle.rules.specs.Totals.{only, sum_to, each_to}
use Rattle.rules.proofs.Changes.{row_old, row_new}
use Rattle.rules.proofs.Totals.{sum_same}

-- ---- the amounts of the numbers 1 to n
pub length_each : (n : ℕ) (f : ℕ → ℤ) → length (each_to n f) ≡ n
unfolding each_to
length_each zero f = refl
length_each (suc n) f = let h = length_push (each_to n f) (f (suc n)) in let i = length_each n f in omega arith

sum_each : (n : ℕ) (f : ℕ → ℤ) → sum_z (each_to n f) ≡ sum_to n f
unfolding each_to sum_to
sum_each zero f = refl
sum_each (suc n) f = sum_z_push (each_to n f) (f (suc n)) ∙ ap (λ (s : ℤ). s +ℤ f (suc n)) (sum_each n f)

pub each_at : (n : ℕ) (f : ℕ → ℤ) (k : ℕ) → 1 ≤ k → k ≤ n → row_of (pos 0) (each_to n f) k ≡ f k
unfolding each_to
each_at zero f k a b = absurd (omega arith)
each_at (suc n) f k a b = ⊎_elim
    (λ (o : k < suc n). row_old (pos 0) (each_to n f) (f (suc n)) k (omega (arith, length_each n f)) ∙ each_at n f k a (omega arith))
    (λ (o : suc n ≤ k). let same : k ≡ suc n = omega arith in row_new (pos 0) (each_to n f) (f (suc n)) k (omega (arith, length_each n f)) (omega (arith, length_each n f)) ∙ ap f (sym same))
    (cases_lt k (suc n))

-- how many of the weights are not nil
unfoldable pub parties : ℕ → (ℕ → ℤ) → ℤ
parties n w = sum_to n (λ k. only (not (eqb (nat_abs (w k)) 0)) (pos 1))

bears_one : (w : ℤ) → pos (bears w) ≡ only (not (eqb (nat_abs w) 0)) (pos 1)
unfolding only
bears_one (pos zero) = refl
bears_one (pos (suc n)) = rw (ne_eqb (suc n) 0 (λ e. omega arith)) refl
bears_one (negsuc n) = rw (ne_eqb (suc n) 0 (λ e. omega arith)) refl

bearing_push : (ws : List ℤ) (w : ℤ) → bearing (ws ++ w ∷ []) ≡ bearing ws + bears w
bearing_push [] w = omega arith
bearing_push (v ∷ ws) w = let ih = bearing_push ws w in omega arith

bearing_each : (n : ℕ) (w : ℕ → ℤ) → pos (bearing (each_to n w)) ≡ parties n w
unfolding each_to sum_to parties
bearing_each zero w = refl
bearing_each (suc n) w = ap pos (bearing_push (each_to n w) (w (suc n))) ∙ ap₂ ◌+ℤ◌ (bearing_each n w) (bears_one (w (suc n)))

-- ---- a list, summed by its numbers
sum_first : (n : ℕ) (f : ℕ → ℤ) → sum_to (suc n) f ≡ f 1 +ℤ sum_to n (λ k. f (suc k))
unfolding sum_to
sum_first zero f = +ℤ_idl (f 1) ∙ sym (+ℤ_idr (f 1))
sum_first (suc n) f = ap (λ (s : ℤ). s +ℤ f (suc (suc n))) (sum_first n f) ∙ +ℤ_assoc (f 1) (sum_to n (λ k. f (suc k))) (f (suc (suc n)))

sum_rows : (xs : List ℤ) → sum_z xs ≡ sum_to (length xs) (row_of (pos 0) xs)
unfolding sum_to
sum_rows [] = refl
sum_rows (x ∷ xs) =
    ap (λ (s : ℤ). x +ℤ s) (sum_rows xs ∙ sum_same (length xs) (row_of (pos 0) xs) (λ k. row_of (pos 0) (x ∷ xs) (suc k)) (λ k a b. shift k a))
    ∙ sym (sum_first (length xs) (row_of (pos 0) (x ∷ xs)))
  where
    shift : (k : ℕ) → 1 ≤ k → row_of (pos 0) xs k ≡ row_of (pos 0) (x ∷ xs) (suc k)
    shift zero a = absurd (omega arith)
    shift (suc k) a = refl

-- ---- sharing
-- the share of party k in x, by the weights w
unfoldable pub share : ℕ → (ℕ → ℤ) → ℤ → ℕ → ℤ
share n w x k = row_of (pos 0) (shares x (each_to n w)) k

fair : (n : ℕ) (w : ℕ → ℤ) (x : ℤ) → Fair x (each_to n w) (shares x (each_to n w)) (leftover x (each_to n w))
fair n w x = shares_fair x (each_to n w) (leftover x (each_to n w)) refl

pub sum_shares : (n : ℕ) (w : ℕ → ℤ) (x : ℤ) → sum_to n (share n w x) +ℤ leftover x (each_to n w) ≡ x
unfolding share
sum_shares n w x =
    let count : length (shares x (each_to n w)) ≡ n = (fair n w x).each ∙ length_each n w in
    let all : sum_z (shares x (each_to n w)) ≡ sum_to n (row_of (pos 0) (shares x (each_to n w))) = sum_rows (shares x (each_to n w)) ∙ ap (λ (m : ℕ). sum_to m (row_of (pos 0) (shares x (each_to n w)))) count in
    ap (λ (s : ℤ). s +ℤ leftover x (each_to n w)) (sym all) ∙ (fair n w x).whole

-- the shares fall short of the amount by less than a cent for each party, and never exceed it
pub shares_fill : (n : ℕ) (w : ℕ → ℤ) (x : ℤ) → pos 0 <ℤ sum_to n w → JustBelow (sum_to n (share n w x)) x (parties n w)
shares_fill n w x h =
    let f = fair n w x in
    let some : pos 0 <ℤ sum_z (each_to n w) = rw (sum_each n w) h in
    let whole = sum_shares n w x in
    let low = f.least some in
    let high : leftover x (each_to n w) <ℤ parties n w = rw (bearing_each n w) at (f.below some) in
    (omega (arith, ints, whole, low), omega (arith, ints, whole, high))

-- a party without weight has no share
pub share_nil : (n : ℕ) (w : ℕ → ℤ) (x : ℤ) (k : ℕ) → w k ≡ pos 0 → share n w x k ≡ pos 0
unfolding share
share_nil n w x zero e = refl
share_nil n w x (suc i) e = (fair n w x).nil i (⊎_elim
    (λ (o : i < n). each_at n w (suc i) (omega arith) (omega arith) ∙ e)
    (λ (o : n ≤ i). get_or_past (each_to n w) i (pos 0) (omega (arith, length_each n w)))
    (cases_lt i n))

-- nobody has a share where the weights add up to nil or less
pub share_none : (n : ℕ) (w : ℕ → ℤ) (x : ℤ) (k : ℕ) → sum_to n w ≤ℤ pos 0 → share n w x k ≡ pos 0
unfolding share
share_none n w x zero h = refl
share_none n w x (suc i) h = (fair n w x).none (rw (sum_each n w) h) i
