-- The shares keep the laws. Assumes nothing.
use Rattle.std.proofs.Common.{◌≡◌, ℕ, zero, suc, ◌+◌, ◌*◌, ◌<◌, ◌≤◌, List, [], ◌∷◌, map, length, get_or, ℤ, pos, negsuc, ◌+ℤ◌, ◌-ℤ◌, ◌*ℤ◌, nat_abs, ◌≤ℤ◌, ◌<ℤ◌, sym, refl, ap, ◌∙◌, arith}
use borrow.Author.Differences.{ints, up, down, sum_is_lem}
use lib.IntN.{*ℤ-zero}
use Rattle.std.proofs.lemmas.List.{length-map, get_or-map, get_or_past}
use Rattle.std.proofs.lemmas.Int.{by_lt_z}
use Rattle.std.proofs.lemmas.Nat.{mul-le}
use Rattle.sharing.specs.Floor.{floor_div, Near}
use Rattle.sharing.specs.Shares.{sum_z, portion, shares, leftover}
use Rattle.sharing.specs.Fair.{bears, bearing, Fair}
use Rattle.sharing.proofs.Floors.{rest, floor_near, floor_nil, floor_none, size_product}

pub *ℤ-+ℤ : (a b c : ℤ) → a *ℤ (b +ℤ c) ≡ a *ℤ b +ℤ a *ℤ c
*ℤ-+ℤ a b c = omega (arith, ints, ap (λ n. up a * n) (sum_is_lem b c), ap (λ n. down a * n) (sum_is_lem b c))

pub +ℤ-*ℤ : (a b c : ℤ) → (a +ℤ b) *ℤ c ≡ a *ℤ c +ℤ b *ℤ c
+ℤ-*ℤ a b c = omega (arith, ints, ap (λ n. n * up c) (sum_is_lem a b), ap (λ n. n * down c) (sum_is_lem a b))

-- the rest of one party; a party with no weight leaves none
rest_of : (a t w : ℤ) → pos 0 <ℤ t → (r : ℕ) × ((a *ℤ w ≡ floor_div (a *ℤ w) t *ℤ t +ℤ pos r) × (r + bears w ≤ nat_abs t * bears w))
rest_of a t (pos zero) h = (0, (rw (*ℤ-zero, floor_nil) (omega (arith, ints)), omega arith))
rest_of a t (pos (suc n)) h = let r = rest (a *ℤ pos (suc n)) t h in (r.0, (r.1.0, omega (arith, ints, r.1.1)))
rest_of a t (negsuc n) h = let r = rest (a *ℤ negsuc n) t h in (r.0, (r.1.0, omega (arith, ints, r.1.1)))

-- the rests of all parties: what they sum to, and how large that can be
rests : (a t : ℤ) → pos 0 <ℤ t → (ws : List ℤ)
    → (r : ℕ) × ((a *ℤ sum_z ws ≡ sum_z (map (λ w. floor_div (a *ℤ w) t) ws) *ℤ t +ℤ pos r) × (r + bearing ws ≤ nat_abs t * bearing ws))
rests a t h [] = (0, (omega (arith, ints), omega arith))
rests a t h (w ∷ ws) =
    let p = rest_of a t w h in
    let q = rests a t h ws in
    let f = floor_div (a *ℤ w) t in
    let s = sum_z (map (λ w. floor_div (a *ℤ w) t) ws) in
    let split = *ℤ-+ℤ a w (sum_z ws) in
    let joined = +ℤ-*ℤ f s t in
    (p.0 + q.0, (omega (arith, ints, split, joined, p.1.0, q.1.0), omega (arith, p.1.1, q.1.1)))

bears_some : (ws : List ℤ) → pos 0 <ℤ sum_z ws → 0 < bearing ws
bears_some [] h = absurd (omega (arith, ints))
bears_some (pos zero ∷ ws) h = omega (arith, bears_some ws (omega (arith, ints)))
bears_some (pos (suc n) ∷ ws) h = omega arith
bears_some (negsuc n ∷ ws) h = omega arith

divided : (d : ℤ) (n r k : ℕ) → 0 < k → d *ℤ pos (suc n) ≡ pos r → r + k ≤ suc n * k → (pos 0 ≤ℤ d) × (d <ℤ pos k)
divided (pos d) n r k h e l =
    (omega (arith, ints), by_lt_z (pos d) (pos k) (λ j. j) (λ j. absurd (omega (arith, ints, mul-le k (suc n) d (suc n) (omega (arith, ints)) (omega arith)))))
divided (negsuc d) n r k h e l = absurd (omega (arith, ints))

-- ---- what the definition of `shares` comes to

sum_nothing : (ws : List ℤ) → sum_z (map (λ w. pos 0) ws) ≡ pos 0
sum_nothing [] = refl
sum_nothing (w ∷ ws) = omega (arith, ints, sum_nothing ws)

get_nothing : (ws : List ℤ) (k : ℕ) → get_or (map (λ w. pos 0) ws) k (pos 0) ≡ pos 0
get_nothing [] k = refl
get_nothing (w ∷ ws) zero = refl
get_nothing (w ∷ ws) (suc k) = get_nothing ws k

by_nothing : (a t : ℤ) (ws : List ℤ) → t ≤ℤ pos 0 → map (portion a t) ws ≡ map (λ w. pos 0) ws
by_nothing a t [] h = refl
by_nothing a t (w ∷ ws) h = cc (floor_none (a *ℤ w) t h, by_nothing a t ws h)

pub length_shares : (a : ℤ) (ws : List ℤ) → length (shares a ws) ≡ length ws
unfolding shares
length_shares a ws = length-map ws (portion a (sum_z ws))

pub get_or_shares : (a : ℤ) (ws : List ℤ) (k : ℕ) → k < length ws → get_or (shares a ws) k (pos 0) ≡ portion a (sum_z ws) (get_or ws k (pos 0))
unfolding shares
get_or_shares a ws k h = get_or-map (portion a (sum_z ws)) ws k (pos 0) (pos 0) h

shares_are : (a : ℤ) (ws : List ℤ) → shares a ws ≡ map (λ w. floor_div (a *ℤ w) (sum_z ws)) ws
unfolding shares
shares_are a ws = refl

shares_none : (a : ℤ) (ws : List ℤ) → sum_z ws ≤ℤ pos 0 → shares a ws ≡ map (λ w. pos 0) ws
unfolding shares
shares_none a ws h = by_nothing a (sum_z ws) ws h

-- ---- the laws

leaves : (a : ℤ) (ws : List ℤ) → pos 0 <ℤ sum_z ws → (pos 0 ≤ℤ (a -ℤ sum_z (shares a ws))) × ((a -ℤ sum_z (shares a ws)) <ℤ pos (bearing ws))
leaves a ws h = by_total (sum_z ws) refl h
  where
    by_total : (t : ℤ) → t ≡ sum_z ws → pos 0 <ℤ t → (pos 0 ≤ℤ (a -ℤ sum_z (shares a ws))) × ((a -ℤ sum_z (shares a ws)) <ℤ pos (bearing ws))
    by_total (pos zero) e k = absurd (omega (arith, ints))
    by_total (negsuc n) e k = absurd (omega (arith, ints))
    by_total (pos (suc n)) e k =
        let t = pos (suc n) in
        let q = rests a t k ws in
        let s = sum_z (map (λ w. floor_div (a *ℤ w) t) ws) in
        let same : sum_z (shares a ws) ≡ s = ap sum_z (shares_are a ws) ∙ ap (λ x. sum_z (map (λ w. floor_div (a *ℤ w) x) ws)) (sym e) in
        let back : a ≡ s +ℤ (a -ℤ s) = omega (arith, ints) in
        let times : a *ℤ t ≡ s *ℤ t +ℤ (a -ℤ s) *ℤ t = ap (λ x. x *ℤ t) back ∙ +ℤ-*ℤ s (a -ℤ s) t in
        let whole : a *ℤ t ≡ s *ℤ t +ℤ pos q.0 = ap (λ x. a *ℤ x) e ∙ q.1.0 in
        let left : (a -ℤ s) *ℤ t ≡ pos q.0 = omega (arith, ints, times, whole) in
        rw same (divided (a -ℤ s) n q.0 (bearing ws) (bears_some ws h) left q.1.1)

near : (a : ℤ) (ws : List ℤ) → pos 0 <ℤ sum_z ws → (k : ℕ) → k < length ws → Near (a *ℤ get_or ws k (pos 0)) (sum_z ws) (get_or (shares a ws) k (pos 0))
near a ws h k l =
    rw (shares_are a ws, get_or-map (λ w. floor_div (a *ℤ w) (sum_z ws)) ws k (pos 0) (pos 0) l) (floor_near (a *ℤ get_or ws k (pos 0)) (sum_z ws) h)

portion_nil : (a t : ℤ) → portion a t (pos 0) ≡ pos 0
portion_nil a t = rw (*ℤ-zero a) (floor_nil t)

nil : (a : ℤ) (ws : List ℤ) (k : ℕ) → get_or ws k (pos 0) ≡ pos 0 → get_or (shares a ws) k (pos 0) ≡ pos 0
nil a ws k e =
    by_lt_z (pos k) (pos (length ws))
    (λ h. get_or_shares a ws k (omega (arith, ints)) ∙ ap (portion a (sum_z ws)) e ∙ portion_nil a (sum_z ws))
    (λ h. get_or_past (shares a ws) k (pos 0) (omega (arith, ints, length_shares a ws)))

pub shares_fair : (a : ℤ) (ws : List ℤ) (left : ℤ) → left ≡ leftover a ws → Fair a ws (shares a ws) left
unfolding leftover
shares_fair a ws left e =
    record {
      each = length_shares a ws;
      whole = omega (arith, ints);
      least = λ h. rw e (leaves a ws h).0;
      below = λ h. rw e (leaves a ws h).1;
      near = near a ws;
      nil = nil a ws;
      none = λ h k. rw (shares_none a ws h) (get_nothing ws k);
      kept = λ h. let z : sum_z (shares a ws) ≡ pos 0 = ap sum_z (shares_none a ws h) ∙ sum_nothing ws in omega (arith, ints);
    }

-- ---- what the laws give a caller; nothing below looks into `shares`

near_below : (k m n : ℕ) → k * suc n ≤ m + suc n → k ≤ m + 1
near_below k m n h =
    by_lt_z (pos (m + 1)) (pos k)
    (λ j. absurd (omega (arith, mul-le (m + 2) (suc n) k (suc n) (omega (arith, ints)) (omega arith))))
    (λ j. omega (arith, ints))

near_above : (k m n : ℕ) → k * suc n < suc m → k ≤ m
near_above k m n h = omega arith

-- a share is not much larger than the product that it is a part of
pub near_within : (a t q : ℤ) → pos 0 <ℤ t → Near a t q → nat_abs q ≤ nat_abs a + 1
near_within a (negsuc n) q h f = absurd (omega (arith, ints))
near_within a (pos zero) q h f = absurd (omega (arith, ints))
near_within (pos m) (pos (suc n)) (pos k) h f = omega (arith, near_below k m n (omega (arith, ints, f.above)))
near_within (negsuc m) (pos (suc n)) (pos k) h f = omega (arith, near_below k 0 n (omega (arith, ints, f.above)))
near_within (pos m) (pos (suc n)) (negsuc k) h f = absurd (omega (arith, ints, f.below))
near_within (negsuc m) (pos (suc n)) (negsuc k) h f = omega (arith, near_above k m n (omega (arith, ints, f.below)))

pub share_within : (a : ℤ) (ws ss : List ℤ) (left : ℤ) (k A W : ℕ) → Fair a ws ss left → k < length ws → nat_abs a ≤ A → nat_abs (get_or ws k (pos 0)) ≤ W
    → nat_abs (get_or ss k (pos 0)) ≤ A * W + 1
share_within a ws ss left k A W f h ha hw =
    by_lt_z (pos 0) (sum_z ws)
    (λ t. omega (arith, near_within (a *ℤ get_or ws k (pos 0)) (sum_z ws) (get_or ss k (pos 0)) t (f.near t k h), size_product a (get_or ws k (pos 0)), mul-le (nat_abs a) (nat_abs (get_or ws k (pos 0))) A W ha hw))
    (λ t. let z = f.none t k in omega (arith, ints))
