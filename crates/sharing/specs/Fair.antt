-- The laws of sharing. A caller relies on these, and not on how `shares` is defined. Assumes nothing.
use Rattle.std.specs.Prelude.{◌≡◌, ℕ, zero, suc, ◌+◌, ◌<◌, List, [], ◌∷◌, map, length, ℤ, pos, negsuc, ◌+ℤ◌, ◌*ℤ◌, ◌≤ℤ◌, ◌<ℤ◌, slice_index_or}
use Rattle.sharing.specs.Floor.{Near}
use Rattle.sharing.specs.Shares.{sum_z, shares, leftover, each_takes}

-- 1 for a weight that is not nil
abbrev pub bears : ℤ → ℕ
bears (pos zero) = 0
bears (pos (suc n)) = 1
bears (negsuc n) = 1

-- how many of the weights are not nil
abbrev pub bearing : List ℤ → ℕ
bearing [] = 0
bearing (w ∷ ws) = bears w + bearing ws

-- What shares of an amount by weights keep, with what they leave of it.
pub record Fair (amount : ℤ) (weights given : List ℤ) (left : ℤ) : Type 0 where
  -- one share for each weight
  pub each : length given ≡ length weights
  -- no cent is lost or made
  pub whole : sum_z given +ℤ left ≡ amount
  -- the shares never pass the amount, and stay less than a cent below it for each weight that is not nil
  pub least : pos 0 <ℤ sum_z weights → pos 0 ≤ℤ left
  pub below : pos 0 <ℤ sum_z weights → left <ℤ pos (bearing weights)
  -- each share is at most a cent above its exact part of the amount, and less than a cent below it
  pub near : pos 0 <ℤ sum_z weights → (k : ℕ) → k < length weights → Near (amount *ℤ slice_index_or weights k (pos 0)) (sum_z weights) (slice_index_or given k (pos 0))
  -- no weight, no share
  pub nil : (k : ℕ) → slice_index_or weights k (pos 0) ≡ pos 0 → slice_index_or given k (pos 0) ≡ pos 0
  -- where the weights sum to nil or less there is nothing to share by
  pub none : sum_z weights ≤ℤ pos 0 → (k : ℕ) → slice_index_or given k (pos 0) ≡ pos 0
  pub kept : sum_z weights ≤ℤ pos 0 → left ≡ amount

-- What a sharing among parties comes to: who took what, what stays, what is left, and the laws.
-- A party `weighs` something, `took` its last share, and is as `given` says once it took one.
pub record Shared {P : Type 0} (weighs took : P → ℤ) (given : P → ℤ → P) (amount : ℤ) (before parties : List P) (left : ℤ) : Type 0 where
  pub after : parties ≡ each_takes given before (shares amount (map weighs before))
  pub taken : map took parties ≡ shares amount (map weighs before)
  pub same : map weighs parties ≡ map weighs before
  pub rest : left ≡ leftover amount (map weighs before)
  pub fair : Fair amount (map weighs before) (map took parties) left
