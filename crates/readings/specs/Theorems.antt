-- The rules of the two sources as a reader would put them. Assumes nothing.
use Rattle.std.specs.Prelude.{◌≡◌, ℕ, ◌-◌, ◌*◌, ◌/◌, ◌<◌, ◌≤◌, min, true, List, length, sum_by, sum, slice_index}
use Rattle.readings.specs.Table.{Table, Applies}
use Rattle.readings.specs.Sources.{published_of, hourly_of, hours_of}

-- the first n numbers exist and are at most m
pub record FirstAtMost (xs : List ℕ) (n m : ℕ) : Type 0 where
  pub exist : n ≤ length xs
  pub most : (i : ℕ) → i < n → slice_index xs i ≤ m

-- Where r, q or h is outside its range, or no count of resources from r upward is covered for h hours, a source answers
-- kept 0, due 1 and weight 0.
abbrev pub Silent : Table → Type 0
Silent t = (r q h : ℕ) → ((n : ℕ) → Applies t n r q h → ⊥) → (t.score r q h ≡ (0, 1)) × (t.weight r q h ≡ 0)

-- n resources are covered where the first n scores exist and are at most ten thousand. There a score is kept of ten
-- thousand, and its weight is that part of position times hours.
pub record PublishedRule (scores : List ℕ) : Type 0 where
  pub covered : (n h : ℕ) → FirstAtMost scores n 10000 → (published_of scores).covers n h ≡ true
  pub only : (n h : ℕ) → (published_of scores).covers n h ≡ true → FirstAtMost scores n 10000
  pub score : (n r q h : ℕ) → Applies (published_of scores) n r q h → (published_of scores).score r q h ≡ (slice_index scores (r - 1), 10000)
  pub weight : (n r q h : ℕ) → Applies (published_of scores) n r q h → (published_of scores).weight r q h ≡ q * h * slice_index scores (r - 1) / 10000
  pub silent : Silent (published_of scores)

-- n resources are covered for h hours where the readings were made for h hours, and the first n times h of them exist and
-- are at most 200,000. There each hour is kept up to the position, of position times hours, and the weight is the sum.
pub record HourlyRule (readings : List ℕ) (made : ℕ) : Type 0 where
  pub covered : (n h : ℕ) → made ≡ h → FirstAtMost readings (n * h) 200000 → (hourly_of readings made).covers n h ≡ true
  pub only : (n h : ℕ) → (hourly_of readings made).covers n h ≡ true → (made ≡ h) × FirstAtMost readings (n * h) 200000
  pub score : (n r q h : ℕ) → Applies (hourly_of readings made) n r q h → (hourly_of readings made).score r q h ≡ (sum_by (λ x. min x q) (hours_of readings r h), q * h)
  pub weight : (n r q h : ℕ) → Applies (hourly_of readings made) n r q h → (hourly_of readings made).weight r q h ≡ sum (hours_of readings r h)
  pub silent : Silent (hourly_of readings made)
