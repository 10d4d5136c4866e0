-- The credits of a closed month: a zone's penalties, shared by availability. Assumes nothing.
use Rattle.std.specs.Prelude.{ℕ, Bool, ◌&&◌, List, length, ℤ, pos, ◌==◌, int_lt}
use Rattle.sharing.specs.Shares.{shares, leftover}
use Rattle.rules.specs.declared.rows.Posting.{Posting}
use Rattle.rules.specs.Ledger.{Standing, Ledger, resource_of, zone_of, closed}
use Rattle.rules.specs.Penalties.{month_penalty}
use Rattle.rules.specs.Positions.{position}
use Rattle.rules.specs.Classes.{has_credits}
use Rattle.rules.specs.Rows.{row_of}
use Rattle.rules.specs.Totals.{only, total, sum_to, each_to}

-- the sum over the resources of a zone
unfoldable pub zone_sum : Standing → ℕ → (ℕ → ℤ) → ℤ
zone_sum s z f = sum_to (length s.resources) (λ r. only (zone_of s r == z) (f r))

-- the penalties of a zone in a month
unfoldable pub pool : Standing → List Posting → ℕ → ℕ → ℤ
pool s ps z m = zone_sum s z (λ r. month_penalty ps r m)

-- the weight of a resource, over the month's events
unfoldable pub weight_of : List Posting → ℕ → ℕ → ℤ
weight_of ps r m = total (λ p. only (p.resource == r && p.month == m) (pos p.weight)) ps

unfoldable pub is_recipient : Standing → List Posting → ℕ → ℕ → Bool
is_recipient s ps m r = int_lt (pos 0) (position s r m) && (has_credits (resource_of s r).class && int_lt (pos 0) (weight_of ps r m))

unfoldable pub recipients : Standing → List Posting → ℕ → ℕ → ℤ
recipients s ps z m = zone_sum s z (λ r. only (is_recipient s ps m r) (pos 1))

-- the weight of r in the sharing of zone z's pool, nil where it is no recipient there
unfoldable pub credit_weight : Standing → List Posting → ℕ → ℕ → ℕ → ℤ
credit_weight s ps z m r = only (zone_of s r == z && is_recipient s ps m r) (weight_of ps r m)

unfoldable pub credit_weights : Standing → List Posting → ℕ → ℕ → List ℤ
credit_weights s ps z m = each_to (length s.resources) (credit_weight s ps z m)

unfoldable pub credit_at_close : Standing → List Posting → ℕ → ℕ → ℤ
credit_at_close s ps m r = row_of (pos 0) (shares (pool s ps (zone_of s r) m) (credit_weights s ps (zone_of s r) m)) r

-- a month that is not closed has no credits yet
unfoldable pub credit : Ledger → ℕ → ℕ → ℤ
credit l m r = only (closed l m) (credit_at_close l.standing l.postings m r)

unfoldable pub credits : Ledger → ℕ → ℕ → ℤ
credits l z m = zone_sum l.standing z (credit l m)

-- the rest of the pool
unfoldable pub unshared : Standing → List Posting → ℕ → ℕ → ℤ
unshared s ps z m = leftover (pool s ps z m) (credit_weights s ps z m)
