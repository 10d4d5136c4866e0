-- The rows of a list of resources stay within the limits.
use Rattle.std.proofs.Common.{◌≡◌, ℕ, zero, suc, ◌<◌, ◌≤◌, true, false, not, ltb, List, [], ◌∷◌, ◌++◌, length, get_or, set, replicate, IfSome, Some, Option, sym, refl, ap, subst, arith}
use Rattle.std.proofs.lemmas.Bool.{and_parts, and_from, or_from, le-ltb, not-true}
use Rattle.std.specs.List.{slice_get}
use Rattle.rules.specs.declared.rows.Resource.{Resource}
use Rattle.rules.specs.Tests.{any_above}
use Rattle.rules.specs.Rows.{numbered}
use Rattle.rules.proofs.Above.{none_above}
use Rattle.rules.specs.Within.{within, all_within}

pub within_push : (xs : List Resource) (r : Resource) → all_within xs ≡ true → within r.row ≡ true → all_within (xs ++ r ∷ []) ≡ true
within_push [] r h e = and_from (within r.row) true e refl
within_push (x ∷ xs) r h e = let p = and_parts (within x.row) (all_within xs) h in and_from (within x.row) (all_within (xs ++ r ∷ [])) p.0 (within_push xs r p.1 e)

pub within_set : (xs : List Resource) (i : ℕ) (r : Resource) → all_within xs ≡ true → within r.row ≡ true → all_within (set xs i r) ≡ true
within_set [] i r h e = refl
within_set (x ∷ xs) zero r h e = let p = and_parts (within x.row) (all_within xs) h in and_from (within r.row) (all_within xs) e p.1
within_set (x ∷ xs) (suc i) r h e = let p = and_parts (within x.row) (all_within xs) h in and_from (within x.row) (all_within (set xs i r)) p.0 (within_set xs i r p.1 e)

within_nth : (xs : List Resource) (i : ℕ) → all_within xs ≡ true → IfSome (slice_get xs i) (λ r. within r.row ≡ true)
within_nth [] i h = tt
within_nth (x ∷ xs) zero h = (and_parts (within x.row) (all_within xs) h).0
within_nth (x ∷ xs) (suc i) h = within_nth xs i (and_parts (within x.row) (all_within xs) h).1

pub within_numbered : (xs : List Resource) (n : ℕ) (r : Resource) → all_within xs ≡ true → Some r ≡ numbered xs n → within r.row ≡ true
within_numbered xs zero r h e = absurd (let z : ◌≡◌ {A = ℕ} 0 1 = cc in omega arith)
within_numbered xs (suc i) r h e = subst (λ (o : Option Resource). IfSome o (λ x. within x.row ≡ true)) (sym e) (within_nth xs i h)

none_replicated : (n q : ℕ) → q ≤ 200000 → any_above 200000 (replicate n q) ≡ false
none_replicated zero q h = refl
none_replicated (suc n) q h = or_from (ltb 200000 q) (any_above 200000 (replicate n q)) (le-ltb 200000 q h) (none_replicated n q h)

pub within_replicate : (q : ℕ) → q ≤ 200000 → within (replicate 12 q) ≡ true
within_replicate q h = ap not (none_replicated 12 q h)

pub within_month : (row : List ℕ) (k : ℕ) → within row ≡ true → get_or row k 0 ≤ 200000
within_month row k h = none_above 200000 row k (not-true (any_above 200000 row) h)

pub within_read : (xs : List Resource) (i : ℕ) (r : Resource) → all_within xs ≡ true → i < length xs → r ≡ get_or xs i r → within r.row ≡ true
within_read [] i r h lt e = absurd (omega arith)
within_read (x ∷ xs) zero r h lt e = subst (λ (y : Resource). within y.row ≡ true) (sym e) (and_parts (within x.row) (all_within xs) h).0
within_read (x ∷ xs) (suc i) r h lt e = within_read xs i r (and_parts (within x.row) (all_within xs) h).1 (omega arith) e
