-- A row whose first i months are changed, and how it goes on.
use Rattle.std.proofs.Common.{◌≡◌, ℕ, zero, suc, ◌<◌, ◌≤◌, Bool, true, false, cond, List, length, get_or, Some, None, sym, refl, ap, ◌∙◌, subst, ⊎_elim, arith}
use Rattle.std.proofs.lemmas.Bool.{or_right, or_left, cases_order, cond-true, cond-false}
use Rattle.std.proofs.lemmas.List.FromFn.{fill_by_all}
use Rattle.rules.specs.declared.rows.Change.{Change}
use Rattle.rules.specs.Positions.{month_after, month_leaves, leaves_in, changed_row, row_after}
use Rattle.rules.specs.Within.{changed_month}

pub record Half (i : ℕ) (ch : Change) (old row : List ℕ) : Type 0 where
  pub long : length row ≡ 12
  pub done : (j : ℕ) → j < i → get_or row j 0 ≡ month_after ch j (get_or old j 0)
  pub stays : leaves_in i ch old ≡ false
  pub bounded : (j : ℕ) → j < 12 → get_or row j 0 ≤ 200000

-- one month that leaves the limits decides
pub one_leaves : (n k : ℕ) (ch : Change) (row : List ℕ) → k < n → month_leaves ch k (get_or row k 0) ≡ true → leaves_in n ch row ≡ true
one_leaves zero k ch row h e = absurd (omega arith)
one_leaves (suc n) k ch row h e =
    ⊎_elim
    (λ same. or_left (month_leaves ch n (get_or row n 0)) (leaves_in n ch row) (subst (λ (m : ℕ). month_leaves ch m (get_or row m 0) ≡ true) same e))
    (λ other. or_right (month_leaves ch n (get_or row n 0)) (leaves_in n ch row) (one_leaves n k ch row (omega arith) e))
    (cases_order k n)

pub test_of_none : {X : Type 0} (b : Bool) (x : X) → cond b None (Some x) ≡ None → b ≡ true
test_of_none true x e = refl
test_of_none false x e = absurd (let z : ◌≡◌ {A = ℕ} 0 1 = cc in omega arith)

-- all twelve are changed
pub half_all : (ch : Change) (old row : List ℕ) → Half 12 ch old row → Some row ≡ changed_row ch old
unfolding changed_row
half_all ch old row half =
    ap Some (fill_by_all (λ k. month_after ch k (get_or old k 0)) row 12 0 half.long half.done)
    ∙ sym (cond-false (leaves_in 12 ch old) None (Some (row_after ch old)) half.stays)

-- the i-th month leaves the limits, and so the row does
pub month_out : (i : ℕ) (ch : Change) (old : List ℕ) → i < 12 → changed_month ch i (get_or old i 0) ≡ None → None ≡ changed_row ch old
unfolding changed_row
month_out i ch old lt e =
    let out : month_leaves ch i (get_or old i 0) ≡ true = test_of_none _ (month_after ch i (get_or old i 0)) e in
    sym (cond-true (leaves_in 12 ch old) None (Some (row_after ch old)) (one_leaves 12 i ch old lt out))
