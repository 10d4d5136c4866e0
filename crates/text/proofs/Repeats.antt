-- The laws of k values of one format. Assumes nothing.
use Rattle.std.proofs.Common.{◌≡◌, ℕ, zero, suc, ◌+◌, ◌-◌, ◌<◌, List, [], ◌∷◌, ◌++◌, length, Ok, Err, Option, Result, sym, refl, ap, ◌∙◌, subst, append_assoc, append-nil, add-zero, arith}
use Rattle.text.specs.declared.faults.FieldFault.{FieldFault}
use Rattle.std.specs.List.{flat_map, AllByRecursion}
use Rattle.text.specs.declared.faults.Spot.{Spot}
use Rattle.text.specs.Cuts.{next, past}
use Rattle.text.specs.Numbers.{numeral}
use Rattle.text.specs.Formats.{then, Format, many, many_pieces, many_left, many_values, follows, number, or_fault, nothing}
use Rattle.text.proofs.Codecs.{Edge, Free, free_append, Laws, then_ok}

module _ {A P : Type 0} (f : Format A P) (l : Laws f) (edge : (x : A) (r : List ℕ) → Edge 32 (f.text x ++ r)) where
  pub texts_edge : (xs : List A) (r : List ℕ) → Edge 32 r → Edge 32 (flat_map f.text xs ++ r)
  texts_edge [] r e = e
  texts_edge (x ∷ xs) r e = subst (Edge 32) (sym (append_assoc (f.text x) (flat_map f.text xs) r)) (edge x (flat_map f.text xs ++ r))

  many_forth : (xs : List A) (r : List ℕ) → AllByRecursion f.good xs → Edge 32 r → (many_left f (length xs) (flat_map f.text xs ++ r) ≡ r) × ((at : Spot) (p : ℕ) → many_values f at p (many_pieces f (length xs) (flat_map f.text xs ++ r)) ≡ Ok xs)
  unfolding many_pieces many_left many_values
  many_forth [] r g e = (refl, λ at p. refl)
  many_forth (x ∷ xs) r g e =
      let s : (f.text x ++ flat_map f.text xs) ++ r ≡ f.text x ++ (flat_map f.text xs ++ r) = append_assoc (f.text x) (flat_map f.text xs) r in
      let a = l.forth x (flat_map f.text xs ++ r) g.0 (texts_edge xs r e) in
      let b = many_forth xs r g.1 e in
      let left : f.left ((f.text x ++ flat_map f.text xs) ++ r) ≡ flat_map f.text xs ++ r = ap f.left s ∙ a.0 in (
        ap (many_left f (length xs)) left ∙ b.0,
        λ at p. (λ i. then (f.value at p (f.piece (s i))) (λ y. then (many_values f at (p + f.width) (many_pieces f (length xs) (left i))) (λ ys. Ok (y ∷ ys))))
            ∙ ap (λ v. then v (λ y. then (many_values f at (p + f.width) (many_pieces f (length xs) (flat_map f.text xs ++ r))) (λ ys. Ok (y ∷ ys)))) (a.1 at p)
            ∙ ap (λ v. then v (λ ys. Ok (x ∷ ys))) (b.1 at (p + f.width)),
      )

  many_back : (k : ℕ) (at : Spot) (p : ℕ) (s : List ℕ) (xs : List A) → many_values f at p (many_pieces f k s) ≡ Ok xs → (s ≡ flat_map f.text xs ++ many_left f k s) × ((length xs ≡ k) × AllByRecursion f.good xs)
  unfolding many_pieces many_left many_values
  many_back zero at p s xs h =
      let same : [] ≡ xs = cc in
      subst (λ ys. (s ≡ flat_map f.text ys ++ s) × ((length ys ≡ 0) × AllByRecursion f.good ys)) same (refl, (refl, tt))
  many_back (suc k) at p s xs h =
      let u = then_ok (f.value at p (f.piece s)) _ xs h in
      let v = then_ok (many_values f at (p + f.width) (many_pieces f k (f.left s))) _ xs u.2 in
      let a = l.back at p s u.0 u.1 in
      let b = many_back k at (p + f.width) (f.left s) v.0 v.1 in
      let same : u.0 ∷ v.0 ≡ xs = cc v.2 in
      let whole : s ≡ (f.text u.0 ++ flat_map f.text v.0) ++ many_left f k (f.left s) = a.0 ∙ ap (λ t. f.text u.0 ++ t) b.0 ∙ sym (append_assoc (f.text u.0) (flat_map f.text v.0) (many_left f k (f.left s))) in
      subst (λ ys. (s ≡ flat_map f.text ys ++ many_left f k (f.left s)) × ((length ys ≡ suc k) × AllByRecursion f.good ys)) same (whole, (ap suc b.1.0, (a.1, b.1.1)))

  many_flat : (xs : List A) → AllByRecursion f.good xs → Free 10 (flat_map f.text xs)
  many_flat [] g = tt
  many_flat (x ∷ xs) g = free_append 10 (f.text x) (flat_map f.text xs) (l.flat x g.0) (many_flat xs g.1)

  pub many_laws : (k : ℕ) → Laws (many k f)
  many_laws k = record {
    forth = λ xs r g e. subst (λ j. (many_left f j (flat_map f.text xs ++ r) ≡ r) × ((at : Spot) (p : ℕ) → many_values f at p (many_pieces f j (flat_map f.text xs ++ r)) ≡ Ok xs)) g.0 (many_forth xs r g.1 e);
    back = λ at p s xs h. many_back k at p s xs h;
    flat = λ xs g. many_flat xs g.1;
  }

-- what k numbers more give, after the numbers xs that were read before them, for a loop
abbrev pub numbers_on : ℕ → Spot → ℕ → List ℕ → List ℕ → Result (List ℕ) FieldFault
numbers_on k at p s xs =
    then (many_values (follows number) at p (many_pieces (follows number) k s))
    (λ ys. then (or_fault (nothing (many_left (follows number) k s)) at (p + k)) (λ _. Ok (xs ++ ys)))

regroup : (v : Result (List ℕ) FieldFault) (o : Option (Unit {0})) (at : Spot) (p q : ℕ) (x : ℕ) (xs : List ℕ) → p ≡ q
    → then (then v (λ ys. Ok (x ∷ ys))) (λ ys. then (or_fault o at p) (λ _. Ok (xs ++ ys))) ≡ then v (λ ys. then (or_fault o at q) (λ _. Ok ((xs ++ x ∷ []) ++ ys)))
regroup (Ok ys) o at p q x xs e = λ i. then (or_fault o at (e i)) (λ _. Ok (sym (append_assoc xs (x ∷ []) ys) i))
regroup (Err f) o at p q x xs e = refl

-- a turn that read a number, a turn that met a fault, and the end
pub number_read : (k : ℕ) (at : Spot) (p : ℕ) (s : List ℕ) (x : ℕ) (xs : List ℕ) → 0 < k → or_fault (numeral (next s)) at p ≡ Ok x
    → numbers_on k at p s xs ≡ numbers_on (k - 1) at (p + 1) (past s) (xs ++ x ∷ [])
unfolding many_pieces many_left many_values
number_read zero at p s x xs h e = absurd (omega arith)
number_read (suc k) at p s x xs h e =
    let less : suc k - 1 ≡ k = omega arith in
    rw (e, less) (regroup (many_values (follows number) at (p + 1) (many_pieces (follows number) k (past s))) (nothing (many_left (follows number) k (past s))) at (p + suc k) (p + 1 + k) x xs (omega arith))

pub number_faulty : (k : ℕ) (at : Spot) (p : ℕ) (s xs : List ℕ) (f : FieldFault) → 0 < k → or_fault (numeral (next s)) at p ≡ Err f → numbers_on k at p s xs ≡ Err f
unfolding many_pieces many_left many_values
number_faulty zero at p s xs f h e = absurd (omega arith)
number_faulty (suc k) at p s xs f h e = rw e refl

pub numbers_end : (k : ℕ) (at : Spot) (p : ℕ) (s xs : List ℕ) → k ≡ 0 → numbers_on k at p s xs ≡ then (or_fault (nothing s) at p) (λ _. Ok xs)
unfolding many_pieces many_left many_values
numbers_end zero at p s xs e = rw (add-zero, append-nil) refl
numbers_end (suc k) at p s xs e = absurd (omega arith)
