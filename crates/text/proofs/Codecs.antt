-- The two laws of a format, and how they follow for formats made of others. Assumes nothing.
use Rattle.std.proofs.Common.{◌≡◌, ℕ, ◌+◌, eqb, List, [], ◌∷◌, ◌++◌, Some, None, Ok, Err, Option, Result, sym, refl, ap, ◌∙◌, subst, ⊎_elim, append_assoc, append-nil, arith}
use Rattle.std.proofs.lemmas.Bool.{cases_Bool, cond-true, cond-false, ne_eqb, eq-eqb, eqb-true}
use Rattle.text.specs.declared.faults.Spot.{Spot}
use Rattle.text.specs.Cuts.{before, from, next, past}
use Rattle.text.specs.Formats.{then, or_fault, nothing, Token, Format, leads, follows, both, row_value, read_row}
use Rattle.text.proofs.Pieces.{parts, before_stop, before_more, from_stop, from_more}

-- what is left after a part that ends at b: nothing, or b first
abbrev pub Edge : ℕ → List ℕ → Type 0
Edge b [] = Unit {0}
Edge b (c ∷ s) = c ≡ b

-- no byte is b
abbrev pub Free : ℕ → List ℕ → Type 0
Free b [] = Unit {0}
Free b (c ∷ s) = (c ≡ b → ⊥) × Free b s

pub free_append : (b : ℕ) (s t : List ℕ) → Free b s → Free b t → Free b (s ++ t)
free_append b [] t f g = g
free_append b (c ∷ s) t f g = (f.0, free_append b s t f.1 g)

pub record TokenLaws {A : Type 0} (t : Token A) : Type 0 where
  pub forth : (x : A) → t.good x → t.read (t.text x) ≡ Some x
  pub back : (s : List ℕ) (x : A) → t.read s ≡ Some x → (s ≡ t.text x) × t.good x
  pub some : t.read [] ≡ None
  pub clear : (x : A) → t.good x → Free 32 (t.text x)
  pub flat : (x : A) → t.good x → Free 10 (t.text x)

-- reading gives back what was written before an edge, and what is read is the text of its value
pub record Laws {A P : Type 0} (f : Format A P) : Type 0 where
  pub forth : (x : A) (r : List ℕ) → f.good x → Edge 32 r → (f.left (f.text x ++ r) ≡ r) × ((at : Spot) (k : ℕ) → f.value at k (f.piece (f.text x ++ r)) ≡ Ok x)
  pub back : (at : Spot) (k : ℕ) (s : List ℕ) (x : A) → f.value at k (f.piece s) ≡ Ok x → (s ≡ f.text x ++ f.left s) × f.good x
  pub flat : (x : A) → f.good x → Free 10 (f.text x)

-- a text with no b, before an edge, is cut off whole
pub before_edge : (b : ℕ) (w r : List ℕ) → Free b w → Edge b r → before b (w ++ r) ≡ w
before_edge b [] [] h e = refl
before_edge b [] (c ∷ r) h e = before_stop b c r (eq-eqb c b e)
before_edge b (c ∷ w) r h e = before_more b c (w ++ r) (ne_eqb c b h.0) ∙ ap (λ l. c ∷ l) (before_edge b w r h.1 e)

pub from_edge : (b : ℕ) (w r : List ℕ) → Free b w → Edge b r → from b (w ++ r) ≡ r
from_edge b [] [] h e = refl
from_edge b [] (c ∷ r) h e = from_stop b c r (eq-eqb c b e)
from_edge b (c ∷ w) r h e = from_more b c (w ++ r) (ne_eqb c b h.0) ∙ from_edge b w r h.1 e

pub or_fault_ok : {A : Type 0} (o : Option A) (at : Spot) (k : ℕ) (x : A) → or_fault o at k ≡ Ok x → o ≡ Some x
or_fault_ok (Some y) at k x e = cc
or_fault_ok None at k x e = let z : ◌≡◌ {A = ℕ} 0 1 = cc in absurd (omega arith)

-- a `then` that gives a value went through both of its parts
pub then_ok : {A B F : Type 0} (r : Result A F) (f : A → Result B F) (y : B) → then r f ≡ Ok y → (x : A) × (r ≡ Ok x) × (f x ≡ Ok y)
then_ok (Ok x) f y e = (x, refl, e)
then_ok (Err d) f y e = let z : ◌≡◌ {A = ℕ} 0 1 = cc in absurd (omega arith)

pub leads_laws : {A : Type 0} (t : Token A) → TokenLaws t → Laws (leads t)
leads_laws t l = record {
  forth = λ x r g e. (from_edge 32 (t.text x) r (l.clear x g) e, λ at k. ap (λ p. or_fault (t.read p) at k) (before_edge 32 (t.text x) r (l.clear x g) e) ∙ ap (λ o. or_fault o at k) (l.forth x g));
  back = λ at k s x e.
      let b = l.back (before 32 s) x (or_fault_ok (t.read (before 32 s)) at k x e) in
      (sym (parts 32 s) ∙ ap (λ p. p ++ from 32 s) b.0, b.1);
  flat = l.flat;
}

-- an empty piece is no field, so a field that was read had its space
next_parts : {A : Type 0} (t : Token A) (l : TokenLaws t) (s : List ℕ) (x : A) → t.read (next s) ≡ Some x → 32 ∷ (next s ++ past s) ≡ s
next_parts t l [] x e = let z : ◌≡◌ {A = ℕ} 0 1 = cc l.some in absurd (omega arith)
next_parts t l (c ∷ s) x e =
    ⊎_elim
    (λ y. (λ i. 32 ∷ (cond-true (eqb c 32) (before 32 s) [] y i ++ cond-true (eqb c 32) (from 32 s) (c ∷ s) y i)) ∙ (λ i. sym (eqb-true c 32 y) i ∷ parts 32 s i))
    (λ n. let none : next (c ∷ s) ≡ [] = cond-false (eqb c 32) (before 32 s) [] n in let z : ◌≡◌ {A = ℕ} 0 1 = cc (l.some, ap t.read none) in absurd (omega arith))
    (cases_Bool (eqb c 32))

pub follows_laws : {A : Type 0} (t : Token A) → TokenLaws t → Laws (follows t)
follows_laws t l = record {
  forth = λ x r g e. (from_edge 32 (t.text x) r (l.clear x g) e, λ at k. ap (λ p. or_fault (t.read p) at k) (before_edge 32 (t.text x) r (l.clear x g) e) ∙ ap (λ o. or_fault o at k) (l.forth x g));
  back = λ at k s x e.
      let o = or_fault_ok (t.read (next s)) at k x e in
      let b = l.back (next s) x o in
      (sym (next_parts t l s x o) ∙ ap (λ p. 32 ∷ (p ++ past s)) b.0, b.1);
  flat = λ x g. (λ e. omega (arith, e), l.flat x g);
}

-- the text of a later field begins with its space
pub both_laws : {A B P Q : Type 0} (f : Format A P) (g : Format B Q) → Laws f → Laws g → ((y : B) (r : List ℕ) → Edge 32 r → Edge 32 (g.text y ++ r)) → Laws (both f g)
both_laws f g lf lg edge = record {
  forth = λ x r h e.
      let m = edge x.1 r e in
      let a = lf.forth x.0 (g.text x.1 ++ r) h.0 m in
      let b = lg.forth x.1 r h.1 e in
      let s : (f.text x.0 ++ g.text x.1) ++ r ≡ f.text x.0 ++ (g.text x.1 ++ r) = append_assoc (f.text x.0) (g.text x.1) r in
      let l : f.left ((f.text x.0 ++ g.text x.1) ++ r) ≡ g.text x.1 ++ r = ap f.left s ∙ a.0 in (
        ap g.left l ∙ b.0,
        λ at k. (λ i. then (f.value at k (f.piece (s i))) (λ y. then (g.value at (k + f.width) (g.piece (l i))) (λ z. Ok (y, z))))
            ∙ ap (λ v. then v (λ y. then (g.value at (k + f.width) (g.piece (g.text x.1 ++ r))) (λ z. Ok (y, z)))) (a.1 at k)
            ∙ ap (λ v. then v (λ z. Ok (x.0, z))) (b.1 at (k + f.width)),
      );
  back = λ at k s x e.
      let p = then_ok (f.value at k (f.piece s)) _ x e in
      let q = then_ok (g.value at (k + f.width) (g.piece (f.left s))) _ x p.2 in
      let a = lf.back at k s p.0 p.1 in
      let b = lg.back at (k + f.width) (f.left s) q.0 q.1 in
      let same : (p.0, q.0) ≡ x = cc q.2 in
      let whole : s ≡ (f.text p.0 ++ g.text q.0) ++ g.left (f.left s) = a.0 ∙ ap (λ l. f.text p.0 ++ l) b.0 ∙ sym (append_assoc (f.text p.0) (g.text q.0) (g.left (f.left s))) in (
        whole ∙ ap (λ y. (f.text y.0 ++ g.text y.1) ++ g.left (f.left s)) same,
        subst (λ y. f.good y.0 × g.good y.1) same (a.1, b.1),
      );
  flat = λ x h. free_append 10 (f.text x.0) (g.text x.1) (lf.flat x.0 h.0) (lg.flat x.1 h.1);
}

nothing_is : (s : List ℕ) (u : Unit {0}) → nothing s ≡ Some u → s ≡ []
nothing_is [] u e = refl
nothing_is (c ∷ s) u e = let z : ◌≡◌ {A = ℕ} 0 1 = cc in absurd (omega arith)

-- a whole line
pub row_forth : {A P : Type 0} (f : Format A P) → Laws f → (at : Spot) (x : A) → f.good x → read_row f at (f.text x) ≡ Ok x
row_forth f l at x g =
    let a = l.forth x [] g tt in
    let s : f.text x ++ [] ≡ f.text x = append-nil (f.text x) in
    ap (read_row f at) (sym s)
    ∙ ap (λ t. row_value f at (f.piece (f.text x ++ [])) t) a.0
    ∙ ap (λ v. then v (λ y. Ok y)) (a.1 at 1)

pub row_back : {A P : Type 0} (f : Format A P) → Laws f → (at : Spot) (s : List ℕ) (x : A) → read_row f at s ≡ Ok x → (s ≡ f.text x) × f.good x
row_back f l at s x e =
    let p = then_ok (f.value at 1 (f.piece s)) _ x e in
    let q = then_ok (or_fault (nothing (f.left s)) at (1 + f.width)) _ x p.2 in
    let none : f.left s ≡ [] = nothing_is (f.left s) q.0 (or_fault_ok (nothing (f.left s)) at _ q.0 q.1) in
    let a = l.back at 1 s p.0 p.1 in
    let same : p.0 ≡ x = cc q.2 in
    (a.0 ∙ ap (λ t. f.text p.0 ++ t) none ∙ append-nil (f.text p.0) ∙ ap f.text same, subst f.good same a.1)
