-- A text and its lines. Assumes nothing.
use Rattle.std.proofs.Common.{◌≡◌, ℕ, ◌+◌, ◌<◌, ◌≤◌, true, false, cond, eqb, List, [], ◌∷◌, length, drop, sym, refl, ap, ◌∙◌, ⊎_elim, arith}
use Rattle.std.proofs.lemmas.Bool.{cases_Bool, cond-true, cond-false}
use Rattle.text.specs.Cuts.{before, below, onto, lines}
use Rattle.text.proofs.Pieces.{before_stop, before_more, from_stop, from_more}

lines_stop : (c : ℕ) (s : List ℕ) → eqb c 10 ≡ true → lines (c ∷ s) ≡ [] ∷ lines s
unfolding lines
lines_stop c s e = cond-true (eqb c 10) ([] ∷ lines s) (onto c (lines s)) e

lines_more : (c : ℕ) (s : List ℕ) → eqb c 10 ≡ false → lines (c ∷ s) ≡ onto c (lines s)
unfolding lines
lines_more c s e = cond-false (eqb c 10) ([] ∷ lines s) (onto c (lines s)) e

pub lines_none : lines [] ≡ []
unfolding lines
lines_none = refl

-- a byte that is no LF belongs to the first line
lines_onto : (c : ℕ) (s : List ℕ) → onto c (lines s) ≡ (c ∷ before 10 s) ∷ lines (below s)
lines_onto c [] = ap (onto c) lines_none ∙ ap (λ ls. (c ∷ []) ∷ ls) (sym lines_none)
lines_onto c (d ∷ s) =
    ⊎_elim
    (λ t. ap (onto c) (lines_stop d s t) ∙ sym (λ i. (c ∷ before_stop 10 d s t i) ∷ lines (drop 1 (from_stop 10 d s t i))))
    (λ f. ap (onto c) (lines_more d s f ∙ lines_onto d s) ∙ sym (λ i. (c ∷ before_more 10 d s f i) ∷ lines (drop 1 (from_more 10 d s f i))))
    (cases_Bool (eqb d 10))

-- the first line of a text, and the lines below it
pub lines_cut : (s : List ℕ) → 0 < length s → lines s ≡ before 10 s ∷ lines (below s)
lines_cut [] h = absurd (omega arith)
lines_cut (c ∷ s) h =
    ⊎_elim
    (λ t. lines_stop c s t ∙ sym (λ i. before_stop 10 c s t i ∷ lines (drop 1 (from_stop 10 c s t i))))
    (λ f. lines_more c s f ∙ lines_onto c s ∙ sym (λ i. before_more 10 c s f i ∷ lines (drop 1 (from_more 10 c s f i))))
    (cases_Bool (eqb c 10))

pub lines_empty : (s : List ℕ) → length s ≡ 0 → lines s ≡ []
lines_empty [] h = lines_none
lines_empty (c ∷ s) h = absurd (omega arith)

-- a text has no more lines than bytes
onto_few : (c : ℕ) (ls : List (List ℕ)) → length (onto c ls) ≤ length ls + 1
onto_few c [] = omega arith
onto_few c (l ∷ ls) = omega arith

pub lines_few : (s : List ℕ) → length (lines s) ≤ length s
unfolding lines
lines_few [] = omega arith
lines_few (c ∷ s) =
    elim (eqb c 10) as (λ e. length (cond e ([] ∷ lines s) (onto c (lines s))) ≤ length (c ∷ s)) [
      | true ↦ omega (arith, lines_few s)
      | false ↦ omega (arith, onto_few c (lines s), lines_few s)
    ]
