-- One text written after another. Assumes nothing.
use Rattle.std.proofs.Common.{◌≡◌, ⊎_elim, ℕ, ◌+◌, ◌-◌, ◌<◌, ◌≤◌, min, List, [], ◌∷◌, ◌++◌, length, take, drop, set, get_or, decimal, sym, ap, ◌∙◌, append_assoc, add-zero, add_assoc, add-one, zero-add, arith, take_all, length-append, length-take, length-drop, take-append-drop}
use Rattle.std.proofs.lemmas.Bool.{cases_lt}
use Rattle.std.proofs.lemmas.List.{set_split, length-take-le, take_at, drop_at, drop-drop, take-append-le, take_more, flat_map_more, append-nil}
use Rattle.std.specs.List.{flat_map}
use Rattle.std.proofs.Math.Seq.{take-append-add}
use lib.ListN.{length-map}
use Rattle.text.specs.declared.writing.Writer.{Writer}
use Rattle.text.specs.Formats.{follows, number}
use Rattle.text.specs.Buffer.{written, with_text, last_place}

pub written_none : (at : ℕ) (out : List ℕ) → written at [] out ≡ out
unfolding written
written_none at out = simp add-zero (take-append-drop at out)

-- t at a place and then u where t ends is t ++ u at that place
pub written_then : (at : ℕ) (t u out : List ℕ) → at + length t ≤ length out → written (at + length t) u (written at t out) ≡ written at (t ++ u) out
unfolding written
written_then at t u out h =
    let a : at ≤ length out = omega arith in
    let l : length (take at out ++ t) ≡ at + length t = length-append (take at out) t ∙ ap (λ n. n + length t) (length-take-le at out a) in
    let whole : take at out ++ (t ++ drop (at + length t) out) ≡ (take at out ++ t) ++ drop (at + length t) out = sym (append_assoc (take at out) t _) in
    let front : take (at + length t) (take at out ++ (t ++ drop (at + length t) out)) ≡ take at out ++ t = ap (take (at + length t)) whole ∙ take_at (take at out ++ t) _ _ l in
    let back : drop (at + length t + length u) (take at out ++ (t ++ drop (at + length t) out)) ≡ drop (at + length (t ++ u)) out =
    sym (drop-drop (length u) (at + length t) _) ∙ ap (drop (length u)) (ap (drop (at + length t)) whole ∙ drop_at (take at out ++ t) _ _ l) ∙ drop-drop (length u) (at + length t) out ∙ ap (λ n. drop n out) (add_assoc at (length t) (length u) ∙ ap (λ n. at + n) (sym (length-append t u))) in
    (λ i. front i ++ (u ++ back i)) ∙ append_assoc (take at out) t _ ∙ ap (λ l. take at out ++ l) (sym (append_assoc t u _))

pub length_with_text : (t : List ℕ) (w : Writer) → length (with_text t w).out.now ≡ length w.out.now
unfolding with_text written
length_with_text t w =
    simp (length-append, length-drop) (omega (arith, length-take w.at w.out.now, length-take (min (length w.out.now) last_place - w.at) t))

-- one text put after another
pub with_more : (t u : List ℕ) (w : Writer) → with_text u (with_text t w) ≡ with_text (t ++ u) w
unfolding with_text
with_more t u w =
    let room : ℕ = min (length w.out.now) last_place - w.at in
    let end : ℕ = w.at + min (length t) (last_place - w.at) in
    let kept : length (written w.at (take room t) w.out.now) ≡ length w.out.now = length_with_text t w in
    let place : end + min (length u) (last_place - end) ≡ w.at + min (length (t ++ u)) (last_place - w.at) = omega (arith, length-append t u) in
    let bytes : written end (take (min (length (written w.at (take room t) w.out.now)) last_place - end) u) (written w.at (take room t) w.out.now) ≡ written w.at (take room (t ++ u)) w.out.now =
    ⊎_elim
    (λ (more : w.at + length t < min (length w.out.now) last_place + 1).
    let whole : take room t ≡ t = take_all room t (omega arith) in
    let here : end ≡ w.at + length t = omega arith in
    let left : min (length (written w.at (take room t) w.out.now)) last_place - end ≡ room - length t = omega (arith, kept) in
    let both : t ++ take (room - length t) u ≡ take room (t ++ u) = sym (take-append-add t u (room - length t)) ∙ ap (λ n. take n (t ++ u)) (omega arith) in
    (λ i. written (here i) (take (left i) u) (written w.at (whole i) w.out.now))
    ∙ written_then w.at t (take (room - length t) u) w.out.now (omega arith)
    ∙ ap (λ s. written w.at s w.out.now) both)
    (λ (full : min (length w.out.now) last_place + 1 ≤ w.at + length t).
    let none : min (length (written w.at (take room t) w.out.now)) last_place - end ≡ 0 = omega (arith, kept) in
    ap (λ n. written end (take n u) (written w.at (take room t) w.out.now)) none
    ∙ written_none end _
    ∙ ap (λ s. written w.at s w.out.now) (sym (take-append-le room t u (omega arith))))
    (cases_lt (w.at + length t) (min (length w.out.now) last_place + 1)) in
    λ i. record w { out = record w.out { now = bytes i }; at = place i }

pub with_none : (w : Writer) → w ≡ with_text [] w
unfolding with_text
with_none w =
    let place : w.at ≡ w.at + min 0 (last_place - w.at) = omega arith in
    let nothing : [] ≡ take (min (length w.out.now) last_place - w.at) [] = sym (take_all _ [] (omega arith)) in
    let bytes : w.out.now ≡ written w.at (take (min (length w.out.now) last_place - w.at) []) w.out.now = sym (written_none w.at w.out.now) ∙ ap (λ s. written w.at s w.out.now) nothing in
    λ i. record w { out = record w.out { now = bytes i }; at = place i }

pub with_byte : (b : ℕ) (w : Writer) → w.at < length w.out.now → length w.out.now ≤ last_place → with_text (b ∷ []) w ≡ record w { out = record w.out { now = set w.out.now w.at b }; at = min (w.at + 1) last_place }
unfolding with_text written
with_byte b w h k =
    let whole : take (min (length w.out.now) last_place - w.at) (b ∷ []) ≡ b ∷ [] = take_all _ (b ∷ []) (omega arith) in
    let split : set w.out.now w.at b ≡ take w.at w.out.now ++ (b ∷ [] ++ drop (w.at + 1) w.out.now) = rw (set_split w.out.now w.at b h, add-one) in
    let bytes : written w.at (take (min (length w.out.now) last_place - w.at) (b ∷ [])) w.out.now ≡ set w.out.now w.at b = ap (λ s. written w.at s w.out.now) whole ∙ sym split in
    let place : w.at + min 1 (last_place - w.at) ≡ min (w.at + 1) last_place = omega arith in
    λ i. record w { out = record w.out { now = bytes i }; at = place i }

-- where there is no room, only the end is told
pub with_past : (b : ℕ) (w : Writer) → length w.out.now ≤ w.at → w.at ≤ last_place → with_text (b ∷ []) w ≡ record w { at = min (w.at + 1) last_place }
unfolding with_text
with_past b w h k =
    let none : min (length w.out.now) last_place - w.at ≡ 0 = omega arith in
    let bytes : written w.at (take (min (length w.out.now) last_place - w.at) (b ∷ [])) w.out.now ≡ w.out.now = ap (λ n. written w.at (take n (b ∷ [])) w.out.now) none ∙ written_none w.at w.out.now in
    let place : w.at + min 1 (last_place - w.at) ≡ min (w.at + 1) last_place = omega arith in
    λ i. record w { out = record w.out { now = bytes i }; at = place i }

-- a text at the front of a buffer that has room for it
pub wrote : (t : List ℕ) {after : List ℕ} (w : Writer) {v : Writer} → v ≡ with_text t w → w.at ≡ 0 → length t ≤ length w.out.now → length w.out.now < last_place → after ≡ v.out.now → (v.at ≡ length t) × (length t ≤ length w.out.now) × (after ≡ t ++ drop (length t) w.out.now)
unfolding with_text written
wrote t w {v = v} put front room small same =
    let whole : take (min (length w.out.now) last_place - w.at) t ≡ t = take_all _ t (omega arith) in
    let place : v.at ≡ w.at + min (length t) (last_place - w.at) = ap (λ x. x.at) put in
    (omega (arith, place), room, same ∙ ap (λ x. x.out.now) put ∙ (λ i. written (front i) (whole i) w.out.now) ∙ ap (λ k. t ++ drop k w.out.now) (zero-add (length t)))

-- one byte more of a list, and the text of one number more
pub take_next : (xs : List ℕ) (i : ℕ) → i < length xs → take i xs ++ get_or xs i 0 ∷ [] ≡ take (i + 1) xs
take_next xs i h = sym (take_more xs i 0 h)

pub numbers_next : (xs : List ℕ) (i : ℕ) → i < length xs → flat_map (follows number).text (take i xs) ++ 32 ∷ decimal (get_or xs i 0) ≡ flat_map (follows number).text (take (i + 1) xs)
numbers_next xs i h = flat_map_more (follows number).text [] (take i xs) (get_or xs i 0) ∙ ap (flat_map (follows number).text) (take_next xs i h)

-- what closes the contract of a function that puts one text after another
pub ruleset putting = (with_more, with_none, take_next, numbers_next, append_assoc, append-nil, length-map)
