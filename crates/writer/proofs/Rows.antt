-- One line more. Assumes nothing.
use Rattle.std.proofs.Common.{◌≡◌, ℕ, ◌+◌, ◌<◌, List, [], ◌∷◌, ◌++◌, map, length, get_or, take, sym, ap, ◌∙◌}
use Rattle.std.proofs.lemmas.List.{flat_map_more, take_more, map-append}
use Rattle.rules.specs.declared.entry.Entry.{Entry}
use Rattle.lines.specs.Kinds.{entry_text}
use Rattle.sheet.specs.Sheets.{line, lines}

pub lines_next : {A : Type 0} (f : A → Entry) (xs : List A) (i : ℕ) (x : A) (e : Entry) → i < length xs → x ≡ get_or xs i x → e ≡ f x → lines (map f (take i xs)) ++ line (entry_text e) ≡ lines (map f (take (i + 1) xs))
lines_next f xs i x e h is same =
    ap (λ y. lines (map f (take i xs)) ++ line (entry_text y)) same
    ∙ flat_map_more (λ y. line (entry_text y)) [] (map f (take i xs)) (f x)
    ∙ ap lines (sym (map-append f (take i xs) (x ∷ [])))
    ∙ ap (λ y. lines (map f (take i xs ++ y ∷ []))) is
    ∙ ap (λ ys. lines (map f ys)) (sym (take_more xs i x h))
