-- A loop in which one party after the other takes its share. Assumes nothing.
use Rattle.std.proofs.Common.{◌≡◌, ℕ, zero, suc, ◌+◌, ◌<◌, ◌≤◌, List, [], ◌∷◌, map, length, get_or, take, set, ℤ, pos, negsuc, ◌+ℤ◌, ◌-ℤ◌, sym, refl, ap, ◌∙◌, subst, add-one, arith, take_all, w64, SFits}
use borrow.Author.Differences.{ints}
use Rattle.std.proofs.lemmas.Int.{by_lt_z}
use Rattle.std.proofs.lemmas.List.{length-map, get_or-map, take_more}
use Rattle.sharing.specs.Shares.{sum_z, portion, shares, each_takes, leftover}
use Rattle.sharing.specs.Fair.{bearing, Fair, Shared}
use Rattle.sharing.proofs.Fairness.{length_shares, get_or_shares, shares_fair}
use Rattle.sharing.proofs.Sums.{sum_z_push}

pub bearing_few : (ws : List ℤ) → bearing ws ≤ length ws
bearing_few [] = omega arith
bearing_few (pos zero ∷ ws) = omega (arith, bearing_few ws)
bearing_few (pos (suc n) ∷ ws) = omega (arith, bearing_few ws)
bearing_few (negsuc n ∷ ws) = omega (arith, bearing_few ws)

module _ {P : Type 0} (g : P → ℤ → P) where
  -- whoever has not taken yet is as before
  untaken : (ps : List P) (ss : List ℤ) (i : ℕ) (d : P) → get_or (each_takes g ps (take i ss)) i d ≡ get_or ps i d
  untaken ps [] zero d = refl
  untaken ps [] (suc i) d = refl
  untaken ps (s ∷ ss) zero d = refl
  untaken [] (s ∷ ss) (suc i) d = refl
  untaken (p ∷ ps) (s ∷ ss) (suc i) d = untaken ps ss i d

  takes_more : (ps : List P) (ss : List ℤ) (i : ℕ) (d : P) (z : ℤ) → i < length ps → i < length ss
      → set (each_takes g ps (take i ss)) i (g (get_or ps i d) (get_or ss i z)) ≡ each_takes g ps (take (suc i) ss)
  takes_more [] ss i d z h k = absurd (omega arith)
  takes_more (p ∷ ps) [] i d z h k = absurd (omega arith)
  takes_more (p ∷ ps) (s ∷ ss) zero d z h k = refl
  takes_more (p ∷ ps) (s ∷ ss) (suc i) d z h k = ap (λ l. g p s ∷ l) (takes_more ps ss i d z (omega arith) (omega arith))

  -- one turn of the loop, over the weights w
  pub turn : (w : P → ℤ) (a : ℤ) (ps qs : List P) (i : ℕ) (x : P) (part left : ℤ)
      → i < length ps
      → qs ≡ each_takes g ps (take i (shares a (map w ps)))
      → left ≡ a -ℤ sum_z (take i (shares a (map w ps)))
      → x ≡ get_or qs i x
      → part ≡ portion a (sum_z (map w ps)) (w x)
      → (set qs i (g x part) ≡ each_takes g ps (take (i + 1) (shares a (map w ps)))) × (left -ℤ part ≡ a -ℤ sum_z (take (i + 1) (shares a (map w ps))))
  turn w a ps qs i x part left h eq el ex ep =
      let ws = map w ps in
      let ss = shares a ws in
      let kw : i < length ws = rw (length-map ps w) h in
      let ks : i < length ss = rw (length_shares a ws) kw in
      let was : x ≡ get_or ps i x = ex ∙ ap (λ l. get_or l i x) eq ∙ untaken ps ss i x in
      let of : get_or ss i (pos 0) ≡ portion a (sum_z ws) (w (get_or ps i x)) =
      get_or_shares a ws i kw ∙ ap (portion a (sum_z ws)) (get_or-map w ps i x (pos 0) h) in
      let is : part ≡ get_or ss i (pos 0) = ep ∙ ap (λ y. portion a (sum_z ws) (w y)) was ∙ sym of in
      let more : sum_z (take (i + 1) ss) ≡ sum_z (take i ss) +ℤ get_or ss i (pos 0) =
      ap sum_z (take_more ss i (pos 0) ks) ∙ sum_z_push (take i ss) (get_or ss i (pos 0)) in (
        ap (λ l. set l i (g x part)) eq
            ∙ ap (λ y. set (each_takes g ps (take i ss)) i (g y part)) was
            ∙ ap (λ y. set (each_takes g ps (take i ss)) i (g (get_or ps i x) y)) is
            ∙ takes_more ps ss i x (pos 0) h ks
            ∙ ap (λ n. each_takes g ps (take n ss)) (sym (add-one i)),
        omega (arith, ints),
      )

  -- what the parties show of it
  shown : (took : P → ℤ) → ((p : P) (s : ℤ) → took (g p s) ≡ s) → (ps : List P) (ss : List ℤ) → length ss ≡ length ps → map took (each_takes g ps ss) ≡ ss
  shown took law [] [] e = refl
  shown took law [] (s ∷ ss) e = absurd (omega arith)
  shown took law (p ∷ ps) [] e = absurd (omega arith)
  shown took law (p ∷ ps) (s ∷ ss) e = cc (law p s, shown took law ps ss (omega arith))

  -- what no share changes stays
  pub kept : {X : Type 0} (f : P → X) → ((p : P) (s : ℤ) → f (g p s) ≡ f p) → (ps : List P) (ss : List ℤ) → map f (each_takes g ps ss) ≡ map f ps
  kept f law ps [] = refl
  kept f law [] (s ∷ ss) = refl
  kept f law (p ∷ ps) (s ∷ ss) = cc (law p s, kept f law ps ss)

  -- the loop's end
  pub ends : (w took : P → ℤ) → ((p : P) (s : ℤ) → took (g p s) ≡ s) → ((p : P) (s : ℤ) → w (g p s) ≡ w p)
      → (a b : ℤ) (ps qs : List P) (i : ℕ) (left : ℤ)
      → a ≡ b
      → length ps ≤ i
      → qs ≡ each_takes g ps (take i (shares a (map w ps)))
      → left ≡ a -ℤ sum_z (take i (shares a (map w ps)))
      → Shared w took g b ps qs left
  unfolding leftover
  ends w took takes keeps a b ps qs i left ab h eq el =
      let ws = map w ps in
      let many : (x : ℤ) → length (shares x ws) ≡ length ps = λ x. length_shares x ws ∙ length-map ps w in
      let k : length (shares a ws) ≤ i = rw (many a) h in
      let all : take i (shares a ws) ≡ shares b ws = take_all _ _ k ∙ ap (λ x. shares x ws) ab in
      let after : qs ≡ each_takes g ps (shares b ws) = eq ∙ ap (each_takes g ps) all in
      let taken = ap (map took) after ∙ shown took takes ps (shares b ws) (many b) in
      let rest : left ≡ leftover b ws = el ∙ ap (λ l. a -ℤ sum_z l) all ∙ ap (λ x. x -ℤ sum_z (shares b ws)) ab in
      record {
        after = after;
        taken = taken;
        same = ap (map w) after ∙ kept w keeps ps (shares b ws);
        rest = rest;
        fair = subst (λ ts. Fair b ws ts left) (sym taken) (shares_fair b ws left rest);
      }

-- what is left is the amount, or below the number of parties
pub left_fits : (a : ℤ) (ws ss : List ℤ) (left : ℤ) → Fair a ws ss left → length ws ≤ 64 → SFits w64 a → SFits w64 left
left_fits a ws ss left f few fits =
    by_lt_z (pos 0) (sum_z ws)
    (λ h. omega (arith, ints, f.least h, f.below h, bearing_few ws))
    (λ h. omega (arith, ints, f.kept h))
