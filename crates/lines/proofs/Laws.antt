-- What is written on a line is read back, and what is read is what would be written. Assumes nothing.
use Rattle.std.proofs.Common.{◌≡◌, ℕ, ◌+◌, ◌<◌, Bool, true, false, eqb, List, [], ◌∷◌, ◌++◌, length, drop, ℤ, Ok, Err, Result, sym, refl, ap, ◌∙◌, subst, ⊎_elim, arith}
use Rattle.std.proofs.lemmas.Bool.{cases_Bool, cond-true, cond-false, eq-eqb, eqb-true}
use Rattle.text.specs.declared.faults.Section.{Section}
use Rattle.text.specs.declared.faults.Section.TheVariants.{Y, Z, R, L, T}
use Rattle.text.specs.declared.faults.Spot.{Spot}
use Rattle.text.specs.declared.faults.FieldFault.{FieldFault}
use Rattle.text.specs.Cuts.{before, from, row, below, ended}
use Rattle.text.specs.Fields.{Place, spot_at, pass}
use Rattle.text.specs.Formats.{then, Format, Token, follows, both, number, letter, signed_number, fixed, read_row, letter_is}
use Rattle.text.proofs.Codecs.{Edge, Free, Laws, leads_laws, follows_laws, both_laws, row_forth, row_back, then_ok, before_edge, from_edge}
use Rattle.text.proofs.Repeats.{many_laws, texts_edge}
use Rattle.text.proofs.Tokens.{number_token, letter_token, signed_token, fixed_token}
use Rattle.text.proofs.Pieces.{parts, ended_some, from_stop, from_more}
use Rattle.lines.specs.declared.faults.LineFault.{LineFault}
use Rattle.lines.specs.declared.faults.LineFault.TheVariants.{Due}
use Rattle.rules.specs.declared.entry.Entry.{Entry}
use Rattle.rules.specs.declared.entry.Entry.TheVariants.{Zone, Resource, Load, Trade}
use Rattle.rules.specs.declared.rows.Trade.TheVariants as trade
use Rattle.lines.specs.Faults.{of_field}
use Rattle.lines.specs.Kinds.{opening, count, zone, resource, load, bilateral, auction, of_resource, to_resource, of_bilateral, to_bilateral, of_auction, to_auction, section_letter, lettered, opening_row, read_opening, count_row, read_count, bilateral_row, auction_row, read_entry, entry_text, section_of, good}
use Rattle.lines.specs.Lines.{line_at}

-- the next line of a text, by what its row says
pub line_due : {A : Type 0} (section : Section) (read : Spot → List ℕ → Result A LineFault) (p : Place) → ended p.rest ≡ false → line_at section read p ≡ Err (Due (spot_at section p))
unfolding line_at
line_due section read p h = cond-false (ended p.rest) _ _ h

pub line_here : {A : Type 0} (section : Section) (read : Spot → List ℕ → Result A LineFault) (p : Place) → ended p.rest ≡ true → line_at section read p ≡ then (read (spot_at section p) (row p.rest)) (λ x. Ok (x, pass p))
unfolding line_at
line_here section read p h = cond-true (ended p.rest) _ _ h

-- a later field begins with its space
spaced : {A : Type 0} (t : Token A) (y : A) (r : List ℕ) → Edge 32 r → Edge 32 ((follows t).text y ++ r)
spaced t y r e = refl

num : Laws (follows number)
num = follows_laws number number_token

-- one number more before others
before_number : {B Q : Type 0} (g : Format B Q) → Laws g → ((y : B) (r : List ℕ) → Edge 32 r → Edge 32 (g.text y ++ r)) → Laws (both (follows number) g)
before_number g l e = both_laws _ g num l e

pub opening_laws : Laws opening
opening_laws = both_laws _ _ (leads_laws (fixed 89) (fixed_token 89 (λ e. omega arith) (λ e. omega arith))) (before_number _ num (spaced number)) (λ _ _ _. refl)

pub count_laws : (c : ℕ) → 32 < c → Laws (count c)
count_laws c h = both_laws _ _ (leads_laws (fixed c) (fixed_token c (λ e. omega arith) (λ e. omega arith))) num (spaced number)

pub zone_laws : Laws zone
zone_laws = both_laws _ _ (leads_laws number number_token) (many_laws (follows number) num (λ _ _. refl) 12) (texts_edge (follows number) num (λ _ _. refl))

pub resource_laws : Laws resource
resource_laws = both_laws _ _ (leads_laws number number_token) (both_laws _ _ (follows_laws letter letter_token) (before_number _ num (spaced number)) (λ _ _ _. refl)) (λ _ _ _. refl)

pub load_laws : Laws load
load_laws = both_laws _ _ (leads_laws number number_token) (follows_laws signed_number signed_token) (spaced signed_number)

pub bilateral_laws : Laws bilateral
bilateral_laws =
    both_laws _ _ (leads_laws (fixed 66) (fixed_token 66 (λ e. omega arith) (λ e. omega arith)))
    (before_number _ (before_number _ (before_number _ (before_number _ (before_number _ num (spaced number)) (λ _ _ _. refl)) (λ _ _ _. refl)) (λ _ _ _. refl)) (λ _ _ _. refl))
    (λ _ _ _. refl)

pub auction_laws : Laws auction
auction_laws =
    both_laws _ _ (leads_laws (fixed 65) (fixed_token 65 (λ e. omega arith) (λ e. omega arith)))
    (before_number _ (before_number _ (before_number _ (both_laws _ _ (follows_laws signed_number signed_token) num (spaced number)) (λ _ _ _. refl)) (λ _ _ _. refl)) (λ _ _ _. refl))
    (λ _ _ _. refl)

-- a reading of rows and the text of its values fix each other
pub record Reads {A : Type 0} (read : Spot → List ℕ → Result A LineFault) (text : A → List ℕ) (fits : A → Type 0) : Type 0 where
  pub forth : (at : Spot) (x : A) → fits x → read at (text x) ≡ Ok x
  pub back : (at : Spot) (s : List ℕ) (x : A) → read at s ≡ Ok x → (s ≡ text x) × fits x
  pub flat : (x : A) → fits x → Free 10 (text x)

of_field_ok : {A : Type 0} (v : Result A FieldFault) (x : A) → of_field v ≡ Ok x → v ≡ Ok x
of_field_ok (Ok y) x e = let same : y ≡ x = cc in ap Ok same
of_field_ok (Err d) x e = let z : ◌≡◌ {A = ℕ} 0 1 = cc in absurd (omega arith)

-- the row of a format, as a value of another shape
row_to : {A B P : Type 0} (f : Format A P) → Laws f → (to : A → B) (at : Spot) (a : A) → f.good a → of_field (then (read_row f at (f.text a)) (λ x. Ok (to x))) ≡ Ok (to a)
row_to f l to at a g = ap (λ v. of_field (then v (λ x. Ok (to x)))) (row_forth f l at a g)

row_from : {A B P : Type 0} (f : Format A P) → Laws f → (to : A → B) (at : Spot) (s : List ℕ) (b : B) → of_field (then (read_row f at s) (λ x. Ok (to x))) ≡ Ok b → (a : A) × (s ≡ f.text a) × f.good a × (to a ≡ b)
row_from f l to at s b e =
    let p = then_ok (read_row f at s) (λ x. Ok (to x)) b (of_field_ok _ b e) in
    let r = row_back f l at s p.0 p.1 in
    let same : to p.0 ≡ b = cc p.2 in
    (p.0, r.0, r.1, same)

-- a line that begins with its letter
begins : (c : ℕ) (s : List ℕ) → (c ≡ 32 → ⊥) → Edge 32 s → letter_is c (before 32 (c ∷ s)) ≡ true
begins c s h e = ap (letter_is c) (before_edge 32 (c ∷ []) s (h, tt) e) ∙ eq-eqb c c refl

lettered_forth : {A : Type 0} (c : ℕ) (at : Spot) (s : List ℕ) (v : Result A LineFault) (x : A) → (c ≡ 32 → ⊥) → Edge 32 s → v ≡ Ok x → lettered c at (c ∷ s) v ≡ Ok x
lettered_forth c at s v x h e is = cond-true (letter_is c (before 32 (c ∷ s))) v (Err (Due at)) (begins c s h e) ∙ is

lettered_ok : {A : Type 0} (c : ℕ) (at : Spot) (s : List ℕ) (v : Result A LineFault) (x : A) → lettered c at s v ≡ Ok x → v ≡ Ok x
lettered_ok c at s v x e =
    ⊎_elim
    (λ t. sym (cond-true (letter_is c (before 32 s)) v (Err (Due at)) t) ∙ e)
    (λ f. let z : ◌≡◌ {A = ℕ} 0 1 = cc (cond-false (letter_is c (before 32 s)) v (Err (Due at)) f) in absurd (omega arith))
    (cases_Bool (letter_is c (before 32 s)))

pub opening_reads : Reads read_opening (λ x. opening.text (tt, x)) (λ x. opening.good (tt, x))
opening_reads = record {
  forth = λ at x g. lettered_forth 89 at ((both (follows number) (follows number)).text x) (of_field (opening_row at (opening.text (tt, x)))) x (λ e. omega arith) refl (row_to opening opening_laws (λ y. y.1) at (tt, x) g);
  back = λ at s x e.
      let p = row_from opening opening_laws (λ y. y.1) at s x (lettered_ok 89 at s (of_field (opening_row at s)) x e) in
      (p.1 ∙ ap (λ y. opening.text (tt, y)) p.3, subst (λ y. opening.good (tt, y)) p.3 p.2);
  flat = λ x g. opening_laws.flat (tt, x) g;
}

letter_high : (section : Section) → 32 < section_letter section
letter_high Y = omega arith
letter_high Z = omega arith
letter_high R = omega arith
letter_high L = omega arith
letter_high T = omega arith

pub count_reads : (section : Section) → Reads (read_count section) (λ n. (count (section_letter section)).text (tt, n)) (λ n. (count (section_letter section)).good (tt, n))
count_reads section =
    let c = section_letter section in
    let laws = count_laws c (letter_high section) in
    record {
      forth = λ at n g. lettered_forth c at ((follows number).text n) (of_field (count_row c at ((count c).text (tt, n)))) n (λ e. omega (arith, letter_high section)) refl (row_to (count c) laws (λ y. y.1) at (tt, n) g);
      back = λ at s n e.
          let p = row_from (count c) laws (λ y. y.1) at s n (lettered_ok c at s (of_field (count_row c at s)) n e) in
          (p.1 ∙ ap (λ y. (count c).text (tt, y)) p.3, subst (λ y. (count c).good (tt, y)) p.3 p.2);
      flat = λ n g. laws.flat (tt, n) g;
    }

-- the entries of a section, and their texts
abbrev pub Fits : Section → Entry → Type 0
Fits section e = good e × (section_of e ≡ section)

entry_forth : (at : Spot) (e : Entry) → good e → read_entry (section_of e) at (entry_text e) ≡ Ok e
unfolding read_entry
entry_forth at (Zone z) g = row_to zone zone_laws (λ x. Zone (record { price = x.0; rents = x.1 })) at (z.price, z.rents) g
entry_forth at (Resource r) g = row_to resource resource_laws (λ x. Resource (to_resource x)) at (of_resource r) g
entry_forth at (Load k) g = row_to load load_laws (λ x. Load (record { zone = x.0; obligation = x.1 })) at (k.zone, k.obligation) g
entry_forth at (Trade (trade.Bilateral b)) g =
    let y : ℕ × (ℕ × (ℕ × (ℕ × (ℕ × ℕ)))) = (of_bilateral b).1 in
    let tail : List ℕ = (both (follows number) (both (follows number) (both (follows number) (both (follows number) (both (follows number) (follows number)))))).text y in
    let other : letter_is 65 (before 32 (66 ∷ tail)) ≡ false = ap (letter_is 65) (before_edge 32 (66 ∷ []) tail ((λ e. omega arith), tt) refl) in
    let v : Result Entry LineFault = of_field (bilateral_row at (66 ∷ tail)) in
    cond-false (letter_is 65 (before 32 (66 ∷ tail))) (of_field (auction_row at (66 ∷ tail))) (lettered 66 at (66 ∷ tail) v) other
    ∙ lettered_forth 66 at tail v (Trade (trade.Bilateral b)) (λ e. omega arith) refl
    (row_to bilateral bilateral_laws (λ x. Trade (trade.Bilateral (to_bilateral x))) at (of_bilateral b) g)
entry_forth at (Trade (trade.Auction a)) g =
    let y : ℕ × (ℕ × (ℕ × (ℤ × ℕ))) = (of_auction a).1 in
    let tail : List ℕ = (both (follows number) (both (follows number) (both (follows number) (both (follows signed_number) (follows number))))).text y in
    cond-true (letter_is 65 (before 32 (65 ∷ tail))) (of_field (auction_row at (65 ∷ tail))) (lettered 66 at (65 ∷ tail) (of_field (bilateral_row at (65 ∷ tail)))) (begins 65 tail (λ e. omega arith) refl)
    ∙ row_to auction auction_laws (λ x. Trade (trade.Auction (to_auction x))) at (of_auction a) g

abbrev Is : Section → List ℕ → Entry → Type 0
Is section s e = (s ≡ entry_text e) × Fits section e

auction_back : (at : Spot) (s : List ℕ) (e : Entry) → of_field (auction_row at s) ≡ Ok e → Is T s e
auction_back at s e h =
    let p = row_from auction auction_laws (λ x. Trade (trade.Auction (to_auction x))) at s e h in
    subst (Is T s) p.3 (p.1, (p.2, refl))

bilateral_back : (at : Spot) (s : List ℕ) (e : Entry) → of_field (bilateral_row at s) ≡ Ok e → Is T s e
bilateral_back at s e h =
    let p = row_from bilateral bilateral_laws (λ x. Trade (trade.Bilateral (to_bilateral x))) at s e h in
    subst (Is T s) p.3 (p.1, (p.2, refl))

entry_back : (section : Section) (at : Spot) (s : List ℕ) (e : Entry) → read_entry section at s ≡ Ok e → Is section s e
unfolding read_entry
entry_back Y at s e h = let z : ◌≡◌ {A = ℕ} 0 1 = cc in absurd (omega arith)
entry_back Z at s e h = let p = row_from zone zone_laws (λ x. Zone (record { price = x.0; rents = x.1 })) at s e h in subst (Is Z s) p.3 (p.1, (p.2, refl))
entry_back R at s e h = let p = row_from resource resource_laws (λ x. Resource (to_resource x)) at s e h in subst (Is R s) p.3 (p.1, (p.2, refl))
entry_back L at s e h = let p = row_from load load_laws (λ x. Load (record { zone = x.0; obligation = x.1 })) at s e h in subst (Is L s) p.3 (p.1, (p.2, refl))
entry_back T at s e h =
    ⊎_elim
    (λ t. auction_back at s e (sym (cond-true (letter_is 65 (before 32 s)) _ _ t) ∙ h))
    (λ f. bilateral_back at s e (lettered_ok 66 at s (of_field (bilateral_row at s)) e (sym (cond-false (letter_is 65 (before 32 s)) _ _ f) ∙ h)))
    (cases_Bool (letter_is 65 (before 32 s)))

entry_flat : (e : Entry) → good e → Free 10 (entry_text e)
entry_flat (Zone z) g = zone_laws.flat (z.price, z.rents) g
entry_flat (Resource r) g = resource_laws.flat (of_resource r) g
entry_flat (Load k) g = load_laws.flat (k.zone, k.obligation) g
entry_flat (Trade (trade.Bilateral b)) g = bilateral_laws.flat (of_bilateral b) g
entry_flat (Trade (trade.Auction a)) g = auction_laws.flat (of_auction a) g

pub entry_reads : (section : Section) → Reads (read_entry section) entry_text (Fits section)
entry_reads section = record {
  forth = λ at e g. ap (λ h. read_entry h at (entry_text e)) (sym g.1) ∙ entry_forth at e g.0;
  back = entry_back section;
  flat = λ e g. entry_flat e g.0;
}

-- one line of a text
ended_whole : (s : List ℕ) → ended s ≡ true → from 10 s ≡ 10 ∷ below s
ended_whole [] h = let z : ◌≡◌ {A = Bool} false true = h in let y : ◌≡◌ {A = ℕ} 0 1 = cc in absurd (omega arith)
ended_whole (c ∷ s) h =
    ⊎_elim
    (λ t. let stop = from_stop 10 c s t in stop ∙ (λ i. eqb-true c 10 t i ∷ s) ∙ ap (λ l. 10 ∷ drop 1 l) (sym stop))
    (λ f. let more = from_more 10 c s f in more ∙ ended_whole s (sym (cond-false (eqb c 10) true (ended s) f) ∙ h) ∙ ap (λ l. 10 ∷ drop 1 l) (sym more))
    (cases_Bool (eqb c 10))

whole : (s : List ℕ) → ended s ≡ true → s ≡ row s ++ 10 ∷ below s
whole s h = sym (parts 10 s) ∙ ap (λ l. row s ++ l) (ended_whole s h)

module _ {A : Type 0} (section : Section) (read : Spot → List ℕ → Result A LineFault) (text : A → List ℕ) (fits : A → Type 0) (laws : Reads read text fits) where
  pub line_forth : (n : ℕ) (x : A) (r : List ℕ) → fits x → line_at section read (record { line = n; rest = text x ++ 10 ∷ r }) ≡ Ok (x, record { line = n + 1; rest = r })
  line_forth n x r g =
      let s = text x ++ 10 ∷ r in
      let front : row s ≡ text x = before_edge 10 (text x) (10 ∷ r) (laws.flat x g) refl in
      let back : from 10 s ≡ 10 ∷ r = from_edge 10 (text x) (10 ∷ r) (laws.flat x g) refl in
      let p : Place = record { line = n; rest = s } in
      line_here section read p (ended_some s (omega (arith, ap length back)))
      ∙ ap (λ v. then v (λ x. Ok (x, pass p))) (ap (read (spot_at section p)) front ∙ laws.forth (spot_at section p) x g)
      ∙ ap (λ (t : List ℕ). Ok (x, record { line = n + 1; rest = drop 1 t })) back

  pub line_back : (p q : Place) (x : A) → line_at section read p ≡ Ok (x, q) → (p.rest ≡ text x ++ 10 ∷ q.rest) × fits x × (q.line ≡ p.line + 1)
  line_back p q x h =
      ⊎_elim
      (λ t.
      let u = then_ok (read (spot_at section p) (row p.rest)) _ (x, q) (sym (line_here section read p t) ∙ h) in
      let b = laws.back (spot_at section p) (row p.rest) u.0 u.1 in
      let same : ◌≡◌ {A = A × Place} (u.0, pass p) (x, q) = cc u.2 in
      let at : q ≡ pass p = ap (λ y. y.1) (sym same) in
      let is : u.0 ≡ x = ap (λ y. y.0) same in
      (whole p.rest t ∙ (λ i. (b.0 ∙ ap text is) i ++ 10 ∷ ap (λ y. y.rest) (sym at) i), subst fits is b.1, ap (λ y. y.line) at))
      (λ f. let z : ◌≡◌ {A = ℕ} 0 1 = cc (line_due section read p f) in absurd (omega arith))
      (cases_Bool (ended p.rest))
