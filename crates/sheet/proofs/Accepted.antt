-- A text is accepted just where it is the sheet of a ledger. Assumes nothing.
use Rattle.std.proofs.Common.{◌≡◌, ℕ, ◌^◌, ◌<◌, List, [], ◌∷◌, ◌++◌, map, length, Ok, Err, Result, sym, refl, ap, ◌∙◌, subst, append_assoc, append-nil, arith}
use lib.ListN.{length-map}
use Rattle.std.specs.List.{AllByRecursion}
use Rattle.rules.specs.declared.entry.Entry.{Entry}
use Rattle.rules.specs.declared.rows.Zone.{Zone}
use Rattle.rules.specs.Calls.{open_call}
use Rattle.rules.specs.Chains.{then as entered}
use Rattle.rules.specs.Ledger.{Ledger, opened}
use Rattle.rules.specs.Replays.{zone_entry, resource_entry, load_entry, trade_entry, taken, enter_all, empty, made_of, remade, fresh}
use Rattle.rules.proofs.Called.{remade_called}
use Rattle.rules.proofs.Growing.{Grown, Few, same_ok, then_ok as entered-ok, grown_then, opening_taken, few_opened}
use Rattle.book.specs.declared.ticket.SetupTicket.{SetupTicket}
use Rattle.book.specs.View.{setup_ticket}
use Rattle.text.specs.declared.faults.Section.{Section}
use Rattle.text.specs.declared.faults.Section.TheVariants.{Y, Z, R, L, T}
use Rattle.text.specs.Fields.{Place, spot_at}
use Rattle.text.specs.Formats.{then}
use Rattle.text.proofs.Codecs.{then_ok}
use Rattle.lines.specs.declared.faults.LineFault.{LineFault}
use Rattle.lines.specs.declared.faults.SheetFault.{SheetFault}
use Rattle.lines.specs.Faults.{of_book}
use Rattle.lines.specs.Kinds.{opening, read_opening, section_of, good}
use Rattle.lines.specs.Lines.{line_at}
use Rattle.lines.proofs.Laws.{Fits, line_forth, line_back, opening_reads}
use Rattle.sheet.specs.Reading.{Progress, answered, of_line, opens, read_open, read_section, sections, finish, read_all, read_sheet}
use Rattle.sheet.specs.Laws.{SheetsStand}
use Rattle.sheet.specs.Sheets.{entries, section_text, text_of, sheet_text, TwelveRents, Deposit, SheetOf}
use Rattle.sheet.proofs.Ends.{open_line, opens_is}
use Rattle.sheet.proofs.Grows.{Twelve, AllTaken, all_taken}
use Rattle.sheet.proofs.Sections.{at, of_book_ok, section_forth, section_back}

-- the entries of a section are that section's, and a zone has its twelve rents
each : {A : Type 0} (f : A → Entry) (P : Entry → Type 0) → ((x : A) → P (f x)) → (xs : List A) → AllByRecursion P (map f xs)
each f P h [] = tt
each f P h (x ∷ xs) = (h x, each f P h xs)

entries_in : (section : Section) (l : Ledger) → AllByRecursion (λ e. section_of e ≡ section) (entries section l)
entries_in Y l = tt
entries_in Z l = each zone_entry _ (λ _. refl) l.standing.zones
entries_in R l = each resource_entry _ (λ _. refl) l.standing.resources
entries_in L l = each load_entry _ (λ _. refl) l.standing.loads
entries_in T l = each trade_entry _ (λ _. refl) l.standing.trades

zones_twelve : (zs : List Zone) → AllByRecursion (λ z. length z.rents ≡ 12) zs → AllByRecursion Twelve (map zone_entry zs)
zones_twelve [] h = tt
zones_twelve (z ∷ zs) h = (h.0, zones_twelve zs h.1)

twelve_zones : (zs : List Zone) → AllByRecursion (Fits Z) (map zone_entry zs) → AllByRecursion (λ z. length z.rents ≡ 12) zs
twelve_zones [] h = tt
twelve_zones (z ∷ zs) h = (h.0.0.1.0, twelve_zones zs h.1)

entries_twelve : (section : Section) (l : Ledger) → TwelveRents l → AllByRecursion Twelve (entries section l)
entries_twelve Y l h = tt
entries_twelve Z l h = zones_twelve l.standing.zones h
entries_twelve R l h = each resource_entry Twelve (λ _. tt) l.standing.resources
entries_twelve L l h = each load_entry Twelve (λ _. tt) l.standing.loads
entries_twelve T l h = each trade_entry Twelve (λ _. tt) l.standing.trades

fit_all : (section : Section) (es : List Entry) → AllByRecursion good es → AllByRecursion (λ e. section_of e ≡ section) es → AllByRecursion (Fits section) es
fit_all section [] g s = tt
fit_all section (e ∷ es) g s = ((g.0, s.0), fit_all section es g.1 s.1)

in_all : (section : Section) (es : List Entry) → AllByRecursion (Fits section) es → AllByRecursion (λ e. section_of e ≡ section) es
in_all section [] g = tt
in_all section (e ∷ es) g = (g.0.1, in_all section es g.1)

-- the book takes the entries of a section of a ledger: it holds few again, and the section is read
section_taken : (section : Section) (d l m : Ledger) → enter_all 0 (entries section d) l ≡ Ok m → AllTaken section (entries section d) l m
section_taken section d l m h = all_taken 0 section (entries section d) l m (entries_in section d) h

entries_forth : (section : Section) (d : Ledger) (n : ℕ) (l m : Ledger) (r : List ℕ) → TwelveRents d → Few l → length (entries section d) < 10 ^ 11 → enter_all 0 (entries section d) l ≡ Ok m → (k : ℕ) × (read_section (setup_ticket 0) section (at n (section_text section (entries section d) ++ r), l) ≡ Ok (at k r, m))
entries_forth section d n l m r twelve few size h =
    let es = entries section d in
    section_forth (setup_ticket 0) section n l m es r (fit_all section es ((section_taken section d l m h).fits few (entries_twelve section d twelve)) (entries_in section d)) size h

-- ---- one reading, or one entering, after another
then_go : {A B F : Type 0} (v : Result A F) (rest : A → Result B F) (x : A) → v ≡ Ok x → then v rest ≡ rest x
then_go v rest x h = ap (λ u. then u rest) h

all_sections : (t : SetupTicket) (g z r k x : Progress) → read_section t Z g ≡ Ok z → read_section t R z ≡ Ok r → read_section t L r ≡ Ok k → read_section t T k ≡ Ok x → sections t g ≡ finish x
all_sections t g z r k x h₁ h₂ h₃ h₄ = then_go _ _ z h₁ ∙ then_go _ _ r h₂ ∙ then_go _ _ k h₃ ∙ then_go _ _ x h₄

all_read : (g h : Progress) (t : SetupTicket) (l : Ledger) → read_open g ≡ Ok (t, h) → sections t h ≡ Ok l → read_all g ≡ Ok (t, l)
all_read g h t l o s = then_go _ _ (t, h) o ∙ then_go _ _ l s

entered_go : {A B E : Type 0} (v : Result A E) (rest : A → Result B E) (x : A) → v ≡ Ok x → entered v rest ≡ rest x
entered_go v rest x h = ap (λ u. entered u rest) h

at_zero : {n : ℕ} → n ≡ 0 → (es : List Entry) (l m : Ledger) → enter_all n es l ≡ Ok m → enter_all 0 es l ≡ Ok m
at_zero e es l m h = ap (λ k. enter_all k es l) (sym e) ∙ h

-- the sheet of a ledger is read, and gives that ledger with the ticket of its set-up
pub sheet_forth : (d : Ledger) (text : List ℕ) → SheetOf d text → read_all (at 0 text, empty) ≡ Ok (setup_ticket 0, d)
unfolding made_of text_of
sheet_forth d text s =
    let t : SetupTicket = setup_ticket 0 in
    let twelve = s.stands.twelve in
    let o = entered-ok (taken (open_call empty d.year d.peak)) _ d s.stands.made in
    let z = entered-ok (enter_all 0 (entries Z d) o.0) _ d o.2 in
    let r = entered-ok (enter_all 0 (entries R d) z.0) _ d z.2 in
    let k = entered-ok (enter_all 0 (entries L d) r.0) _ d r.2 in
    let is = opening_taken empty d.year d.peak o.0 o.1 in
    let r₄ : List ℕ = section_text T (entries T d) in
    let r₃ : List ℕ = section_text L (entries L d) ++ r₄ in
    let r₂ : List ℕ = section_text R (entries R d) ++ r₃ in
    let r₁ : List ℕ = section_text Z (entries Z d) ++ r₂ in
    let first = opening.text (tt, (d.year, d.peak)) in
    let whole : text ≡ first ++ 10 ∷ r₁ = s.same ∙ append_assoc first (10 ∷ []) r₁ in
    let line₁ = line_forth Y read_opening (λ x. opening.text (tt, x)) (λ x. opening.good (tt, x)) opening_reads 0 (d.year, d.peak) r₁ (tt, (is.year_low, is.peak_low)) in
    let start : Place = at 0 (first ++ 10 ∷ r₁) in
    let opens₁ : opens d.year d.peak empty ≡ Ok (t, o.0) = opens_is d.year d.peak empty ∙ ap (λ v. then v (λ m. Ok (t, m))) o.1 in
    let open₁ : read_open (start, empty) ≡ Ok (t, (at 1 r₁, o.0)) = open_line start (at 1 r₁) empty d.year d.peak line₁ ∙ ap (λ v. then (of_book (spot_at Y start) v) (λ y. Ok (y.0, (at 1 r₁, y.1)))) opens₁ in
    let f₀ : Few o.0 = subst Few (sym is.new) (few_opened d.year d.peak) in
    let f₁ = (section_taken Z d o.0 z.0 z.1).few f₀ in
    let f₂ = (section_taken R d z.0 r.0 r.1).few f₁ in
    let f₃ = (section_taken L d r.0 k.0 k.1).few f₂ in
    let f₄ = (section_taken T d k.0 d k.2).few f₃ in
    let sz = entries_forth Z d 1 o.0 z.0 r₂ twelve f₀ (omega (arith, length-map d.standing.zones zone_entry, f₄.zones)) z.1 in
    let sr = entries_forth R d sz.0 z.0 r.0 r₃ twelve f₁ (omega (arith, length-map d.standing.resources resource_entry, f₄.resources)) r.1 in
    let sk = entries_forth L d sr.0 r.0 k.0 r₄ twelve f₂ (omega (arith, length-map d.standing.loads load_entry, f₄.loads)) k.1 in
    let st = entries_forth T d sk.0 k.0 d [] twelve f₃ (omega (arith, length-map d.standing.trades trade_entry, f₄.trades)) k.2 in
    let last : read_section t T (at sk.0 r₄, k.0) ≡ Ok (at st.0 [], d) = ap (λ x. read_section t T (at sk.0 x, k.0)) (sym (append-nil r₄)) ∙ st.1 in
    let all = all_sections t (at 1 r₁, o.0) (at sz.0 r₂, z.0) (at sr.0 r₃, r.0) (at sk.0 r₄, k.0) (at st.0 [], d) sz.1 sr.1 sk.1 last in
    ap (λ x. read_all (at 0 x, empty)) whole ∙ all_read (start, empty) (at 1 r₁, o.0) t d open₁ all

finish_ok : (p : Place) (l d : Ledger) → finish (p, l) ≡ Ok d → (p.rest ≡ []) × (l ≡ d)
finish_ok p l d h = by_rest p.rest refl
  where
    by_rest : (s : List ℕ) → p.rest ≡ s → (p.rest ≡ []) × (l ≡ d)
    by_rest [] e = let same : finish (at p.line [], l) ≡ Ok d = ap (λ s. finish (at p.line s, l)) (sym e) ∙ h in (e, same_ok l d same)
    by_rest (c ∷ s) e = let same : finish (at p.line (c ∷ s), l) ≡ Ok d = ap (λ x. finish (at p.line x, l)) (sym e) ∙ h in let z : ◌≡◌ {A = ℕ} 0 1 = cc in absurd (omega arith)

-- what the first line came to
record Began (text : List ℕ) (t : SetupTicket) (g : Progress) : Type 0 where
  year : ℕ
  peak : ℕ
  ticket : t ≡ setup_ticket 0
  made : taken (open_call empty year peak) ≡ Ok g.1
  head : text ≡ opening.text (tt, (year, peak)) ++ 10 ∷ g.0.rest

began : (text : List ℕ) (t : SetupTicket) (g : Progress) → read_open (at 0 text, empty) ≡ Ok (t, g) → Began text t g
unfolding read_open
began text t g h =
    let u = then_ok (line_at Y read_opening (at 0 text)) _ (t, g) h in
    let year = u.0.0.0 in
    let peak = u.0.0.1 in
    let v = then_ok (of_book (spot_at Y (at 0 text)) (opens year peak empty)) _ (t, g) u.2 in
    let o : opens year peak empty ≡ Ok v.0 = of_book_ok (spot_at Y (at 0 text)) (opens year peak empty) v.0 v.1 in
    let w = then_ok (taken (open_call empty year peak)) (λ m. Ok (setup_ticket 0, m)) v.0 (sym (opens_is year peak empty) ∙ o) in
    let new : ◌≡◌ {A = SetupTicket × Ledger} (setup_ticket 0, w.0) v.0 = same_ok _ _ w.2 in
    let here : ◌≡◌ {A = SetupTicket × Progress} (v.0.0, (u.0.1, v.0.1)) (t, g) = same_ok _ _ v.2 in
    let first = line_back Y read_opening (λ x. opening.text (tt, x)) (λ x. opening.good (tt, x)) opening_reads (at 0 text) u.0.1 u.0.0 u.1 in
    record {
      year = year;
      peak = peak;
      ticket = sym (ap (λ y. y.0) new ∙ ap (λ y. y.0) here);
      made = w.1 ∙ ap Ok (ap (λ y. y.1) new ∙ ap (λ y. y.1.1) here);
      head = first.0 ∙ ap (λ y. opening.text (tt, (year, peak)) ++ 10 ∷ y.1.0.rest) here;
    }

-- a text that is read is the sheet of the ledger that it gives
pub sheet_back : (t : SetupTicket) (d : Ledger) (text : List ℕ) → read_all (at 0 text, empty) ≡ Ok (t, d) → SheetOf d text
unfolding made_of text_of
sheet_back t d text h =
    let a = then_ok (read_open (at 0 text, empty)) _ (t, d) h in
    let n = a.0.0 in
    let g = a.0.1 in
    let b = then_ok (sections n g) _ (t, d) a.2 in
    let end : ◌≡◌ {A = SetupTicket × Ledger} (n, b.0) (t, d) = same_ok _ _ b.2 in
    let z = then_ok (read_section n Z g) _ b.0 b.1 in
    let r = then_ok (read_section n R z.0) _ b.0 z.2 in
    let k = then_ok (read_section n L r.0) _ b.0 r.2 in
    let x = then_ok (read_section n T k.0) _ b.0 k.2 in
    let f = finish_ok x.0.0 x.0.1 b.0 x.2 in
    let last : x.0.1 ≡ d = f.1 ∙ ap (λ y. y.1) end in
    let o = began text n g a.1 in
    let year = o.year in
    let peak = o.peak in
    let zero : n.month ≡ 0 = ap (λ y. y.month) o.ticket in
    let book : g.1 ≡ opened year peak = (opening_taken empty year peak g.1 o.made).new in
    let bz = section_back n Z g.0 z.0.0 g.1 z.0.1 z.1 in
    let br = section_back n R z.0.0 r.0.0 z.0.1 r.0.1 r.1 in
    let bk = section_back n L r.0.0 k.0.0 r.0.1 k.0.1 k.1 in
    let bx = section_back n T k.0.0 x.0.0 k.0.1 x.0.1 x.1 in
    let az = all_taken n.month Z bz.list g.1 z.0.1 (in_all Z bz.list bz.fit) bz.taken in
    let ar = all_taken n.month R br.list z.0.1 r.0.1 (in_all R br.list br.fit) br.taken in
    let ak = all_taken n.month L bk.list r.0.1 k.0.1 (in_all L bk.list bk.fit) bk.taken in
    let ax = all_taken n.month T bx.list k.0.1 x.0.1 (in_all T bx.list bx.fit) bx.taken in
    let kt = grown_then [] [] bk.list [] [] [] [] bx.list r.0.1 k.0.1 x.0.1 ak.grow ax.grow in
    let rkt = grown_then [] br.list [] [] [] [] (bk.list ++ []) bx.list z.0.1 r.0.1 x.0.1 ar.grow kt in
    let all = grown_then bz.list [] [] [] [] (br.list ++ []) (bk.list ++ []) bx.list g.1 z.0.1 x.0.1 az.grow rkt in
    let grown : Grown (bz.list ++ []) (br.list ++ []) (bk.list ++ []) bx.list (opened year peak) d = subst (λ (y : Ledger). Grown (bz.list ++ []) (br.list ++ []) (bk.list ++ []) bx.list (opened year peak) y) last (subst (λ (y : Ledger). Grown (bz.list ++ []) (br.list ++ []) (bk.list ++ []) bx.list y x.0.1) book all) in
    let ez : entries Z d ≡ bz.list = grown.zones ∙ append-nil bz.list in
    let er : entries R d ≡ br.list = grown.resources ∙ append-nil br.list in
    let ek : entries L d ≡ bk.list = grown.loads ∙ append-nil bk.list in
    let ex : entries T d ≡ bx.list = grown.trades in
    let head = opening.text (tt, (year, peak)) in
    let body : text ≡ head ++ 10 ∷ (section_text Z bz.list ++ (section_text R br.list ++ (section_text L bk.list ++ section_text T bx.list))) =
    o.head
    ∙ ap (λ s. head ++ 10 ∷ s) (bz.text
    ∙ ap (λ s. section_text Z bz.list ++ s) (br.text
    ∙ ap (λ s. section_text R br.list ++ s) (bk.text
    ∙ ap (λ s. section_text L bk.list ++ s) (bx.text ∙ ap (λ s. section_text T bx.list ++ s) f.0 ∙ append-nil (section_text T bx.list))))) in
    let same : text ≡ text_of year peak bz.list br.list bk.list bx.list = body ∙ sym (append_assoc head (10 ∷ []) _) in
    let made : made_of year peak bz.list br.list bk.list bx.list ≡ Ok d =
    entered_go _ _ g.1 o.made
    ∙ entered_go _ _ z.0.1 (at_zero zero bz.list g.1 z.0.1 bz.taken)
    ∙ entered_go _ _ r.0.1 (at_zero zero br.list z.0.1 r.0.1 br.taken)
    ∙ entered_go _ _ k.0.1 (at_zero zero bk.list r.0.1 k.0.1 bk.taken)
    ∙ at_zero zero bx.list k.0.1 x.0.1 bx.taken ∙ ap Ok last in
    record {
      stands = record {
        made = (λ i. made_of (grown.year i) (grown.peak i) (ez i) (er i) (ek i) (ex i)) ∙ made;
        twelve = twelve_zones d.standing.zones (subst (AllByRecursion (Fits Z)) (sym ez) bz.fit);
      };
      same = same ∙ (λ i. text_of (sym grown.year i) (sym grown.peak i) (sym ez i) (sym er i) (sym ek i) (sym ex i));
    }

-- one text is the sheet of one ledger
one_ledger : (k l : Ledger) (text : List ℕ) → SheetOf k text → SheetOf l text → k ≡ l
one_ledger k l text p q = ap (λ z. z.1) (same_ok _ _ (sym (sheet_forth k text p) ∙ sheet_forth l text q))

-- a text that is refused is no ledger's sheet
pub no_sheet : (text : List ℕ) (e : SheetFault) → Err e ≡ of_line (read_all (at 0 text, empty)) → (d : Ledger) → SheetOf d text → ⊥
no_sheet text e h d s = let z : ◌≡◌ {A = ℕ} 0 1 = cc (ap of_line (sheet_forth d text s)) in omega arith

-- a value that a sheet is answered with is the one that was read
pub of_line_ok : {A : Type 0} (v : Result A LineFault) (x : A) → of_line v ≡ Ok x → v ≡ Ok x
of_line_ok (Ok y) x h = ap Ok (same_ok y x h)
of_line_ok (Err e) x h = let z : ◌≡◌ {A = ℕ} 0 1 = cc in absurd (omega arith)

answered_ok : (v : Result (SetupTicket × Ledger) SheetFault) (t : SetupTicket) (l : Ledger) → answered v ≡ (Ok t, l) → v ≡ Ok (t, l)
answered_ok (Ok x) t l h =
    let a : ◌≡◌ {A = Result SetupTicket SheetFault} (Ok x.0) (Ok t) = ap (λ y. y.0) h in
    let b : x.1 ≡ l = ap (λ y. y.1) h in
    λ i. Ok (same_ok x.0 t a i, b i)
answered_ok (Err e) t l h = let a : ◌≡◌ {A = Result SetupTicket SheetFault} (Err e) (Ok t) = ap (λ y. y.0) h in let z : ◌≡◌ {A = ℕ} 0 1 = cc in absurd (omega arith)

-- ---- the laws
written_is_read : (l : Ledger) → Deposit l → read_sheet (sheet_text l) ≡ (Ok (setup_ticket 0), l)
written_is_read l s = ap (λ v. answered (of_line v)) (sheet_forth l (sheet_text l) (record { stands = s; same = refl }))

-- the set-up that a ledger's standing entries make again has that ledger's text
again : (l : Ledger) → remade l ≡ Ok (fresh l) → TwelveRents l → Deposit (fresh l)
again l made twelve = record { made = made; twelve = twelve }

read_is_written : (text : List ℕ) (t : SetupTicket) (l : Ledger) → read_sheet text ≡ (Ok t, l) → SheetOf l text
read_is_written text t l h = sheet_back t l text (of_line_ok (read_all (at 0 text, empty)) (t, l) (answered_ok (of_line (read_all (at 0 text, empty))) t l h))

pub sheets_stand_lem : SheetsStand
sheets_stand_lem = record {
  written_is_read = written_is_read;
  read_is_written = read_is_written;
  read_is_called = λ text t l h. remade_called l l (read_is_written text t l h).stands.made;
  one_ledger = one_ledger;
  entries_are_read = λ l made twelve. written_is_read (fresh l) (again l made twelve);
  one_text = λ k l mk ml tk tl e. one_ledger (fresh k) (fresh l) (sheet_text k) (record { stands = again k mk tk; same = refl }) (record { stands = again l ml tl; same = e });
}
