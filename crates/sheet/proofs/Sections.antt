-- A section's text is read just where it is the text of entries that the book takes. Assumes nothing.
use Rattle.std.proofs.Common.{◌≡◌, ℕ, zero, suc, ◌+◌, ◌^◌, ◌<◌, List, [], ◌∷◌, ◌++◌, length, Ok, Err, Result, sym, refl, ap, ◌∙◌, append_assoc, arith}
use Rattle.std.specs.List.{AllByRecursion}
use Rattle.rules.specs.declared.refusal.Refusal.{Refusal}
use Rattle.book.specs.declared.ticket.SetupTicket.{SetupTicket}
use Rattle.rules.specs.Ledger.{Ledger}
use Rattle.text.specs.declared.faults.Section.{Section}
use Rattle.text.specs.declared.faults.Spot.{Spot}
use Rattle.text.specs.Fields.{Place, spot_at}
use Rattle.text.specs.Formats.{then}
use Rattle.text.proofs.Codecs.{then_ok}
use Rattle.rules.specs.declared.entry.Entry.{Entry}
use Rattle.lines.specs.Faults.{of_book}
use Rattle.lines.specs.Kinds.{count, section_letter, read_count, read_entry, entry_text}
use Rattle.lines.specs.Lines.{line_at}
use Rattle.rules.specs.Replays.{enter, enter_all}
use Rattle.rules.specs.Chains.{then as entered}
use Rattle.rules.proofs.Growing.{then_ok as entered-ok}
use Rattle.sheet.specs.Reading.{Progress, step, steps, read_section}
use Rattle.sheet.specs.Sheets.{line, lines, section_text}
use Rattle.sheet.proofs.Ends.{step_answer, section_count}
use Rattle.lines.proofs.Laws.{Fits, line_forth, line_back, entry_reads, count_reads}

abbrev pub at : ℕ → List ℕ → Place
at n s = record { line = n; rest = s }

pub of_book_ok : {A : Type 0} (s : Spot) (v : Result A Refusal) (x : A) → of_book s v ≡ Ok x → v ≡ Ok x
of_book_ok s (Ok y) x e = let same : y ≡ x = cc in ap Ok same
of_book_ok s (Err d) x e = let z : ◌≡◌ {A = ℕ} 0 1 = cc in absurd (omega arith)

module _ (t : SetupTicket) (section : Section) where
  pub steps_forth : (n : ℕ) (l m : Ledger) (es : List Entry) (r : List ℕ) → AllByRecursion (Fits section) es → enter_all t.month es l ≡ Ok m → (k : ℕ) × (steps t section (length es) (at n (lines es ++ r), l) ≡ Ok (at k r, m))
  unfolding steps enter_all
  steps_forth n l m [] r g h = let same : l ≡ m = cc in (n, ap (λ x. Ok (at n r, x)) same)
  steps_forth n l m (e ∷ es) r g h =
      let text : (line (entry_text e) ++ lines es) ++ r ≡ entry_text e ++ 10 ∷ (lines es ++ r) = append_assoc (line (entry_text e)) (lines es) r ∙ append_assoc (entry_text e) (10 ∷ []) (lines es ++ r) in
      let p = entered-ok (enter t.month e l) (enter_all t.month es) m h in
      let here = line_forth section (read_entry section) entry_text (Fits section) (entry_reads section) n e (lines es ++ r) g.0 in
      let from : Place = at n (entry_text e ++ 10 ∷ (lines es ++ r)) in
      let one = step_answer t section from (at (n + 1) (lines es ++ r)) l e (spot_at section from) (Ok p.0) here refl (ap (of_book (spot_at section from)) p.1) in
      let rest = steps_forth (n + 1) p.0 m es r g.1 p.2 in
      (rest.0, ap (λ s. then (step t section (at n s, l)) (steps t section (length es))) text ∙ ap (λ v. then v (steps t section (length es))) one ∙ rest.1)

  pub record Took (k : ℕ) (s : List ℕ) (l m : Ledger) (r : List ℕ) : Type 0 where
    pub list : List Entry
    pub long : length list ≡ k
    pub fit : AllByRecursion (Fits section) list
    pub text : s ≡ lines list ++ r
    pub taken : enter_all t.month list l ≡ Ok m

  pub steps_back : (k : ℕ) (p q : Place) (l m : Ledger) → steps t section k (p, l) ≡ Ok (q, m) → Took k p.rest l m q.rest
  unfolding steps enter_all
  steps_back zero p q l m h =
      let same : ◌≡◌ {A = Progress} (p, l) (q, m) = cc in
      record { list = []; long = refl; fit = tt; text = ap (λ x. x.0.rest) same; taken = ap (λ x. Ok x.1) same }
  steps_back (suc k) p q l m h =
      let u = then_ok (step t section (p, l)) (steps t section k) (q, m) h in
      let v = then_ok (line_at section (read_entry section) p) _ u.0 u.1 in
      let w = then_ok (of_book (spot_at section p) (enter t.month v.0.0 l)) _ u.0 v.2 in
      let b = line_back section (read_entry section) entry_text (Fits section) (entry_reads section) p v.0.1 v.0.0 v.1 in
      let e = v.0.0 in
      let same : ◌≡◌ {A = Progress} (v.0.1, w.0) u.0 = cc w.2 in
      let rest = steps_back k v.0.1 q w.0 m (ap (steps t section k) same ∙ u.2) in
      record {
        list = e ∷ rest.list;
        long = ap suc rest.long;
        fit = (b.1, rest.fit);
        text = b.0 ∙ ap (λ s. entry_text e ++ 10 ∷ s) rest.text ∙ sym (append_assoc (line (entry_text e)) (lines rest.list) q.rest ∙ append_assoc (entry_text e) (10 ∷ []) (lines rest.list ++ q.rest));
        taken = ap (λ x. entered x (enter_all t.month rest.list)) (of_book_ok (spot_at section p) (enter t.month e l) w.0 w.1) ∙ rest.taken;
      }

  pub section_forth : (n : ℕ) (l m : Ledger) (es : List Entry) (r : List ℕ) → AllByRecursion (Fits section) es → length es < 10 ^ 11 → enter_all t.month es l ≡ Ok m → (k : ℕ) × (read_section t section (at n (section_text section es ++ r), l) ≡ Ok (at k r, m))
  unfolding section_text
  section_forth n l m es r g few h =
      let c = (count (section_letter section)).text (tt, length es) in
      let text : (line c ++ lines es) ++ r ≡ c ++ 10 ∷ (lines es ++ r) = append_assoc (line c) (lines es) r ∙ append_assoc c (10 ∷ []) (lines es ++ r) in
      let here = line_forth section (read_count section) (λ k. (count (section_letter section)).text (tt, k)) (λ k. (count (section_letter section)).good (tt, k)) (count_reads section) n (length es) (lines es ++ r) (tt, few) in
      let rest = steps_forth (n + 1) l m es r g h in
      (rest.0, ap (λ s. read_section t section (at n s, l)) text ∙ section_count t section _ (at (n + 1) (lines es ++ r)) l (length es) here ∙ rest.1)

  pub record Read (s : List ℕ) (l m : Ledger) (r : List ℕ) : Type 0 where
    pub list : List Entry
    pub fit : AllByRecursion (Fits section) list
    pub text : s ≡ section_text section list ++ r
    pub taken : enter_all t.month list l ≡ Ok m

  pub section_back : (p q : Place) (l m : Ledger) → read_section t section (p, l) ≡ Ok (q, m) → Read p.rest l m q.rest
  unfolding section_text
  section_back p q l m h =
      let u = then_ok (line_at section (read_count section) p) _ (q, m) h in
      let b = line_back section (read_count section) (λ k. (count (section_letter section)).text (tt, k)) (λ k. (count (section_letter section)).good (tt, k)) (count_reads section) p u.0.1 u.0.0 u.1 in
      let s = steps_back u.0.0 u.0.1 q l m u.2 in
      let c = (count (section_letter section)).text (tt, length s.list) in
      record {
        list = s.list;
        fit = s.fit;
        text = b.0 ∙ (λ i. (count (section_letter section)).text (tt, sym s.long i) ++ 10 ∷ s.text i) ∙ sym (append_assoc (line c) (lines s.list) q.rest ∙ append_assoc c (10 ∷ []) (lines s.list ++ q.rest));
        taken = s.taken;
      }
