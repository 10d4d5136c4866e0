-- The lines that june prints, and the answer to writing a resource's. Assumes nothing.
use Rattle.std.specs.Prelude.{◌≡◌, ℕ, List, [], ◌∷◌, ◌++◌, ℤ, Ok, Err, codes, Result}
use Rattle.std.specs.List.{flat_map}
use Rattle.rules.specs.declared.answers.Terms.{Terms}
use Rattle.rules.specs.declared.refusal.Refusal.{Refusal}
use Rattle.rules.specs.declared.refusal.Refusal.TheVariants.{BufferShort}
use Rattle.text.specs.Buffer.{Wrote}
use Rattle.text.specs.Formats.{leads, follows, both, number, signed_number}
use Rattle.sheet.specs.Sheets.{line}

-- RESOURCE PAYMENT DEDUCTION
abbrev pub terms_text : ℕ → ℤ → ℤ → List ℕ
terms_text resource payment deduction = line ((both (leads number) (both (follows signed_number) (follows signed_number))).text (resource, (payment, deduction)))

-- refused NUMBER LINE FIELD
abbrev pub refused_text : ℕ → ℕ → ℕ → List ℕ
refused_text fault place field = line (codes "refused" ++ flat_map (follows number).text (fault ∷ place ∷ field ∷ []))

-- the line with the terms of a resource; where these are refused the buffer stays as it was
abbrev pub WroteTerms : ℕ → Result Terms Refusal → List ℕ → List ℕ → Result ℕ Refusal → Type 0
WroteTerms resource (Ok t) before after r = Wrote BufferShort (terms_text resource t.payment t.deduction) before after r
WroteTerms resource (Err e) before after r = (r ≡ Err e) × (after ≡ before)
