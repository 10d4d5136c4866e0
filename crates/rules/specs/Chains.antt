-- A call as a chain of tests: what it answers, and the state that it leaves. Assumes nothing.
use Rattle.std.specs.Prelude.{Ok, Err, Result}

-- A test that refuses ends the call, and the state stays as it is; else the rest decides, with what the test found.
abbrev pub after : {S A B E : Type 0} → S → Result B E → (B → Result A E × S) → Result A E × S
after s (Err e) rest = (Err e, s)
after s (Ok x) rest = rest x

abbrev pub accept : {S A E : Type 0} → A → S → Result A E × S
accept answer new = (Ok answer, new)

-- what is found goes on into the rest, and a refusal ends it
abbrev pub then : {A B E : Type 0} → Result A E → (A → Result B E) → Result B E
then (Err e) rest = Err e
then (Ok x) rest = rest x
