-- The entries that the book takes are the last of their section, and each has its text. Assumes nothing.
use Rattle.std.proofs.Common.{◌≡◌, ℕ, List, [], ◌∷◌, ◌++◌, length, Ok, subst}
use Rattle.std.specs.List.{AllByRecursion}
use Rattle.rules.specs.declared.entry.Entry.{Entry}
use Rattle.rules.specs.declared.entry.Entry.TheVariants.{Zone, Resource, Load, Trade}
use Rattle.rules.specs.declared.rows.Trade.TheVariants as trade
use Rattle.rules.specs.Ledger.{Ledger}
use Rattle.rules.specs.Replays.{enter, enter_all}
use Rattle.rules.proofs.Growing.{Grown, Added, Few, Low, then_ok, same_ok, entry_taken, grown_none, grown_then}
use Rattle.text.specs.declared.faults.Section.{Section}
use Rattle.text.specs.declared.faults.Section.TheVariants.{Y, Z, R, L, T}
use Rattle.lines.specs.Kinds.{section_of, good}

abbrev pub Grow : Section → List Entry → Ledger → Ledger → Type 0
Grow Y es l m = Unit {0}
Grow Z es l m = Grown es [] [] [] l m
Grow R es l m = Grown [] es [] [] l m
Grow L es l m = Grown [] [] es [] l m
Grow T es l m = Grown [] [] [] es l m

-- a zone has twelve rents
abbrev pub Twelve : Entry → Type 0
Twelve (Zone z) = length z.rents ≡ 12
Twelve (Resource r) = Unit {0}
Twelve (Load k) = Unit {0}
Twelve (Trade t) = Unit {0}

grow_one : (x : Entry) (l m : Ledger) → Added x l m → Grow (section_of x) (x ∷ []) l m
grow_one (Zone z) l m g = g
grow_one (Resource r) l m g = g
grow_one (Load k) l m g = g
grow_one (Trade t) l m g = g

low_good : (x : Entry) → Low x → Twelve x → good x
low_good (Zone z) h w = (h.0, (w, h.1))
low_good (Resource r) h w = (h.0, (h.1, (h.2, h.3)))
low_good (Load k) h w = h
low_good (Trade (trade.Bilateral b)) h w = (tt, (h.0, (h.1, (h.2, (h.3, (h.4, h.5))))))
low_good (Trade (trade.Auction a)) h w = (tt, (h.0, (h.1, (h.2, (h.3, h.4)))))

grow_none : (section : Section) (l : Ledger) → Grow section [] l l
grow_none Y l = tt
grow_none Z l = grown_none l
grow_none R l = grown_none l
grow_none L l = grown_none l
grow_none T l = grown_none l

grow_then : (section : Section) (es fs : List Entry) (l m n : Ledger) → Grow section es l m → Grow section fs m n → Grow section (es ++ fs) l n
grow_then Y es fs l m n g h = tt
grow_then Z es fs l m n g h = grown_then es [] [] [] fs [] [] [] l m n g h
grow_then R es fs l m n g h = grown_then [] es [] [] [] fs [] [] l m n g h
grow_then L es fs l m n g h = grown_then [] [] es [] [] [] fs [] l m n g h
grow_then T es fs l m n g h = grown_then [] [] [] es [] [] [] fs l m n g h

pub record AllTaken (section : Section) (es : List Entry) (l m : Ledger) : Type 0 where
  pub grow : Grow section es l m
  pub few : Few l → Few m
  pub fits : Few l → AllByRecursion Twelve es → AllByRecursion good es

pub all_taken : (ticket : ℕ) (section : Section) (es : List Entry) (l m : Ledger) → AllByRecursion (λ e. section_of e ≡ section) es → enter_all ticket es l ≡ Ok m → AllTaken section es l m
unfolding enter_all
all_taken ticket section [] l m s h = subst (AllTaken section [] l) (same_ok l m h) (record { grow = grow_none section l; few = λ f. f; fits = λ f w. tt })
all_taken ticket section (e ∷ es) l m s h =
    let p = then_ok (enter ticket e l) (enter_all ticket es) m h in
    let a = entry_taken ticket e l p.0 p.1 in
    let b = all_taken ticket section es p.0 m s.1 p.2 in
    record {
      grow = grow_then section (e ∷ []) es l p.0 m (subst (λ x. Grow x (e ∷ []) l p.0) s.0 (grow_one e l p.0 a.added)) b.grow;
      few = λ f. b.few (a.few f);
      fits = λ f w. (low_good e (a.low f) w.0, b.fits (a.few f) w.1);
    }
