-- What entries make is what their calls make.
use Rattle.std.proofs.Common.{◌≡◌, ℕ, List, [], ◌∷◌, ◌++◌, map, Ok, Err, Result, refl, ap, ◌∙◌}
use Rattle.rules.specs.declared.entry.Entry.{Entry}
use Rattle.rules.specs.declared.entry.Entry.TheVariants as entry
use Rattle.rules.specs.declared.refusal.Refusal.{Refusal}
use Rattle.rules.specs.declared.rows.Trade.TheVariants as trade
use Rattle.rules.specs.Calls.{Answered, open_call, zone_call, resource_call, load_call, bilateral_call, auction_call}
use Rattle.rules.specs.Chains.{then}
use Rattle.rules.specs.Ledger.{Ledger, opened}
use Rattle.rules.specs.Replays.{zone_entry, resource_entry, load_entry, trade_entry, taken, enter, enter_all, empty, made_of, remade, call_of, calls_of}
use Rattle.rules.specs.Runs.{Call, step, after_all}
use Rattle.rules.specs.Tests.{year_test, peak_test}
use Rattle.rules.proofs.Through.{clash, through}

same : {A E : Type 0} (x y : A) → ◌≡◌ {A = Result A E} (Ok x) (Ok y) → x ≡ y
same x y e = cc

-- the ledger of a call that was accepted
left : {A : Type 0} (a : Answered A Refusal) (new : Ledger) → taken a ≡ Ok new → a.1 ≡ new
left (Ok x, l) new e = same l new e
left (Err refusal, l) new e = absurd (clash refusal new e)

-- what a chain found, and what came of it
pub went_on : {A B E : Type 0} (r : Result A E) (rest : A → Result B E) (y : B) → then r rest ≡ Ok y → (x : A) × ((r ≡ Ok x) × (rest x ≡ Ok y))
went_on (Ok x) rest y e = (x, (refl, e))
went_on (Err refusal) rest y e = absurd (clash refusal y e)

entry_called : (e : Entry) (l new : Ledger) → enter 0 e l ≡ Ok new → step l (call_of e) ≡ new
unfolding enter step
entry_called (entry.Zone z) l new h = left (zone_call l 0 z.price z.rents) new h
entry_called (entry.Resource r) l new h = left (resource_call l 0 r.zone r.letter r.cleared r.supplied) new h
entry_called (entry.Load k) l new h = left (load_call l 0 k.zone k.obligation) new h
entry_called (entry.Trade (trade.Bilateral t)) l new h = left (bilateral_call l t) new h
entry_called (entry.Trade (trade.Auction t)) l new h = left (auction_call l t) new h

entries_called : (es : List Entry) (l new : Ledger) → enter_all 0 es l ≡ Ok new → after_all l (map call_of es) ≡ new
unfolding enter_all after_all
entries_called [] l new h = same l new h
entries_called (e ∷ es) l new h =
    let w = went_on (enter 0 e l) (enter_all 0 es) new h in
    ap (λ (k : Ledger). after_all k (map call_of es)) (entry_called e l w.0 w.1.0) ∙ entries_called es w.0 new w.1.1

after_both : (xs ys : List Call) (l : Ledger) → after_all l (xs ++ ys) ≡ after_all (after_all l xs) ys
unfolding after_all
after_both [] ys l = refl
after_both (x ∷ xs) ys l = after_both xs ys (step l x)

abbrev Opens : (year peak : ℕ) → Ledger → Answered ℕ Refusal → Type 0
Opens year peak new a = taken a ≡ Ok new → opened year peak ≡ new

opened_by : (year peak : ℕ) (new : Ledger) → taken (open_call empty year peak) ≡ Ok new → opened year peak ≡ new
opened_by year peak new =
    through (Opens year peak new) empty (year_test year) _ (λ e k. absurd (clash e new k)) (λ _ _.
    through (Opens year peak new) empty (peak_test peak) _ (λ e k. absurd (clash e new k)) (λ _ _ k. same (opened year peak) new k))

-- one section, and those after it
on : (es : List Entry) (rest : List Call) (l mid new : Ledger) → enter_all 0 es l ≡ Ok mid → after_all mid rest ≡ new → after_all l (map call_of es ++ rest) ≡ new
on es rest l mid new h k = after_both (map call_of es) rest l ∙ ap (λ (x : Ledger). after_all x rest) (entries_called es l mid h) ∙ k

pub remade_called : (l new : Ledger) → remade l ≡ Ok new → after_all (opened l.year l.peak) (calls_of l.standing) ≡ new
unfolding made_of
remade_called l new h =
    let s = l.standing in
    let zs = map zone_entry s.zones in
    let rs = map resource_entry s.resources in
    let ls = map load_entry s.loads in
    let ts = map trade_entry s.trades in
    let o = went_on (taken (open_call empty l.year l.peak)) _ new h in
    let z = went_on (enter_all 0 zs o.0) _ new o.1.1 in
    let r = went_on (enter_all 0 rs z.0) _ new z.1.1 in
    let k = went_on (enter_all 0 ls r.0) _ new r.1.1 in
    ap (λ (x : Ledger). after_all x (calls_of s)) (opened_by l.year l.peak o.0 o.1.0)
    ∙ on zs _ o.0 z.0 new z.1.0 (on rs _ z.0 r.0 new r.1.0 (on ls _ r.0 k.0 new k.1.0 (entries_called ts k.0 new k.1.1)))
