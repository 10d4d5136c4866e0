-- What stands in a book is entered again.
use Rattle.std.proofs.Common.{◌≡◌, ℕ, ◌+◌, ◌<◌, ◌≤◌, List, [], ◌∷◌, ◌++◌, map, length, Ok, Result, refl, append_assoc, append-nil, arith}
use lib.ListN.{length-map}
use Rattle.std.specs.List.{AllByRecursion}
use Rattle.std.proofs.lemmas.List.{length_push, map_push}
use Rattle.std.proofs.lemmas.Bool.{lt-leb}
use Rattle.rules.specs.declared.entry.Entry.{Entry}
use Rattle.rules.specs.declared.rows.Zone.{Zone}
use Rattle.rules.specs.declared.rows.Resource.{Resource}
use Rattle.rules.specs.declared.rows.Load.{Load}
use Rattle.rules.specs.Calls.{open_call}
use Rattle.rules.specs.Chains.{then}
use Rattle.rules.specs.Entered.{ZoneEnters, ResourceEnters, LoadEnters, as_cleared, Entered}
use Rattle.rules.specs.Ledger.{Standing, Ledger, opened}
use Rattle.rules.specs.Replays.{zone_entry, resource_entry, load_entry, trade_entry, taken, enter, enter_all, empty, made_of, remade, set_up, fresh}
use Rattle.rules.proofs.Classes.{class_laws}

-- ---- one section of entries
-- Where each entry goes in after those before it, all of them do.
section : {X : Type 0} (entry_of : X → Entry) (at : List X → Ledger) (P : X → Type 0) (limit : ℕ) → ((done : List X) (x : X) → P x → length done < limit → enter 0 (entry_of x) (at done) ≡ Ok (at (done ++ x ∷ []))) →
    (done rest : List X) → AllByRecursion P rest → length done + length rest ≤ limit → enter_all 0 (map entry_of rest) (at done) ≡ Ok (at (done ++ rest))
unfolding enter_all
section entry_of at P limit goes done [] all h = rw append-nil refl
section entry_of at P limit goes done (x ∷ rest) all h =
    rw (goes done x all.0 (omega arith))
    (rw append_assoc at (section entry_of at P limit goes (done ++ x ∷ []) rest all.1 (omega (arith, length_push done x))))

-- one section after another
goes_on : {A B E : Type 0} (r : Result A E) (x : A) (rest : A → Result B E) (y : Result B E) → r ≡ Ok x → rest x ≡ y → then r rest ≡ y
goes_on r x rest y e k = rw e k

module _ (year peak : ℕ) (s : Standing) where
  -- the book in set-up once these zones, resources or loads are entered
  abbrev with_zones : List Zone → Ledger
  with_zones done = set_up year peak (record { zones = done; resources = []; loads = []; trades = [] })

  abbrev with_resources : List Resource → Ledger
  with_resources done = set_up year peak (record { zones = s.zones; resources = map as_cleared done; loads = []; trades = [] })

  abbrev with_loads : List Load → Ledger
  with_loads done = set_up year peak (record { zones = s.zones; resources = map as_cleared s.resources; loads = done; trades = [] })

  zone_goes : (done : List Zone) (z : Zone) → ZoneEnters z → length done < 8 → enter 0 (zone_entry z) (with_zones done) ≡ Ok (with_zones (done ++ z ∷ []))
  unfolding enter
  zone_goes done z h room = rw (lt-leb 8 (length done) room, h.price, h.rents) refl

  resource_goes : (done : List Resource) (r : Resource) → ResourceEnters (length s.zones) r → length done < 64 → enter 0 (resource_entry r) (with_resources done) ≡ Ok (with_resources (done ++ r ∷ []))
  unfolding enter
  resource_goes done r h room = rw (h.zone, length-map done as_cleared, lt-leb 64 (length done) room, class_laws.forth r.class, h.cleared, h.supplied, map_push as_cleared done r) refl

  load_goes : (done : List Load) (k : Load) → LoadEnters (length s.zones) k → length done < 32 → enter 0 (load_entry k) (with_loads done) ≡ Ok (with_loads (done ++ k ∷ []))
  unfolding enter
  load_goes done k h room = rw (h.zone, lt-leb 32 (length done) room, h.obligation) refl

  -- ---- all sections
  all_sections : Entered year peak s → made_of year peak (map zone_entry s.zones) (map resource_entry s.resources) (map load_entry s.loads) (map trade_entry s.trades) ≡ Ok (set_up year peak s)
  unfolding made_of
  all_sections k =
      goes_on (taken (open_call empty year peak)) (opened year peak) _ _ (rw (k.year_passes, k.peak_passes) refl)
      (goes_on (enter_all 0 (map zone_entry s.zones) _) _ _ _ (section zone_entry with_zones ZoneEnters 8 zone_goes [] s.zones k.zones (omega (arith, k.zones_fit)))
      (goes_on (enter_all 0 (map resource_entry s.resources) _) _ _ _ (section resource_entry with_resources (ResourceEnters (length s.zones)) 64 resource_goes [] s.resources k.resources (omega (arith, k.resources_fit)))
      (goes_on (enter_all 0 (map load_entry s.loads) _) _ _ _ (section load_entry with_loads (LoadEnters (length s.zones)) 32 load_goes [] s.loads k.loads (omega (arith, k.loads_fit)))
      k.trades)))

pub entered_remade : (l : Ledger) → Entered l.year l.peak l.standing → remade l ≡ Ok (fresh l)
entered_remade l k = all_sections l.year l.peak l.standing k
