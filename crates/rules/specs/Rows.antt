-- Rows by their numbers, counted from 1. Assumes nothing.
use Rattle.std.specs.Prelude.{ℕ, zero, suc, Bool, ◌||◌, List, [], pos, None, Option, nat_lt, slice_index_or}
use Rattle.std.specs.List.{slice_get}
use Rattle.rules.specs.declared.class.Class.TheVariants.{IntermittentSettlementOnly}
use Rattle.rules.specs.declared.rows.Zone.{Zone}
use Rattle.rules.specs.declared.rows.Resource.{Resource}
use Rattle.rules.specs.declared.rows.Load.{Load}

-- the number is none of those from 1 to n
abbrev pub unknown : ℕ → ℕ → Bool
unknown number n = nat_lt number 1 || nat_lt n number

-- the row of that number, if there is one
abbrev pub numbered : {A : Type 0} → List A → ℕ → Option A
numbered xs zero = None
numbered xs (suc i) = slice_get xs i

-- the row of that number, or else a row of nothing
abbrev pub row_of : {A : Type 0} → A → List A → ℕ → A
row_of nothing xs zero = nothing
row_of nothing xs (suc i) = slice_index_or xs i nothing

abbrev pub no_zone : Zone
no_zone = record { price = 0; rents = [] }

abbrev pub no_resource : Resource
no_resource = record { zone = 0; class = IntermittentSettlementOnly; cleared = 0; supplied = 0; row = [] }

abbrev pub no_load : Load
no_load = record { zone = 0; obligation = pos 0 }
