-- The two kinds of party once they took a share. Assumes nothing.
use Rattle.std.specs.Prelude.{ℤ}
use Rattle.sharing_tests.specs.declared.kinds.Load.{Load}
use Rattle.sharing_tests.specs.declared.kinds.Recipient.{Recipient}

abbrev pub charged : Load → ℤ → Load
charged l s = record { obligation = l.obligation; charge = s }

abbrev pub credited : Recipient → ℤ → Recipient
credited r s = record { weight = r.weight; credit = s; small = r.small }
