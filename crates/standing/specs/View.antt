-- The standing entries that the lists hold. Assumes nothing.
use Rattle.rules.specs.Ledger as ledger
use Rattle.standing.specs.declared.state.Standing.{Standing}

abbrev pub entries_of : Standing → ledger.Standing
entries_of s = record { zones = s.zones.entries.items; resources = s.resources.entries.items; loads = s.loads.entries.items; trades = s.trades.entries.items }
