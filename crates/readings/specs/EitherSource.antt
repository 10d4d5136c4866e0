-- A source of either kind has the table of the source that it holds. Assumes nothing.
use Rattle.readings.specs.declared.source.Source.{Source}
use Rattle.readings.specs.declared.source.Source.TheVariants.{Hourly, Published}
use Rattle.readings.specs.Table.{Table, Lawful}
use Rattle.readings.specs.Sources.{hourly_of, published_of}
use Rattle.readings.specs.HourlyLaws.{hourly_lawful}
use Rattle.readings.specs.PublishedLaws.{published_lawful}

abbrev pub source_of : Source → Table
source_of (Hourly s) = hourly_of s.readings.now s.hours
source_of (Published s) = published_of s.scores.now

pub source_lawful : (s : Source) → Lawful (source_of s)
source_lawful (Hourly s) = hourly_lawful s.readings.now s.hours
source_lawful (Published s) = published_lawful s.scores.now
