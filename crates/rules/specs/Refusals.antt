-- The number of each refusal. Assumes nothing.
use Rattle.std.specs.Prelude.{ℕ}
use Rattle.rules.specs.declared.refusal.Refusal.{Refusal}
use Rattle.rules.specs.declared.refusal.Refusal.TheVariants.{Year, Peak, ZonesFull, Price, PriorRent, ZoneUnknown, ResourcesFull, ClassUnknown, Cleared, SelfSupply, LoadsFull, Obligation, PeriodOver, Ticket, TradesFull, ResourceUnknown, Parties, Months, Quantity, Position, EventHours, EventOverlap, EventsFull, NotCovered, RentAmount, RentEntered, RentMissing, NotClosed, LoadUnknown, BufferShort}

abbrev pub number_of : Refusal → ℕ
number_of Year = 1
number_of Peak = 2
number_of ZonesFull = 3
number_of Price = 4
number_of PriorRent = 5
number_of ZoneUnknown = 6
number_of ResourcesFull = 7
number_of ClassUnknown = 8
number_of Cleared = 9
number_of SelfSupply = 10
number_of LoadsFull = 11
number_of Obligation = 12
number_of PeriodOver = 13
number_of Ticket = 14
number_of TradesFull = 15
number_of ResourceUnknown = 16
number_of Parties = 17
number_of Months = 18
number_of Quantity = 19
number_of Position = 20
number_of EventHours = 21
number_of EventOverlap = 22
number_of EventsFull = 23
number_of NotCovered = 24
number_of RentAmount = 25
number_of RentEntered = 26
number_of RentMissing = 27
number_of NotClosed = 30
number_of LoadUnknown = 31
number_of BufferShort = 35
