-- The seven kinds of line: the format of each, and what a line of a section says. Assumes nothing.
use Rattle.std.specs.Prelude.{ℕ, cond, List, ℤ, Ok, Err, Result}
use Rattle.text.specs.declared.faults.Section.{Section}
use Rattle.text.specs.declared.faults.Section.TheVariants.{Y, Z, R, L, T}
use Rattle.text.specs.declared.faults.Spot.{Spot}
use Rattle.text.specs.declared.faults.FieldFault.{FieldFault}
use Rattle.text.specs.Cuts.{before}
use Rattle.text.specs.Formats.{then, Format, leads, follows, both, many, read_row, number, signed_number, letter, fixed, letter_is}
use Rattle.lines.specs.declared.faults.LineFault.{LineFault}
use Rattle.lines.specs.declared.faults.LineFault.TheVariants.{Due}
use Rattle.rules.specs.declared.entry.Entry.{Entry}
use Rattle.rules.specs.declared.entry.Entry.TheVariants.{Zone, Resource, Load, Trade}
use Rattle.rules.specs.declared.entry.Offer.{Offer}
use Rattle.rules.specs.declared.rows.Auction.{Auction}
use Rattle.rules.specs.declared.rows.Bilateral.{Bilateral}
use Rattle.rules.specs.declared.rows.Trade.TheVariants as trade
use Rattle.lines.specs.Faults.{of_field}

-- ---- the formats; letters are given by their codes
abbrev pub opening : Format (Unit {0} × (ℕ × ℕ)) (List ℕ × (List ℕ × List ℕ))
opening = both (leads (fixed 89)) (both (follows number) (follows number))

abbrev pub count : ℕ → Format (Unit {0} × ℕ) (List ℕ × List ℕ)
count c = both (leads (fixed c)) (follows number)

abbrev pub zone : Format (ℕ × List ℕ) (List ℕ × List (List ℕ))
zone = both (leads number) (many 12 (follows number))

abbrev pub resource : Format (ℕ × (ℕ × (ℕ × ℕ))) (List ℕ × (List ℕ × (List ℕ × List ℕ)))
resource = both (leads number) (both (follows letter) (both (follows number) (follows number)))

abbrev pub load : Format (ℕ × ℤ) (List ℕ × List ℕ)
load = both (leads number) (follows signed_number)

abbrev pub bilateral : Format (Unit {0} × (ℕ × (ℕ × (ℕ × (ℕ × (ℕ × ℕ)))))) (List ℕ × (List ℕ × (List ℕ × (List ℕ × (List ℕ × (List ℕ × List ℕ))))))
bilateral = both (leads (fixed 66)) (both (follows number) (both (follows number) (both (follows number) (both (follows number) (both (follows number) (follows number))))))

abbrev pub auction : Format (Unit {0} × (ℕ × (ℕ × (ℕ × (ℤ × ℕ))))) (List ℕ × (List ℕ × (List ℕ × (List ℕ × (List ℕ × List ℕ)))))
auction = both (leads (fixed 65)) (both (follows number) (both (follows number) (both (follows number) (both (follows signed_number) (follows number)))))

abbrev pub section_letter : Section → ℕ
section_letter Y = 89
section_letter Z = 90
section_letter R = 82
section_letter L = 76
section_letter T = 84

-- a line that begins with the letter due
abbrev pub lettered : {A : Type 0} → ℕ → Spot → List ℕ → Result A LineFault → Result A LineFault
lettered c at s v = cond (letter_is c (before 32 s)) v (Err (Due at))

-- the year and the peak of the first line, and the count of a section
abbrev pub opening_row : Spot → List ℕ → Result (ℕ × ℕ) FieldFault
opening_row at s = then (read_row opening at s) (λ x. Ok x.1)

abbrev pub read_opening : Spot → List ℕ → Result (ℕ × ℕ) LineFault
read_opening at s = lettered 89 at s (of_field (opening_row at s))

abbrev pub count_row : ℕ → Spot → List ℕ → Result ℕ FieldFault
count_row c at s = then (read_row (count c) at s) (λ x. Ok x.1)

abbrev pub read_count : Section → Spot → List ℕ → Result ℕ LineFault
read_count section at s = lettered (section_letter section) at s (of_field (count_row (section_letter section) at s))

-- the values of a resource and of a trade in the order of its line, and the entry of such values
abbrev pub of_resource : Offer → ℕ × (ℕ × (ℕ × ℕ))
of_resource r = (r.zone, (r.letter, (r.cleared, r.supplied)))

abbrev pub to_resource : ℕ × (ℕ × (ℕ × ℕ)) → Offer
to_resource x = record { zone = x.0; letter = x.1.0; cleared = x.1.1.0; supplied = x.1.1.1 }

abbrev pub of_bilateral : Bilateral → Unit {0} × (ℕ × (ℕ × (ℕ × (ℕ × (ℕ × ℕ)))))
of_bilateral b = (tt, (b.shedder, (b.acquirer, (b.first, (b.last, (b.quantity, b.price))))))

abbrev pub to_bilateral : Unit {0} × (ℕ × (ℕ × (ℕ × (ℕ × (ℕ × ℕ))))) → Bilateral
to_bilateral x = record { shedder = x.1.0; acquirer = x.1.1.0; first = x.1.1.1.0; last = x.1.1.1.1.0; quantity = x.1.1.1.1.1.0; price = x.1.1.1.1.1.1 }

abbrev pub of_auction : Auction → Unit {0} × (ℕ × (ℕ × (ℕ × (ℤ × ℕ))))
of_auction a = (tt, (a.resource, (a.first, (a.last, (a.quantity, a.price)))))

abbrev pub to_auction : Unit {0} × (ℕ × (ℕ × (ℕ × (ℤ × ℕ)))) → Auction
to_auction x = record { resource = x.1.0; first = x.1.1.0; last = x.1.1.1.0; quantity = x.1.1.1.1.0; price = x.1.1.1.1.1 }

-- the entry that a line of a kind writes
abbrev pub zone_row : Spot → List ℕ → Result Entry FieldFault
zone_row at s = then (read_row zone at s) (λ x. Ok (Zone (record { price = x.0; rents = x.1 })))

abbrev pub resource_row : Spot → List ℕ → Result Entry FieldFault
resource_row at s = then (read_row resource at s) (λ x. Ok (Resource (to_resource x)))

abbrev pub load_row : Spot → List ℕ → Result Entry FieldFault
load_row at s = then (read_row load at s) (λ x. Ok (Load (record { zone = x.0; obligation = x.1 })))

abbrev pub bilateral_row : Spot → List ℕ → Result Entry FieldFault
bilateral_row at s = then (read_row bilateral at s) (λ x. Ok (Trade (trade.Bilateral (to_bilateral x))))

abbrev pub auction_row : Spot → List ℕ → Result Entry FieldFault
auction_row at s = then (read_row auction at s) (λ x. Ok (Trade (trade.Auction (to_auction x))))

-- the entry of a line of a section; section Y has none
unfoldable pub read_entry : Section → Spot → List ℕ → Result Entry LineFault
read_entry Y at s = Err (Due at)
read_entry Z at s = of_field (zone_row at s)
read_entry R at s = of_field (resource_row at s)
read_entry L at s = of_field (load_row at s)
read_entry T at s = cond (letter_is 65 (before 32 s)) (of_field (auction_row at s)) (lettered 66 at s (of_field (bilateral_row at s)))

-- the text of an entry, without LF, its section, and the entries that have a text
abbrev pub entry_text : Entry → List ℕ
entry_text (Zone z) = zone.text (z.price, z.rents)
entry_text (Resource r) = resource.text (of_resource r)
entry_text (Load k) = load.text (k.zone, k.obligation)
entry_text (Trade (trade.Bilateral b)) = bilateral.text (of_bilateral b)
entry_text (Trade (trade.Auction a)) = auction.text (of_auction a)

abbrev pub section_of : Entry → Section
section_of (Zone z) = Z
section_of (Resource r) = R
section_of (Load k) = L
section_of (Trade t) = T

abbrev pub good : Entry → Type 0
good (Zone z) = zone.good (z.price, z.rents)
good (Resource r) = resource.good (of_resource r)
good (Load k) = load.good (k.zone, k.obligation)
good (Trade (trade.Bilateral b)) = bilateral.good (of_bilateral b)
good (Trade (trade.Auction a)) = auction.good (of_auction a)
