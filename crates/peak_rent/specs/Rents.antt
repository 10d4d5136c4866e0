-- The peak energy rent of a month from its hours, in millionths of a dollar per kilowatt. Assumes nothing.
use Rattle.std.specs.Prelude.{ℕ, ◌*◌, ◌/◌, min, Bool, cond, not, ◌&&◌, List, length, ℤ, pos, ◌-ℤ◌, neg_ℤ, Ok, Err, sum_by, Result, int_le, int_lt, nat_le, unsigned_abs}
use Rattle.std.specs.List.{list_all}
use Rattle.peak_rent.specs.declared.hour.Hour.{Hour}
use Rattle.peak_rent.specs.declared.refusal.RentRefusal.{RentRefusal}
use Rattle.peak_rent.specs.declared.refusal.RentRefusal.TheVariants.{PeakOutOfRange, TooManyHours, HourOutOfRange}

-- low ≤ x ≤ high
abbrev pub within : ℤ → ℤ → ℤ → Bool
within low high x = int_le low x && int_le x high

-- price at most 1,000,000 either way, strike 0 to 1,000,000, load 0 to 100,000
abbrev pub in_range : Hour → Bool
in_range h = within (neg_ℤ (pos 1000000)) (pos 1000000) h.price && (within (pos 0) (pos 1000000) h.strike && within (pos 0) (pos 100000) h.load)

abbrev pub all_in_range : List Hour → Bool
all_in_range hours = list_all in_range hours

abbrev pub above_strike : Hour → Bool
above_strike h = int_lt h.strike h.price

-- What an hour adds: (price - strike) · 19 · min(load, peak) / (2 · peak) rounded down where the price is above the
-- strike, and nothing elsewhere. There the difference is above nil, and so is its size.
abbrev pub hour_rent : ℕ → Hour → ℕ
hour_rent peak h = cond (above_strike h) (unsigned_abs (h.price -ℤ h.strike) * 19 * min (unsigned_abs h.load) peak / (2 * peak)) 0

-- The month's rent, or the first refusal that fits.
abbrev pub month_rent : ℕ → List Hour → Result ℕ RentRefusal
month_rent peak hours =
    cond (not (nat_le 1 peak && nat_le peak 100000)) (Err PeakOutOfRange)
    (cond (not (nat_le (length hours) 744)) (Err TooManyHours)
    (cond (all_in_range hours) (Ok (sum_by (hour_rent peak) hours)) (Err HourOutOfRange)))
