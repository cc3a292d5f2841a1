-- The moment at which a clock shows a date and a time.
use Rattle.std.specs.Prelude.{ℕ, ◌+◌, ◌*◌, ◌&&◌, Bool, ℤ, pos, negsuc, neg_ℤ, ◌+ℤ◌, ◌-ℤ◌, ◌*ℤ◌, int_le, nat_le, Option, Some, None, if◌then◌else◌}
use Rattle.jiff.specs.Words.{days_in_month, nanos_of_seconds}
use Rattle.jiff_core.specs.Calendar.{days_from_civil}
use Rattle.vrl_value.specs.Moment.{last_nanos}

-- the moment so many nanoseconds after 1970-01-01T00:00:00Z; none out of the range of moments
abbrev pub is_in_range : ℤ → Bool
is_in_range nanos = int_le (negsuc 62167219199999999999) nanos && int_le nanos (pos last_nanos)

abbrev pub moment_at : ℤ → Option ℤ
moment_at nanos = if is_in_range nanos then Some nanos else None

-- the calendar has the date
abbrev pub is_date : ℤ → ℕ → ℕ → Bool
is_date year month day =
    int_le (neg_ℤ (pos 9999)) year && (int_le year (pos 9999)
    && (nat_le 1 month && (nat_le month 12 && (nat_le 1 day && nat_le day (days_in_month year month)))))

-- a clock shows the time
abbrev pub is_time : ℕ → ℕ → ℕ → ℕ → Bool
is_time hour minute second nanosecond =
    nat_le hour 23 && (nat_le minute 59 && (nat_le second 59 && nat_le nanosecond 999_999_999))

-- the nanoseconds since 1970-01-01T00:00:00 that a clock shows
abbrev pub clock_nanos : ℤ → ℕ → ℕ → ℕ → ℕ → ℕ → ℕ → ℤ
clock_nanos year month day hour minute second nanosecond =
    days_from_civil year month day *ℤ pos 86_400_000_000_000 +ℤ pos
    ((hour * 3600 + minute * 60 + second) * 1_000_000_000 + nanosecond)

-- the moment at which a clock shows this, so many seconds ahead of UTC; none where the calendar
-- doesn't have the date, no clock shows the time, or the moment is out of the range
abbrev pub moment_on_clock : ℤ → ℕ → ℕ → ℕ → ℕ → ℕ → ℕ → ℤ → Option ℤ
moment_on_clock year month day hour minute second nanosecond offset =
    if is_date year month day && is_time hour minute second nanosecond
    then moment_at (clock_nanos year month day hour minute second nanosecond -ℤ nanos_of_seconds offset)
    else None
