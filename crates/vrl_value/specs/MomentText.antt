-- The text of a moment: its timestamp in UTC with the fewest digits that lose nothing.
use Rattle.std.specs.Prelude.{ℕ, zero, suc, ◌+◌, ◌-◌, ◌/◌, ◌%◌, ◌^◌, ◌==◌, Bool, if◌then◌else◌, List, ℤ, pos, ◌-ℤ◌, int_le, unsigned_abs}
use Rattle.std.specs.Int.{int_div_euclid, int_rem_euclid}
use Rattle.jiff_core.specs.Calendar.{days_from_civil}
use Rattle.vrl_value.specs.Rfc3339.{Stamp, utc, stamp_text}

-- the last number up to n that passes the test; 0 where none does
unfoldable pub last_to : ℕ → (ℕ → Bool) → ℕ
last_to zero test = zero
last_to (suc n) test = if test (suc n) then suc n else last_to n test

-- the date of a day number: the last year, and the last month in it, that began by that day
abbrev pub year_of : ℤ → ℕ
year_of day = last_to 9999 (λ year. int_le (days_from_civil (pos year) 1 1) day)

abbrev pub month_of : ℤ → ℕ
month_of day = last_to 12 (λ month. int_le (days_from_civil (pos (year_of day)) month 1) day)

abbrev pub day_of : ℤ → ℕ
day_of day = unsigned_abs (day -ℤ days_from_civil (pos (year_of day)) (month_of day) 1) + 1

-- none, three, six or nine digits of a fraction in nanoseconds: the fewest that lose nothing
abbrev pub fewest_places : ℕ → ℕ
fewest_places n = if n == 0 then 0 else (if n % 1_000_000 == 0 then 3 else (if n % 1_000 == 0 then 6 else 9))

-- what a clock in UTC shows on a day, so many nanoseconds after midnight
abbrev pub stamp_on : ℤ → ℕ → Stamp
stamp_on day clock =
    let subsecond = clock % 1_000_000_000 in
    record {
      year = year_of day;
      month = month_of day;
      day = day_of day;
      letter = 84;
      hour = clock / 3_600_000_000_000;
      minute = clock / 60_000_000_000 % 60;
      second = clock / 1_000_000_000 % 60;
      places = fewest_places subsecond;
      fraction = subsecond / 10 ^ (9 - fewest_places subsecond);
      zone = utc 90;
    }

-- the timestamp of an instant, in UTC
unfoldable pub stamp_of : ℤ → Stamp
stamp_of nanos = stamp_on (int_div_euclid nanos (pos 86_400_000_000_000))
    (unsigned_abs (int_rem_euclid nanos (pos 86_400_000_000_000)))

-- `YYYY-MM-DDThh:mm:ssZ`, with `.` and three, six or nine digits before `Z` where the fraction
-- isn't zero
unfoldable pub moment_text : ℤ → List ℕ
moment_text nanos = stamp_text (stamp_of nanos)
