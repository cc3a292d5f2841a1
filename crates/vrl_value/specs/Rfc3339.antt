-- Timestamps as texts, by RFC 3339, section 5.6, without leap seconds. Dates are those of jiff's
-- calendar.
use Rattle.std.specs.Prelude.{◌≡◌, ℕ, zero, suc, ◌+◌, ◌-◌, ◌*◌, ◌/◌, ◌%◌, ◌^◌, ◌<◌, ◌≤◌, ◌==◌, if◌then◌else◌, ◌⊎◌, List, [], ◌∷◌, ◌++◌, ℤ, pos, neg_ℤ, ◌+ℤ◌, ◌-ℤ◌, ◌*ℤ◌}
use Rattle.jiff.specs.Words.{nanos_of_seconds, IsDate, IsTime}
use Rattle.jiff_core.specs.Calendar.{days_from_civil}
use Rattle.vrl_value.specs.Moment.{IsInRange}

-- a number in so many decimal digits, with zeros in front
unfoldable pub digits : ℕ → ℕ → List ℕ
digits zero n = []
digits (suc k) n = digits k (n / 10) ++ (48 + n % 10) ∷ []

-- how far the clock of a timestamp is from UTC
pub data Zone : Type 0 where
  -- not at all: the letter `Z` or `z`
  utc : ℕ → Zone
  -- so many hours and minutes before it, behind `+`
  ahead : ℕ → ℕ → Zone
  -- or after it, behind `-`
  behind : ℕ → ℕ → Zone

-- what a timestamp writes
pub record Stamp : Type 0 where
  pub year : ℕ
  pub month : ℕ
  pub day : ℕ
  -- the letter between date and time
  pub letter : ℕ
  pub hour : ℕ
  pub minute : ℕ
  pub second : ℕ
  -- how many digits the fraction of the second has, and their number
  pub places : ℕ
  pub fraction : ℕ
  pub zone : Zone

abbrev pub fraction_text : ℕ → ℕ → List ℕ
fraction_text places n = if places == 0 then [] else 46 ∷ digits places n

abbrev pub offset_text : ℕ → ℕ → ℕ → List ℕ
offset_text sign hours minutes = sign ∷ (digits 2 hours ++ 58 ∷ digits 2 minutes)

abbrev pub zone_text : Zone → List ℕ
zone_text (utc letter) = letter ∷ []
zone_text (ahead hours minutes) = offset_text 43 hours minutes
zone_text (behind hours minutes) = offset_text 45 hours minutes

-- `hh:mm:ss`, a fraction where there is one, and the zone
abbrev pub clock_text : Stamp → List ℕ
clock_text s =
    digits 2 s.hour ++ 58 ∷ (digits 2 s.minute ++ 58 ∷
    (digits 2 s.second ++ (fraction_text s.places s.fraction ++ zone_text s.zone)))

-- `YYYY-MM-DDThh:mm:ss`, a fraction where there is one, and the zone
unfoldable pub stamp_text : Stamp → List ℕ
stamp_text s = digits 4 s.year ++ 45 ∷ (digits 2 s.month ++ 45 ∷ (digits 2 s.day ++ s.letter ∷ clock_text s))

-- the letter, or the same in lower case
abbrev pub IsLetter : ℕ → ℕ → Type 0
IsLetter upper b = (b ≡ upper) ⊎ (b ≡ upper + 32)

abbrev pub IsZone : Zone → Type 0
IsZone (utc letter) = IsLetter 90 letter
IsZone (ahead hours minutes) = (hours ≤ 23) × (minutes ≤ 59)
IsZone (behind hours minutes) = (hours ≤ 23) × (minutes ≤ 59)

-- the fraction in nanoseconds
abbrev pub subsecond : Stamp → ℕ
subsecond s = s.fraction * 10 ^ (9 - s.places)

-- the calendar has the date, a clock shows the time, and each part is written with its digits or
-- letters
pub record IsStamp (s : Stamp) : Type 0 where
  pub date : IsDate (pos s.year) (pos s.month) (pos s.day)
  pub time : IsTime (pos s.hour) (pos s.minute) (pos s.second) (pos (subsecond s))
  pub places : s.places ≤ 9
  pub fraction : s.fraction < 10 ^ s.places
  pub letter : IsLetter 84 s.letter
  pub zone : IsZone s.zone

-- what the clock shows: the nanoseconds since 1970-01-01T00:00:00 there
abbrev pub clock_nanos : Stamp → ℤ
clock_nanos s = days_from_civil (pos s.year) s.month s.day *ℤ pos 86_400_000_000_000
    +ℤ pos ((s.hour * 3600 + s.minute * 60 + s.second) * 1_000_000_000 + subsecond s)

-- how many seconds the clock is ahead of UTC
abbrev pub zone_seconds : Zone → ℤ
zone_seconds (utc letter) = pos 0
zone_seconds (ahead hours minutes) = pos (hours * 3600 + minutes * 60)
zone_seconds (behind hours minutes) = neg_ℤ (pos (hours * 3600 + minutes * 60))

-- the instant, in nanoseconds since 1970-01-01T00:00:00Z
abbrev pub stamp_nanos : Stamp → ℤ
stamp_nanos s = clock_nanos s -ℤ nanos_of_seconds (zone_seconds s.zone)

-- the text is that of a timestamp at this instant, which is in the range of moments
pub record IsReading (text : List ℕ) (nanos : ℤ) : Type 0 where
  pub stamp : Stamp
  pub spelled : text ≡ stamp_text stamp
  pub valid : IsStamp stamp
  pub instant : stamp_nanos stamp ≡ nanos
  pub range : IsInRange nanos
