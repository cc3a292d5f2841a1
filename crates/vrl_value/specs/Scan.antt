-- How the reader of timestamps goes over a text, part by part: each answers what it read and what
-- is left. Only private functions answer by these; what a timestamp is says `Rfc3339`.
use Rattle.std.specs.Prelude.{◌≡◌, ℕ, zero, suc, ◌+◌, ◌-◌, ◌*◌, ◌^◌, ◌==◌, nat_lt, ◌&&◌, ◌||◌, not, if◌then◌else◌, List, [], ◌∷◌, length, Option, Some, None, ℤ, pos, neg_ℤ, ◌<◌, ◌+ℤ◌, ◌-ℤ◌, ◌*ℤ◌, position}
use Rattle.std.specs.Char.{is_ascii_digit}
use Rattle.jiff.specs.Words.{nanos_of_seconds, IsBetween, IsDate, IsTime}
use Rattle.jiff_core.specs.Calendar.{days_from_civil}
use Rattle.vrl_value.specs.Moment.{IsInRange}
use Rattle.vrl_value.specs.declared.reading.Written.{Written}

infixl 10 ◌>>=◌
abbrev pub ◌>>=◌ : {A B : Type 0} → Option A → (A → Option B) → Option B
None >>= f = None
(Some x) >>= f = f x

-- what a function returned, seen by a view, is what reading gives
abbrev pub Gives : {X Y : Type 0} → (X → Y) → Option X → Option Y → Type 0
Gives view None read = read ≡ None
Gives view (Some x) read = read ≡ Some (view x)

-- a number with one more digit
abbrev pub with_digit : ℕ → List ℕ → Option (ℕ × List ℕ)
with_digit n [] = None
with_digit n (b ∷ rest) = if is_ascii_digit b then Some (n * 10 + (b - 48), rest) else None

-- the number of the first k digits
unfoldable pub number_at : ℕ → List ℕ → Option (ℕ × List ℕ)
number_at zero text = Some (0, text)
number_at (suc k) text = do
  n ← number_at k text
  with_digit n.0 n.1

-- the number of two digits behind a mark
unfoldable pub behind : ℕ → List ℕ → Option (ℕ × List ℕ)
behind mark [] = None
behind mark (b ∷ rest) = if b == mark then number_at 2 rest else None

-- and behind the letter between date and time
unfoldable pub behind_letter : List ℕ → Option (ℕ × List ℕ)
behind_letter [] = None
behind_letter (b ∷ rest) = if b == 84 || b == 116 then number_at 2 rest else None

-- one to nine digits as a fraction of a second, in nanoseconds
unfoldable pub nanos_at : List ℕ → Option (ℕ × List ℕ)
nanos_at text = do
  places ← position (λ b. not (is_ascii_digit b)) text
  if places == 0 || nat_lt 9 places then None else (number_at places text >>= λ n. Some (n.0 * 10 ^ (9 - places), n.1))

-- the fraction, where there is one
unfoldable pub fraction_at : List ℕ → Option (ℕ × List ℕ)
fraction_at [] = Some (0, [])
fraction_at (b ∷ rest) = if b == 46 then nanos_at rest else Some (0, b ∷ rest)

-- the whole text as an offset in seconds
unfoldable pub offset_at : List ℕ → Option ℕ
offset_at text = do
  hours ← number_at 2 text
  minutes ← behind 58 hours.1
  if nat_lt 23 hours.0 || nat_lt 59 minutes.0 || not (length minutes.1 == 0) then None
      else Some (hours.0 * 3600 + minutes.0 * 60)

-- the whole text as a zone
unfoldable pub zone_at : List ℕ → Option ℤ
zone_at [] = None
zone_at (b ∷ rest) =
    if (b == 90 || b == 122) && length rest == 0 then Some (pos 0)
    else (if b == 43 then (offset_at rest >>= λ seconds. Some (pos seconds))
    else (if b == 45 then (offset_at rest >>= λ seconds. Some (neg_ℤ (pos seconds))) else None))

-- the whole text
unfoldable pub written_at : List ℕ → Option Written
written_at text = do
  year ← number_at 4 text
  month ← behind 45 year.1
  day ← behind 45 month.1
  hour ← behind_letter day.1
  minute ← behind 58 hour.1
  second ← behind 58 minute.1
  fraction ← fraction_at second.1
  zone ← zone_at fraction.1
  Some record {
    year = year.0;
    month = month.0;
    day = day.0;
    hour = hour.0;
    minute = minute.0;
    second = second.0;
    nanosecond = fraction.0;
    offset = zone;
  }

-- numbers of so many digits
pub record IsSmall (w : Written) : Type 0 where
  pub year : w.year < 10_000
  pub month : w.month < 100
  pub day : w.day < 100
  pub hour : w.hour < 100
  pub minute : w.minute < 100
  pub second : w.second < 100
  pub nanosecond : w.nanosecond < 1_000_000_000
  pub offset : IsBetween (neg_ℤ (pos 86_400)) (pos 86_400) w.offset

-- the calendar has the date, and a clock shows the time
abbrev pub IsOnClock : Written → Type 0
IsOnClock w =
    IsDate (pos w.year) (pos w.month) (pos w.day) × IsTime (pos w.hour) (pos w.minute) (pos w.second) (pos w.nanosecond)

-- the nanoseconds since 1970-01-01T00:00:00 that the clock shows
abbrev pub written_clock : Written → ℤ
written_clock w = days_from_civil (pos w.year) w.month w.day *ℤ pos 86_400_000_000_000
    +ℤ pos ((w.hour * 3600 + w.minute * 60 + w.second) * 1_000_000_000 + w.nanosecond)

-- the parts name this moment
pub record IsNamed (w : Written) (nanos : ℤ) : Type 0 where
  pub shown : IsOnClock w
  pub instant : written_clock w -ℤ nanos_of_seconds w.offset ≡ nanos
  pub range : IsInRange nanos
