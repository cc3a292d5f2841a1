-- The moment that a text names: by RFC 3339, or under a format.
use Rattle.std.specs.Prelude.{ℕ, ℤ, pos, Bool, List, Option, bytes_eq, codes, if◌then◌else◌, IfSome, IfNone}
use Rattle.std.specs.Result.{result_ok}
use Rattle.jiff.specs.Words.{parse_text, Parts}
use Rattle.vrl_value.specs.Rfc3339.{IsReading}
use Rattle.vrl_value.specs.Scan.{◌>>=◌, written_at}
use Rattle.fn_time.specs.Clock.{moment_on_clock}

-- what the parts of a timestamp name
abbrev pub timestamp_read : List ℕ → Option ℤ
timestamp_read text =
    written_at text >>= λ w. moment_on_clock (pos w.year) w.month w.day w.hour w.minute w.second w.nanosecond w.offset

-- the moment that the seven parts of a date, a time and its offset name; none where one is missing
abbrev pub moment_of : Parts → Option ℤ
moment_of p = do
  year ← p.year
  month ← p.month
  day ← p.day
  hour ← p.hour
  minute ← p.minute
  second ← p.second
  offset ← p.offset
  moment_on_clock year month day hour minute second 0 offset

-- what jiff's strptime reads in the text under the format
abbrev pub read_by : List ℕ → List ℕ → Option ℤ
read_by format text = result_ok (parse_text format text) >>= moment_of

-- `%+` is RFC 3339
abbrev pub is_rfc_3339 : List ℕ → Bool
is_rfc_3339 format = bytes_eq format (codes "%+")

abbrev pub moment_read : List ℕ → List ℕ → Option ℤ
moment_read format text = if is_rfc_3339 format then timestamp_read text else read_by format text

-- what `%+` reads is the moment that the text names by RFC 3339, and nothing where it names none
abbrev pub TimestampsAreRead : Type 0
TimestampsAreRead = (text : List ℕ) → IfSome (timestamp_read text) (IsReading text)
    × IfNone (timestamp_read text) ((nanos : ℤ) → ¬ (IsReading text nanos))
