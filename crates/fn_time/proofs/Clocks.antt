-- The moment that a clock shows, by tests and by what they test.
use Rattle.std.proofs.Common.{◌≡◌, ℕ, ◌≤◌, ◌&&◌, nat_le, Bool, true, false, List, Option, Some, None, refl, sym, ap, subst, ◌∙◌, arith, ℤ, pos, neg_ℤ, negsuc, ◌-ℤ◌, ◌≤ℤ◌, int_le, IfSome, IfNone, if◌then◌else◌}
use Rattle.std.proofs.lemmas.Bool.{and_from, and_parts, true≢false}
use Rattle.std.proofs.lemmas.Bool.Decides.{nat_tests}
use Rattle.std.proofs.lemmas.Int.{ints}
use Rattle.jiff.specs.Words.{days_in_month, nanos_of_seconds, IsDate, IsTime}
use Rattle.vrl_value.specs.Moment.{IsInRange}
use Rattle.vrl_value.specs.Rfc3339.{IsReading}
use Rattle.vrl_value.specs.Scan.{◌>>=◌, written_at}
use Rattle.vrl_value.proofs.Spelled.{by_some}
use Rattle.vrl_value.proofs.Timestamps.{named-reading, reading-named}
use Rattle.fn_time.specs.Clock.{clock_nanos, is_date, is_in_range, is_time, moment_at, moment_on_clock}
use Rattle.fn_time.specs.Read.{timestamp_read, TimestampsAreRead}

below : (a b : ℕ) → nat_le a b ≡ true → a ≤ b
below a b is = grind (arith, nat_tests)

is_below : (a b : ℕ) → a ≤ b → nat_le a b ≡ true
is_below a b low = grind (arith, nat_tests)

-- ---- the range

pub in_range : (nanos : ℤ) → is_in_range nanos ≡ true → IsInRange nanos
in_range nanos is = let both = and_parts (int_le (negsuc 62167219199999999999) nanos) _ is in grind (arith, ints, both.0, both.1)

pub is_in : (nanos : ℤ) → IsInRange nanos → is_in_range nanos ≡ true
is_in nanos range = and_from (int_le (negsuc 62167219199999999999) nanos) _ (grind (arith, ints, range.0)) (grind (arith, ints, range.1))

moment_in : (nanos : ℤ) (b : Bool) → b ≡ true → (if b then Some nanos else None) ≡ Some nanos
moment_in nanos true is = refl
moment_in nanos false is = absurd (true≢false (sym is))

pub moment_is : (nanos : ℤ) → IsInRange nanos → moment_at nanos ≡ Some nanos
moment_is nanos range = moment_in nanos (is_in_range nanos) (is_in nanos range)

-- ---- the date and the time

int_below : (a b : ℤ) → int_le a b ≡ true → a ≤ℤ b
int_below a b is = grind (arith, ints)

is_int_below : (a b : ℤ) → a ≤ℤ b → int_le a b ≡ true
is_int_below a b low = grind (arith, ints)

pub date_is : (year : ℤ) (month day : ℕ) → IsDate year (pos month) (pos day) → is_date year month day ≡ true
date_is year month day date =
    and_from _ _ (is_int_below (neg_ℤ (pos 9999)) year date.0.0) (and_from _ _ (is_int_below year (pos 9999) date.0.1)
    (and_from _ _ (is_below 1 month (omega (arith, ints, date.1))) (and_from _ _ (is_below month 12 (omega (arith, ints, date.1)))
    (and_from _ _ (is_below 1 day (omega (arith, ints, date.2))) (is_below day (days_in_month year month) (omega (arith, ints, date.2)))))))

pub is_a_date : (year : ℤ) (month day : ℕ) → is_date year month day ≡ true → IsDate year (pos month) (pos day)
is_a_date year month day is =
    let a = and_parts (int_le (neg_ℤ (pos 9999)) year) _ is in
    let b = and_parts (int_le year (pos 9999)) _ a.1 in
    let c = and_parts (nat_le 1 month) _ b.1 in
    let d = and_parts (nat_le month 12) _ c.1 in
    let e = and_parts (nat_le 1 day) _ d.1 in
    let m1 = below 1 month c.0 in
    let m2 = below month 12 d.0 in
    let d1 = below 1 day e.0 in
    let d2 = below day (days_in_month year month) e.1 in
    ((int_below (neg_ℤ (pos 9999)) year a.0, int_below year (pos 9999) b.0), (omega (arith, ints, m1), omega (arith, ints, m2)), (omega (arith, ints, d1), omega (arith, ints, d2)))

pub time_is : (hour minute second nanos : ℕ) → IsTime (pos hour) (pos minute) (pos second) (pos nanos) → is_time hour minute second nanos ≡ true
time_is hour minute second nanos time =
    and_from _ _ (is_below hour 23 (omega (arith, ints, time.0))) (and_from _ _ (is_below minute 59 (omega (arith, ints, time.1)))
    (and_from _ _ (is_below second 59 (omega (arith, ints, time.2))) (is_below nanos 999_999_999 (omega (arith, ints, time.3)))))

pub is_a_time : (hour minute second nanos : ℕ) → is_time hour minute second nanos ≡ true → IsTime (pos hour) (pos minute) (pos second) (pos nanos)
is_a_time hour minute second nanos is =
    let a = and_parts (nat_le hour 23) _ is in
    let b = and_parts (nat_le minute 59) _ a.1 in
    let c = and_parts (nat_le second 59) _ b.1 in
    let h = below hour 23 a.0 in
    let m = below minute 59 b.0 in
    let s = below second 59 c.0 in
    let n = below nanos 999_999_999 c.1 in
    ((omega (arith, ints), omega (arith, ints, h)), (omega (arith, ints), omega (arith, ints, m)), (omega (arith, ints), omega (arith, ints, s)), (omega (arith, ints), omega (arith, ints, n)))

-- ---- a moment on a clock

shown_if : (b : Bool) (o : Option ℤ) → b ≡ true → (if b then o else None) ≡ o
shown_if true o is = refl
shown_if false o is = absurd (true≢false (sym is))

pub on_clock : (year : ℤ) (month day hour minute second nanosecond : ℕ) (offset nanos : ℤ) → IsDate year (pos month) (pos day) → IsTime (pos hour) (pos minute) (pos second) (pos nanosecond)
    → clock_nanos year month day hour minute second nanosecond -ℤ nanos_of_seconds offset ≡ nanos → moment_on_clock year month day hour minute second nanosecond offset ≡ moment_at nanos
on_clock year month day hour minute second nanosecond offset nanos date time is =
    shown_if (is_date year month day && is_time hour minute second nanosecond) (moment_at (clock_nanos year month day hour minute second nanosecond -ℤ nanos_of_seconds offset))
    (and_from (is_date year month day) (is_time hour minute second nanosecond) (date_is year month day date) (time_is hour minute second nanosecond time)) ∙ ap moment_at is

-- what a moment on a clock says
pub record IsOn (year : ℤ) (month day hour minute second nanosecond : ℕ) (offset nanos : ℤ) : Type 0 where
  pub date : IsDate year (pos month) (pos day)
  pub time : IsTime (pos hour) (pos minute) (pos second) (pos nanosecond)
  pub instant : clock_nanos year month day hour minute second nanosecond -ℤ nanos_of_seconds offset ≡ nanos
  pub range : IsInRange nanos

passed : (b : Bool) (o : Option ℤ) (nanos : ℤ) → (if b then o else None) ≡ Some nanos → (b ≡ true) × (o ≡ Some nanos)
passed true o nanos is = (refl, is)
passed false o nanos is = absurd cc

same_nanos : (a b : ℤ) → (let s : Option ℤ = Some a in s ≡ Some b) → a ≡ b
same_nanos a b is = cc

pub is_on : (year : ℤ) (month day hour minute second nanosecond : ℕ) (offset nanos : ℤ) → moment_on_clock year month day hour minute second nanosecond offset ≡ Some nanos
    → IsOn year month day hour minute second nanosecond offset nanos
is_on year month day hour minute second nanosecond offset nanos is =
    let instant = clock_nanos year month day hour minute second nanosecond -ℤ nanos_of_seconds offset in
    let shown = passed (is_date year month day && is_time hour minute second nanosecond) (moment_at instant) nanos is in
    let both = and_parts (is_date year month day) (is_time hour minute second nanosecond) shown.0 in
    let ranged = passed (is_in_range instant) (Some instant) nanos shown.1 in
    let same = same_nanos instant nanos ranged.1 in
    record {
      date = is_a_date year month day both.0;
      time = is_a_time hour minute second nanosecond both.1;
      instant = same;
      range = subst IsInRange same (in_range instant ranged.0);
    }

-- ---- timestamps

reading_is : (text : List ℕ) (nanos : ℤ) → IsReading text nanos → timestamp_read text ≡ Some nanos
reading_is text nanos reading =
    let read = reading-named text nanos reading in
    let w = read.0 in
    ap (λ o. o >>= (λ w. moment_on_clock (pos w.year) w.month w.day w.hour w.minute w.second w.nanosecond w.offset)) read.1 ∙ on_clock (pos w.year) w.month w.day w.hour w.minute w.second w.nanosecond w.offset nanos read.2.shown.0 read.2.shown.1 read.2.instant ∙ moment_is nanos read.2.range

is_reading : (text : List ℕ) (nanos : ℤ) → timestamp_read text ≡ Some nanos → IsReading text nanos
is_reading text nanos is =
    by_some (written_at text) _ nanos is (λ w at made.
    let on = is_on (pos w.year) w.month w.day w.hour w.minute w.second w.nanosecond w.offset nanos made in
    named-reading text w nanos at (record { shown = (on.date, on.time); instant = on.instant; range = on.range }))

read_or_not : (text : List ℕ) (found : Option ℤ) → timestamp_read text ≡ found → IfSome found (IsReading text) × IfNone found ((nanos : ℤ) → ¬ (IsReading text nanos))
read_or_not text (Some nanos) is = (is_reading text nanos is, tt)
read_or_not text None is = (tt, λ nanos reading. let none : Some nanos ≡ None = sym (reading_is text nanos reading) ∙ is in absurd cc)

pub timestamps_read : TimestampsAreRead
timestamps_read = λ text. read_or_not text (timestamp_read text) refl

not_read : (text : List ℕ) (found : Option ℤ) → timestamp_read text ≡ found → ((nanos : ℤ) → ¬ (IsReading text nanos)) → None ≡ timestamp_read text
not_read text (Some nanos) is none = absurd (none nanos (is_reading text nanos is))
not_read text None is none = sym is

-- what `Moment::read` answers
pub read_is : (text : List ℕ) (found : Option ℤ) → IfSome found (λ m. IsReading text m) → IfNone found ((nanos : ℤ) → ¬ (IsReading text nanos)) → found ≡ timestamp_read text
read_is text (Some nanos) reading none = sym (reading_is text nanos reading)
read_is text None reading none = not_read text (timestamp_read text) refl none
