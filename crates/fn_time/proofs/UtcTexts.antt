-- What jiff's strftime answers of an instant is what it shows of a clock in UTC.
use Rattle.std.proofs.Common.{◌≡◌, ℕ, ◌/◌, ◌%◌, ◌⊎◌, inl, inr, true, List, [], length, Some, Result, Ok, Err, refl, sym, ap, subst, ◌∙◌, arith, ℤ, pos, unsigned_abs}
use Rattle.std.specs.Int.{int_div_euclid, int_rem_euclid}
use Rattle.std.specs.Str.{IsUtf8}
use Rattle.jiff.specs.Types.{Date, DateTime}
use Rattle.jiff.specs.Words.{civil_nanos, epoch_day, parts_of, time_nanos, IsBadText, IsInstantParts, IsShownAs}
use Rattle.jiff_core.specs.Calendar.{day_count}
use Rattle.jiff.specs.Strtime.{StrftimeGives}
use Rattle.jiff_core.specs.declared.error.Error.{Error}
use Rattle.jiff_core.specs.declared.error.Error.TheVariants.{OutOfMemory}
use Rattle.jiff_core.proofs.CalendarLemmas.{days_from_civil-day_count, days_in_month_bounds}
use Rattle.jiff_core.proofs.DateLemmas.{epoch_day_injective}
use Rattle.jiff_core.proofs.DateTimeLemmas.{civil_nanos-parts, epoch_day-civil_nanos, time_nanos_bound}
use Rattle.jiff_core.proofs.SignedLemmas.{signed_arith}
use Rattle.jiff_strtime.specs.Number.{match_result}
use Rattle.jiff_strtime.specs.Show.{show_format, Context, Shown}
use Rattle.jiff_strtime.specs.declared.directive.Config.{Config}
use Rattle.jiff_strtime.specs.declared.directive.Locale.TheVariants.{Default}
use Rattle.jiff_strtime.specs.declared.tm.BrokenDownTime.{BrokenDownTime}
use Rattle.vrl_value.specs.Moment.{IsInRange}
use Rattle.vrl_value.specs.MomentText.{day_of, month_of, stamp_of, year_of}
use Rattle.vrl_value.proofs.Civil.{civil_of_day, IsDay}
use Rattle.fn_time.specs.Format.{is_shown_format}
use Rattle.fn_time.specs.Shown.{shown_by, shown_plainly, text_or_none, utc_context}
use Rattle.fn_time.proofs.Letters.{known_is}
use Rattle.fn_time.proofs.Showing.{format_shows, letter_shows, AreSmall, FormatShows, Shows}

-- ---- what a clock in UTC shows

day_is : (dt : DateTime) (nanos : ℤ) → IsInRange nanos → civil_nanos dt ≡ nanos → IsDay (epoch_day dt.date) (day_count dt.date.year dt.date.month dt.date.day)
day_is dt nanos range same =
    let counted = days_from_civil-day_count dt.date.year dt.date.month dt.date.day in
    let parts = civil_nanos-parts dt in
    let bound = time_nanos_bound dt.time in
    record { counted = omega (arith, signed_arith, counted); low = omega (arith, signed_arith, counted, parts, bound, range, same); high = omega (arith, signed_arith, counted, parts, bound, range, same) }

date_parts : (d : Date) (count : ℕ) → IsDay (epoch_day d) count → (pos (year_of (epoch_day d)) ≡ d.year) × (month_of (epoch_day d) ≡ d.month) × (day_of (epoch_day d) ≡ d.day)
date_parts d count day =
    let civil = civil_of_day (epoch_day d) count day in
    let made : Date = record { year = pos (year_of (epoch_day d)); month = month_of (epoch_day d); day = day_of (epoch_day d); year_in = civil.0.0; month_in = civil.0.1; day_in = civil.0.2 } in
    epoch_day_injective made d civil.1

-- the parts of a timestamp are those of the clock
record IsClock (nanos : ℤ) (dt : DateTime) : Type 0 where
  year : pos (stamp_of nanos).year ≡ dt.date.year
  month : (stamp_of nanos).month ≡ dt.date.month
  day : (stamp_of nanos).day ≡ dt.date.day
  hour : (stamp_of nanos).hour ≡ dt.time.hour
  minute : (stamp_of nanos).minute ≡ dt.time.minute
  second : (stamp_of nanos).second ≡ dt.time.second

is_clock : (dt : DateTime) (nanos : ℤ) → IsInRange nanos → civil_nanos dt ≡ nanos → IsClock nanos dt
unfolding stamp_of
is_clock dt nanos range same =
    let number : epoch_day dt.date ≡ int_div_euclid nanos (pos 86_400_000_000_000) = epoch_day-civil_nanos dt ∙ ap (λ (z : ℤ). int_div_euclid z (pos 86_400_000_000_000)) same in
    let clock : time_nanos dt.time ≡ unsigned_abs (int_rem_euclid nanos (pos 86_400_000_000_000)) = omega (arith, signed_arith, civil_nanos-parts dt, time_nanos_bound dt.time) in
    let parts = date_parts dt.date _ (day_is dt nanos range same) in
    let t = dt.time in
    record {
      year = ap (λ z. pos (year_of z)) (sym number) ∙ parts.0;
      month = ap month_of (sym number) ∙ parts.1;
      day = ap day_of (sym number) ∙ parts.2;
      hour = ap (λ n. n / 3_600_000_000_000) (sym clock) ∙ omega (arith, t.minute_in, t.second_in, t.subsec_in);
      minute = ap (λ n. n / 60_000_000_000 % 60) (sym clock) ∙ omega (arith, t.minute_in, t.second_in, t.subsec_in);
      second = ap (λ n. n / 1_000_000_000 % 60) (sym clock) ∙ omega (arith, t.second_in, t.subsec_in);
    }

-- ---- what is shown of it

abbrev ShowsStamp : ℤ → Context → Type 0
ShowsStamp nanos cx = Shows (stamp_of nanos).year (stamp_of nanos).month (stamp_of nanos).day (stamp_of nanos).hour (stamp_of nanos).minute (stamp_of nanos).second cx

utc_shows : (nanos : ℤ) → ShowsStamp nanos (utc_context nanos)
utc_shows nanos = record { year_is = refl; month_is = refl; day_is = refl; hour_is = refl; minute_is = refl; second_is = refl; offset_is = refl }

parts_show : (nanos : ℤ) (tm : BrokenDownTime) (cx : Context) → IsInRange nanos → IsInstantParts nanos (parts_of tm) → cx.parts ≡ parts_of tm → ShowsStamp nanos cx
parts_show nanos tm cx range shown same =
    let clock = is_clock shown.0 nanos range shown.1 in
    let parts = same ∙ shown.2 in
    record {
      year_is = ap (λ p. p.year) parts ∙ ap Some (sym clock.year);
      month_is = ap (λ p. p.month) parts ∙ ap Some (sym clock.month);
      day_is = ap (λ p. p.day) parts ∙ ap Some (sym clock.day);
      hour_is = ap (λ p. p.hour) parts ∙ ap Some (sym clock.hour);
      minute_is = ap (λ p. p.minute) parts ∙ ap Some (sym clock.minute);
      second_is = ap (λ p. p.second) parts ∙ ap Some (sym clock.second);
      offset_is = ap (λ p. p.offset) parts;
    }

stamp_is_small : (nanos : ℤ) (dt : DateTime) → IsClock nanos dt → AreSmall (stamp_of nanos).year (stamp_of nanos).month (stamp_of nanos).day (stamp_of nanos).hour (stamp_of nanos).minute (stamp_of nanos).second
stamp_is_small nanos dt clock = record {
  year_in = omega (arith, signed_arith, clock.year, dt.date.year_in);
  month_in = omega (arith, clock.month, dt.date.month_in);
  day_in = omega (arith, clock.day, dt.date.day_in, days_in_month_bounds dt.date.year dt.date.month);
  hour_in = omega (arith, clock.hour, dt.time.hour_in);
  minute_in = omega (arith, clock.minute, dt.time.minute_in);
  second_in = omega (arith, clock.second, dt.time.second_in);
}

-- how `StrftimeGives` tells the parts and the way in which they are shown
pub record IsInstant (nanos : ℤ) (config : Config) (tm : BrokenDownTime) : Type 0 where
  pub range : IsInRange nanos
  pub locale : config.locale ≡ Default
  pub lenient : config.lenient ≡ true
  pub parts : IsInstantParts nanos (parts_of tm)

text_at : (format : List ℕ) (nanos : ℤ) (config : Config) (tm : BrokenDownTime) (cx : Context) → is_shown_format format ≡ true → IsInstant nanos config tm → cx.parts ≡ parts_of tm
    → FormatShows config cx (utc_context nanos) (length format) format []
text_at format nanos config tm cx accepted is same =
    let st = stamp_of nanos in
    let small = stamp_is_small nanos is.parts.0 (is_clock is.parts.0 nanos is.range is.parts.1) in
    format_shows config cx (utc_context nanos) is.lenient (letter_shows config st.year st.month st.day st.hour st.minute st.second cx (utc_context nanos) small (parts_show nanos tm cx is.range is.parts same) (utc_shows nanos))
    (length format) format [] (sym (known_is [] format) ∙ accepted) ([], (refl, refl))

plainly : (config : Config) → config.locale ≡ Default → config.lenient ≡ true → config ≡ shown_plainly
plainly config locale lenient = ap (λ l. record { locale = l; lenient = config.lenient }) locale ∙ ap (λ b. record { locale = Default; lenient = b }) lenient

same_text : (a b : List ℕ) → (let r : Shown = Ok a in r ≡ Ok b) → a ≡ b
same_text a b is = ap text_or_none is

-- the text that is shown
shown_is : (format text : List ℕ) (nanos : ℤ) (config : Config) (tm : BrokenDownTime) → is_shown_format format ≡ true → IsInstant nanos config tm → IsShownAs config format tm (Ok text) → text ≡ shown_by format nanos
shown_is format text nanos config tm accepted is shown =
    let told = text_at format nanos config tm shown.context accepted is shown.is_context.parts in
    same_text text told.text (sym shown.shown_is ∙ told.first) ∙ sym (ap text_or_none (ap (λ c. show_format c format (utc_context nanos)) (sym (plainly config is.locale is.lenient)) ∙ told.second))

-- nothing else is answered but want of memory
no_fault : (format : List ℕ) (e : Error) (nanos : ℤ) (config : Config) (tm : BrokenDownTime) → is_shown_format format ≡ true → IsInstant nanos config tm → IsBadText e config format tm ⊎ IsShownAs config format tm (Err e) → ⊥
no_fault format e nanos config tm accepted is (inl bad) =
    let told = text_at format nanos config tm bad.shown_as.context accepted is bad.shown_as.is_context.parts in
    bad.no_text (subst IsUtf8 (sym (same_text bad.shown told.text (sym bad.shown_as.shown_is ∙ told.first))) told.utf8)
no_fault format e nanos config tm accepted is (inr shown) =
    let told = text_at format nanos config tm shown.context accepted is shown.is_context.parts in
    let both : Err e ≡ Ok told.text = sym shown.shown_is ∙ told.first in absurd cc

-- ---- what strftime answers

pub text_is : {S : Type 0} (bytes : S → List ℕ) (format : List ℕ) (nanos : ℤ) (r : Result S Error) (s : S) → is_shown_format format ≡ true → IsInRange nanos
    → StrftimeGives bytes format (IsInstantParts nanos) r → r ≡ Ok s → bytes s ≡ shown_by format nanos
text_is bytes format nanos (Ok t) s accepted range gives is =
    ap (λ r. match_result r bytes (λ e. bytes t)) (sym is) ∙ shown_is format (bytes t) nanos gives.0 gives.3 accepted (record { range = range; locale = gives.1; lenient = gives.2; parts = gives.4 }) gives.5
text_is bytes format nanos (Err e) s accepted range gives is = absurd cc

only_memory : (e : Error) (Fault : Type 0) → (Fault → ⊥) → (e ≡ OutOfMemory) ⊎ Fault → e ≡ OutOfMemory
only_memory e Fault none (inl is) = is
only_memory e Fault none (inr fault) = absurd (none fault)

pub fault_is : {S : Type 0} (bytes : S → List ℕ) (format : List ℕ) (nanos : ℤ) (r : Result S Error) (e : Error) → is_shown_format format ≡ true → IsInRange nanos
    → StrftimeGives bytes format (IsInstantParts nanos) r → r ≡ Err e → e ≡ OutOfMemory
fault_is bytes format nanos (Ok t) e accepted range gives is = absurd cc
fault_is bytes format nanos (Err f) e accepted range gives is =
    ap (λ r. match_result r (λ s. f) (λ g. g)) (sym is) ∙ only_memory f _ (no_fault format f nanos gives.0 gives.3 accepted (record { range = range; locale = gives.1; lenient = gives.2; parts = gives.4 })) gives.6
