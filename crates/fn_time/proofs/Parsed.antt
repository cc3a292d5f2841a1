-- What jiff's strptime reads under a format of the seven parts is the moment that they name.
use Rattle.std.proofs.Common.{◌≡◌, ℕ, ◌<◌, ◌==◌, inl, inr, Bool, true, false, List, [], length, Option, Some, None, is_some, option_map, Result, Ok, Err, refl, sym, ap, subst, ◌∙◌, arith, eqb-true, ℤ, pos, ◌-ℤ◌, if◌then◌else◌}
use Rattle.std.proofs.lemmas.Bool.{and_parts, true≢false}
use Rattle.std.specs.List.{list_all}
use Rattle.std.specs.Option.{unwrap_or}
use Rattle.std.specs.Result.{result_ok}
use Rattle.jiff.specs.Strtime.{IsPlainInstant, Parsed, RefusedUnless}
use Rattle.jiff.specs.Types.{Date, DateTime}
use Rattle.jiff.specs.Words.{civil_nanos, nanos_of_seconds, parse_text, no_parts, parts_of, IsDate, IsDateTimeOf, IsFromParts, IsInstantOf, IsTime, IsTimestampNanos, Parts}
use Rattle.jiff_core.specs.declared.civil.time.Time.{Time}
use Rattle.jiff_core.specs.declared.error.Error.{Error}
use Rattle.jiff_core.specs.declared.error.Error.TheVariants.{Parse}
use Rattle.jiff_core.specs.declared.error.Syntax.TheVariants.{Trailing}
use Rattle.jiff_core.specs.declared.offset.Offset.{Offset}
use Rattle.jiff_core.specs.declared.timestamp.Timestamp.{Timestamp}
use Rattle.jiff_core.proofs.DateTimeLemmas.{civil_nanos-parts}
use Rattle.jiff_core.proofs.SignedLemmas.{signed_arith}
use Rattle.jiff_strtime.specs.Civil.{option_seconds, HasYmd}
use Rattle.jiff_strtime.specs.Number.{match_result}
use Rattle.jiff_strtime.specs.Reader.{read_steps, Step}
use Rattle.jiff_strtime.specs.declared.tm.BrokenDownTime.{BrokenDownTime}
use Rattle.vrl_value.specs.Moment.{IsInRange}
use Rattle.vrl_value.specs.Scan.{◌>>=◌}
use Rattle.vrl_value.proofs.Spelled.{by_some}
use Rattle.fn_time.specs.Clock.{clock_nanos, is_in_range, moment_at, moment_on_clock}
use Rattle.fn_time.specs.Format.{is_read_format, is_shown_format, part_letters, times_in}
use Rattle.fn_time.specs.Read.{moment_of, read_by}
use Rattle.fn_time.proofs.Clocks.{in_range, is_on, on_clock}
use Rattle.fn_time.proofs.Goes.{format_reads}
use Rattle.fn_time.proofs.Letters.{known_is, times_from, times_is}
use Rattle.fn_time.proofs.Steps.{others}

-- ---- the parts that are read

-- nothing but the seven, of which the time is there
pub record IsBareRead (p : Parts) : Type 0 where
  pub bare : others p ≡ no_parts
  pub hour : is_some p.hour ≡ true
  pub minute : is_some p.minute ≡ true
  pub second : is_some p.second ≡ true

by_parsed : {R : Type 0} (r : Step) (p : Parts) → match_result r (λ x. if length x.1 == 0 then Ok x.0 else Err (Parse Trailing)) (λ e. Err e) ≡ Ok p → ((rest : List ℕ) → r ≡ Ok (p, rest) → R) → R
by_parsed {R} (Ok x) p is go = ended (length x.1 == 0) is where
  ended : (end : Bool) → (let r : Result Parts Error = if end then Ok x.0 else Err (Parse Trailing) in r ≡ Ok p) → R
  ended true same = go x.1 (ap (λ (r : Result Parts Error). match_result {B = Step} r (λ q. Ok (q, x.1)) (λ e. Err e)) same)
  ended false same = absurd cc
by_parsed (Err e) p is go = absurd cc

stands : (letter : ℕ) (format : List ℕ) → (times_in letter [] format == 1) ≡ true → 0 < times_from letter false format
stands letter format once = let times : times_from letter false format ≡ 1 = sym (times_is letter [] format) ∙ eqb-true (times_in letter [] format) 1 once in omega (arith, times)

pub format_is_bare : (format text : List ℕ) (p : Parts) → is_read_format format ≡ true → parse_text format text ≡ Ok p → IsBareRead p
format_is_bare format text p accepted is =
    let both = and_parts (is_shown_format format) (list_all (λ letter. times_in letter [] format == 1) part_letters) accepted in
    let year = and_parts (times_in 89 [] format == 1) _ both.1 in
    let month = and_parts (times_in 109 [] format == 1) _ year.1 in
    let day = and_parts (times_in 100 [] format == 1) _ month.1 in
    let hour = and_parts (times_in 72 [] format == 1) _ day.1 in
    let minute = and_parts (times_in 77 [] format == 1) _ hour.1 in
    let second = and_parts (times_in 83 [] format == 1) _ minute.1 in
    by_parsed (read_steps (length format) format text no_parts) p is (λ rest steps.
    let reads = format_reads (length format) format text rest no_parts p (sym (known_is [] format) ∙ both.0) (omega arith) steps in
    record { bare = reads.goes.same; hour = reads.set 72 (stands 72 format hour.0); minute = reads.set 77 (stands 77 format minute.0); second = reads.set 83 (stands 83 format second.0) })

-- ---- what they name

map_none : {A B : Type 0} (f : A → B) (o : Option A) → option_map f o ≡ None → o ≡ None
map_none f None is = refl
map_none f (Some a) is = absurd cc

map_some : {A B : Type 0} (f : A → B) (o : Option A) (b : B) → option_map f o ≡ Some b → (a : A) × (o ≡ Some a) × (f a ≡ b)
map_some f None b is = absurd cc
map_some f (Some a) b is = (a, refl, cc)

not_both : {A : Type 0} (o : Option A) (a : A) → o ≡ None → o ≡ Some a → ⊥
not_both o a none some = cc

is_held : (o : Option ℕ) (n : ℕ) → is_some o ≡ true → n ≡ unwrap_or o 0 → o ≡ Some n
is_held None n there is = absurd (true≢false (sym there))
is_held (Some m) n there is = ap Some (sym is)

has_ymd : (t : BrokenDownTime) (d : Date) → IsBareRead (parts_of t) → IsFromParts t d → HasYmd t d
has_ymd t d read (inl ymd) = ymd
has_ymd t d read (inr (inl iso)) = absurd (not_both t.iso_week_year iso.year (ap (λ p. p.iso_week_year) read.bare) iso.year_is)
has_ymd t d read (inr (inr (inl ordinal))) = absurd (not_both t.day_of_year _ (ap (λ p. p.day_of_year) read.bare) ordinal.1)
has_ymd t d read (inr (inr (inr (inl sunday)))) = absurd (not_both t.week_sun sunday.number (ap (λ p. p.week_sun) read.bare) sunday.number_is)
has_ymd t d read (inr (inr (inr (inr monday)))) = absurd (not_both t.week_mon monday.number (ap (λ p. p.week_mon) read.bare) monday.number_is)

date_is : (d : Date) → IsDate d.year (pos d.month) (pos d.day)
date_is d = (omega (arith, signed_arith, d.year_in), omega (arith, signed_arith, d.month_in), omega (arith, signed_arith, d.day_in))

time_is : (t : Time) → IsTime (pos t.hour) (pos t.minute) (pos t.second) (pos 0)
time_is t = (omega (arith, signed_arith, t.hour_in), omega (arith, signed_arith, t.minute_in), omega (arith, signed_arith, t.second_in), omega (arith, signed_arith))

moment_named : (p : Parts) (year : ℤ) (month day hour minute second : ℕ) (offset : ℤ) → p.year ≡ Some year → p.month ≡ Some month → p.day ≡ Some day
    → p.hour ≡ Some hour → p.minute ≡ Some minute → p.second ≡ Some second → p.offset ≡ Some offset → moment_of p ≡ moment_on_clock year month day hour minute second 0 offset
moment_named p year month day hour minute second offset y m d h mi s o = rw (y, m, d, h, mi, s, o) refl

shown_nanos : (dt : DateTime) → dt.time.subsec_nanosecond ≡ 0 → clock_nanos dt.date.year dt.date.month dt.date.day dt.time.hour dt.time.minute dt.time.second 0 ≡ civil_nanos dt
shown_nanos dt none = sym (civil_nanos-parts dt ∙ rw none refl)

moment_of_parts : (t : BrokenDownTime) (dt : DateTime) (seconds : ℤ) → IsBareRead (parts_of t) → IsDateTimeOf t dt → option_seconds t ≡ Some seconds
    → moment_of (parts_of t) ≡ moment_at (civil_nanos dt -ℤ nanos_of_seconds seconds)
moment_of_parts t dt seconds read is offset =
    let ymd = has_ymd t dt.date read is.0.0 in
    let hour = is_held t.hour dt.time.hour read.hour is.1.0 in
    let minute = is_held t.minute dt.time.minute read.minute is.1.1 in
    let second = is_held t.second dt.time.second read.second is.1.2 in
    let none : dt.time.subsec_nanosecond ≡ 0 = is.1.3 ∙ ap (λ o. unwrap_or o 0) (ap (λ p. p.subsec) read.bare) in
    moment_named (parts_of t) dt.date.year dt.date.month dt.date.day dt.time.hour dt.time.minute dt.time.second seconds ymd.0 ymd.1 ymd.2 hour minute second offset
    ∙ on_clock dt.date.year dt.date.month dt.date.day dt.time.hour dt.time.minute dt.time.second 0 seconds (civil_nanos dt -ℤ nanos_of_seconds seconds) (date_is dt.date) (time_is dt.time)
    (ap (λ z. z -ℤ nanos_of_seconds seconds) (shown_nanos dt none))

-- ---- what strptime answers

abbrev named_by : Result Parts Error → Option ℤ
named_by r = result_ok r >>= moment_of

instant_named : (t : BrokenDownTime) (x : Timestamp) → IsBareRead (parts_of t) → IsInstantOf t x → moment_of (parts_of t) ≡ moment_at x.nanosecond
instant_named t x read (inl held) = absurd (not_both t.timestamp x (map_none (λ s. s.nanosecond) t.timestamp (ap (λ p. p.timestamp) read.bare)) held)
instant_named t x read (inr at) = moment_of_parts t at.dt at.seconds read at.of_parts at.offset ∙ ap moment_at (sym at.nanosecond)

pub ok_is : (format text : List ℕ) (x : Timestamp) → is_read_format format ≡ true → Parsed format text (λ t. IsInstantOf t x) → read_by format text ≡ moment_at x.nanosecond
ok_is format text x accepted parsed =
    ap named_by (sym parsed.1) ∙ instant_named parsed.0 x (format_is_bare format text (parts_of parsed.0) accepted (sym parsed.1)) parsed.2

timestamp_range : (nanos : ℤ) → IsInRange nanos → IsTimestampNanos nanos
timestamp_range nanos range = (omega (arith, signed_arith, range), omega (arith, signed_arith, range))

ranged : (nanos found : ℤ) (b : Bool) → is_in_range nanos ≡ b → (if b then Some nanos else None) ≡ Some found → IsInRange nanos
ranged nanos found true is same = in_range nanos is
ranged nanos found false is same = absurd cc

plain_instant : (t : BrokenDownTime) (nanos : ℤ) → IsBareRead (parts_of t) → moment_of (parts_of t) ≡ Some nanos → IsPlainInstant t
plain_instant t nanos read is =
    by_some t.year _ nanos is (λ year year_is a.
    by_some t.month _ nanos a (λ month month_is b.
    by_some t.day _ nanos b (λ day day_is d.
    by_some t.hour _ nanos d (λ hour hour_is e.
    by_some t.minute _ nanos e (λ minute minute_is f.
    by_some t.second _ nanos f (λ second second_is g.
    by_some (option_seconds t) _ nanos g (λ seconds seconds_is made.
    let on = is_on year month day hour minute second 0 seconds nanos made in
    let offset = map_some (λ (o : Offset). o.seconds) t.offset seconds seconds_is in
    let none : t.subsec ≡ None = ap (λ p. p.subsec) read.bare in (
      record { year = year; month = month; day = day; year_is = year_is; month_is = month_is; day_is = day_is; no_weekday = map_none _ t.weekday (ap (λ p. p.weekday) read.bare); valid = on.date },
      record { hour = hour; minute = minute; second = second; hour_is = hour_is; minute_is = minute_is; second_is = second_is; valid = subst (λ n. IsTime (pos hour) (pos minute) (pos second) (pos n)) (sym (ap (λ o. unwrap_or o 0) none)) on.time },
      record {
        offset = offset.0;
        offset_is = offset.1;
        in_range = λ dt of_parts.
            let instant = civil_nanos dt -ℤ nanos_of_seconds offset.0.seconds in
            timestamp_range instant (ranged instant nanos (is_in_range instant) refl (sym (moment_of_parts t dt offset.0.seconds read of_parts (ap (option_map (λ (o : Offset). o.seconds)) offset.1)) ∙ is));
      },
    ))))))))

no_moment : (t : BrokenDownTime) (found : Option ℤ) → IsBareRead (parts_of t) → ¬ (IsPlainInstant t) → moment_of (parts_of t) ≡ found → moment_of (parts_of t) ≡ None
no_moment t (Some nanos) read other is = absurd (other (plain_instant t nanos read is))
no_moment t None read other is = is

pub err_is : (format text : List ℕ) (e : Error) → is_read_format format ≡ true → RefusedUnless format text IsPlainInstant e → read_by format text ≡ None
err_is format text e accepted (inl refused) = ap named_by refused
err_is format text e accepted (inr parsed) =
    ap named_by (sym parsed.1) ∙ no_moment parsed.0 (moment_of (parts_of parsed.0)) (format_is_bare format text (parts_of parsed.0) accepted (sym parsed.1)) parsed.2 refl
