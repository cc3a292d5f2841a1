-- The text of a moment: by RFC 3339, or under a format.
use Rattle.std.specs.Prelude.{ℕ, true, ℤ, pos, List, [], Some, Ok, Err, if◌then◌else◌}
use Rattle.jiff.specs.Words.{no_parts, Parts}
use Rattle.jiff_core.specs.declared.error.Error.TheVariants.{Missing}
use Rattle.jiff_core.specs.declared.error.Part.TheVariants.{Date, Instant}
use Rattle.jiff_strtime.specs.Show.{show_format, Context, Shown}
use Rattle.jiff_strtime.specs.declared.directive.Config.{Config}
use Rattle.jiff_strtime.specs.declared.directive.Locale.TheVariants.{Default}
use Rattle.vrl_value.specs.MomentText.{moment_text, stamp_of}
use Rattle.fn_time.specs.Read.{is_rfc_3339}

-- the seven parts of what a clock in UTC shows
abbrev pub utc_parts : ℤ → Parts
utc_parts nanos = record no_parts {
  year = Some (pos (stamp_of nanos).year);
  month = Some (stamp_of nanos).month;
  day = Some (stamp_of nanos).day;
  hour = Some (stamp_of nanos).hour;
  minute = Some (stamp_of nanos).minute;
  second = Some (stamp_of nanos).second;
  offset = Some (pos 0);
}

-- with nothing more worked out of them, as no conversion of the eight asks for it
abbrev pub utc_context : ℤ → Context
utc_context nanos = record {
  parts = utc_parts nanos;
  date = Err (Missing Date);
  iso = Err (Missing Date);
  second = Err
      (Missing Instant);
}

-- as the methods of jiff's types show them
abbrev pub shown_plainly : Config
shown_plainly = record { locale = Default; lenient = true }

abbrev pub text_or_none : Shown → List ℕ
text_or_none (Ok text) = text
text_or_none (Err e) = []

-- what jiff's strftime shows of a clock in UTC under the format
abbrev pub shown_by : List ℕ → ℤ → List ℕ
shown_by format nanos = text_or_none (show_format shown_plainly format (utc_context nanos))

abbrev pub text_shown : List ℕ → ℤ → List ℕ
text_shown format nanos = if is_rfc_3339 format then moment_text nanos else shown_by format nanos
