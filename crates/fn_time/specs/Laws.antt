-- The functions of time keep the law.
use Rattle.std.specs.Prelude.{◌≡◌, ℕ, ℤ, pos, Bool, true, false, List, [], Option, Some, None, codes, IfSome, IsTrue, refl}
use Rattle.std.specs.Int.{int_div_euclid}
use Rattle.std.proofs.Common.{sym, subst}
use Rattle.std.proofs.lemmas.Bool.{and_parts, true≢false}
use Rattle.vrl_value.specs.Tree.{Tree, string, integer, boolean, null, timestamp, regex, array, object}
use Rattle.vrl_value.specs.declared.value.Tag.TheVariants.{Int, Text, Time}
use Rattle.vrl_kind.specs.KindTree.{KindTree}
use Rattle.vrl_kind.specs.Kinds.{only_at}
use Rattle.vrl_builtin.specs.Conditions.{IsLiteral}
use Rattle.vrl_builtin.specs.Law.{IsOfGiven, KeepsLaw}
use Rattle.vrl_builtin.specs.OneTag.{IsOneTag, KeepsOneTag}
use Rattle.vrl_builtin.specs.OneTagLaw.{one_tag_is_lawful, plain_is_lawful}
use Rattle.vrl_builtin.specs.Rows.{value, failure, argument_at, integer_at, is_text_of, kind_at, literal_at, text_at, text_or, told}
use Rattle.vrl_builtin.proofs.Lawful.{choice_is, told_is_one_tag}
use Rattle.fn_time.specs.FormatTimestamp.{format_timestamp_row, moment_at}
use Rattle.fn_time.specs.FromUnixTimestamp.{from_unix_timestamp_row, moment_after}
use Rattle.fn_time.specs.Now.{now_row}
use Rattle.fn_time.specs.ParseTimestamp.{parse_timestamp_row}
use Rattle.fn_time.specs.Read.{moment_read}
use Rattle.fn_time.specs.Shown.{text_shown}
use Rattle.fn_time.specs.ToUnixTimestamp.{counted, is_out, may_be_out, to_unix_timestamp_row}
use Rattle.fn_time.specs.Unit.{is_nanoseconds, is_unit, nanos_in}

pub now-law : KeepsOneTag now_row
now-law = record { present = refl; lawful = λ givens arguments setting fit instances. (tt, refl) }

-- ---- a moment, or none

moment_is_one_tag : (words : List ℕ) (moment : Option ℤ) → IsOneTag Time true (told timestamp words moment)
moment_is_one_tag words moment = told_is_one_tag timestamp Time words moment true (λ nanos. (tt, refl)) (λ none. refl)

pub parse_timestamp-law : KeepsLaw parse_timestamp_row
parse_timestamp-law = record {
  present = λ givens sources given below. refl;
  lawful = λ givens arguments setting given fit instances below.
      let moment = moment_read (text_at 1 [] arguments) (text_at 0 [] arguments) in
      one_tag_is_lawful Time true (codes "parse_timestamp") arguments (told timestamp (codes "no match") moment)
      (moment_is_one_tag (codes "no match") moment);
}

pub from_unix_timestamp-law : KeepsLaw from_unix_timestamp_row
from_unix_timestamp-law = record {
  present = λ givens sources given below. refl;
  lawful = λ givens arguments setting given fit instances below.
      let moment = moment_after (text_at 1 (codes "seconds") arguments) (integer_at 0 (pos 0) arguments) in
      one_tag_is_lawful Time true (codes "from_unix_timestamp") arguments
      (told timestamp (codes "out of range") moment) (moment_is_one_tag (codes "out of range") moment);
}

-- ---- format_timestamp

pub format_timestamp-law : KeepsLaw format_timestamp_row
format_timestamp-law = record {
  present = λ givens sources given below. refl;
  lawful = λ givens arguments setting given fit instances below.
      plain_is_lawful (string (text_shown (text_at 1 [] arguments) (moment_at 0 arguments)))
      (only_at Text) false arguments tt refl;
}

-- ---- to_unix_timestamp: more than 64 bits hold are nanoseconds alone

literal_out : (w : Tree) → is_nanoseconds (text_or (codes "seconds") (Some w)) ≡ true
    → is_text_of is_nanoseconds w ≡ true
literal_out (string s) is = is
literal_out (integer n) is = absurd (true≢false (sym is))
literal_out (boolean b) is = absurd (true≢false (sym is))
literal_out null is = absurd (true≢false (sym is))
literal_out (timestamp nanos) is = absurd (true≢false (sym is))
literal_out (regex n) is = absurd (true≢false (sym is))
literal_out (array ts) is = absurd (true≢false (sym is))
literal_out (object ms) is = absurd (true≢false (sym is))

out_fails : (K : Option KindTree) (literal argument : Option Tree) → IsOfGiven K argument
    → IfSome K (λ given. IsLiteral true (is_text_of is_unit) literal)
    → IfSome literal (λ v. argument ≡ Some v) → is_nanoseconds (text_or (codes "seconds") argument) ≡ true
    → IsTrue (may_be_out literal)
out_fails None literal None of given same is = absurd (true≢false (sym is))
out_fails None literal (Some v) of given same is = absurd of
out_fails (Some K) literal None of given same is = absurd of
out_fails (Some K) None (Some v) of given same is = absurd (true≢false (sym given.0))
out_fails (Some K) (Some w) (Some v) of given same is =
    literal_out w (subst (λ a. is_nanoseconds (text_or (codes "seconds") a) ≡ true) same is)

counted_is_one_tag : (unit : List ℕ) (nanos : ℤ) (fails : Bool) → (is_out unit nanos ≡ true → IsTrue fails)
    → IsOneTag Int fails (counted unit nanos)
counted_is_one_tag unit nanos fails fail =
    choice_is (IsOneTag Int fails) (is_out unit nanos) (failure (codes "out of range"))
    (value (integer (int_div_euclid nanos (pos (nanos_in unit))))) fail (λ other. (tt, refl))

pub to_unix_timestamp-law : KeepsLaw to_unix_timestamp_row
to_unix_timestamp-law = record {
  present = λ givens sources given below. refl;
  lawful = λ givens arguments setting given fit instances below.
      let unit = text_at 1 (codes "seconds") arguments in let fails = may_be_out (literal_at 1 givens) in
      one_tag_is_lawful Int fails (codes "to_unix_timestamp") arguments (counted unit (moment_at 0 arguments))
      (counted_is_one_tag unit (moment_at 0 arguments) fails (λ out.
      out_fails (kind_at 1 givens) (literal_at 1 givens) (argument_at 1 arguments)
      (instances.kinds 1) given.1.0.allowed (instances.literals 1) (and_parts (is_nanoseconds unit) _ out).0));
}
