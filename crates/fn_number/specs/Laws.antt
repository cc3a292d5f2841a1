-- The functions of whole numbers keep the law.
use Rattle.std.specs.Prelude.{◌≡◌, ℕ, ℤ, pos, true, false, not, List, [], Option, Some, None, codes, int_rem, unsigned_abs, IfSome, IsTrue, refl}
use Rattle.std.proofs.Common.{sym, ◌∙◌, ap}
use Rattle.std.specs.Ordering.{int_eq}
use Rattle.vrl_value.specs.Tree.{Tree, string, integer}
use Rattle.vrl_value.specs.declared.value.Tag.TheVariants.{Int, Text}
use Rattle.vrl_kind.specs.KindTree.{KindTree}
use Rattle.vrl_builtin.specs.Law.{IsOfGiven}
use Rattle.vrl_builtin.specs.OneTag.{IsOneTag, KeepsOneTag}
use Rattle.vrl_builtin.specs.Rows.{value, failure, integer_or, integer_at, argument_at, kind_at, literal_at, optional_integer, text_at}
use Rattle.vrl_builtin.specs.Numeral.{read_in}
use Rattle.vrl_builtin.proofs.Lawful.{choice_is, told_is_one_tag}
use Rattle.fn_number.specs.Abs.{abs_row}
use Rattle.fn_number.specs.FormatInt.{format_int_row, may_be_bad}
use Rattle.fn_number.specs.Mod.{may_be_zero, mod_row}
use Rattle.fn_number.specs.Numeral.{is_base, read_by_prefix, written_in}
use Rattle.fn_number.specs.ParseInt.{parse_int_row, parsed, read}

pub abs-law : KeepsOneTag abs_row
abs-law = record { present = refl; lawful = λ givens arguments setting fit instances. (tt, refl) }

-- ---- mod

mod_fails : (literal argument : Option Tree) → IfSome literal (λ v. argument ≡ Some v)
    → int_eq (integer_or (pos 0) argument) (pos 0) ≡ true → IsTrue (may_be_zero literal)
mod_fails None argument same zero = refl
mod_fails (Some (integer n)) argument same zero = sym (ap (λ a. int_eq (integer_or (pos 0) a) (pos 0)) same) ∙ zero
mod_fails (Some v) argument same zero = refl

pub mod-law : KeepsOneTag mod_row
mod-law = record {
  present = refl;
  lawful = λ givens arguments setting fit instances.
      let n = integer_at 0 (pos 0) arguments in let m = integer_at 1 (pos 0) arguments in let fails = may_be_zero
      (literal_at 1 givens) in
      choice_is (IsOneTag Int fails) (int_eq m (pos 0)) (failure (codes "modulus is 0")) (value (integer (int_rem n m)))
      (mod_fails (literal_at 1 givens) (argument_at 1 arguments) (instances.literals 1)) (λ other. (tt, refl));
}

-- ---- format_int

format_fails : (K : Option KindTree) (literal argument : Option Tree) → IsOfGiven K argument
    → IfSome literal (λ v. argument ≡ Some v) → is_base (integer_or (pos 10) argument) ≡ false
    → IsTrue (may_be_bad K literal)
format_fails None None None of same bad = sym bad
format_fails None None (Some v) of same bad = absurd of
format_fails (Some K) None argument of same bad = refl
format_fails K (Some (integer base)) argument of same bad =
    ap not (sym (ap (λ a. is_base (integer_or (pos 10) a)) same) ∙ bad)
format_fails K (Some v) argument of same bad = refl

pub format_int-law : KeepsOneTag format_int_row
format_int-law = record {
  present = refl;
  lawful = λ givens arguments setting fit instances.
      let base = integer_at 1 (pos 10) arguments in let s = written_in (unsigned_abs base)
      (integer_at 0 (pos 0) arguments) in let fails = may_be_bad (kind_at 1 givens) (literal_at 1 givens) in
      choice_is (IsOneTag Text fails) (is_base base) (value (string s)) (failure (codes "bad base"))
      (λ good. (tt, refl))
      (format_fails (kind_at 1 givens) (literal_at 1 givens) (argument_at 1 arguments) (instances.kinds 1)
      (instances.literals 1));
}

-- ---- parse_int

read_is_one_tag : (number : Option ℤ) → IsOneTag Int true (read number)
read_is_one_tag number =
    told_is_one_tag integer Int (codes "not a whole number") number true (λ n. (tt, refl)) (λ none. refl)

parsed_is_one_tag : (text : List ℕ) (base : Option ℤ) → IsOneTag Int true (parsed text base)
parsed_is_one_tag text None = read_is_one_tag (read_by_prefix text)
parsed_is_one_tag text (Some base) =
    choice_is (IsOneTag Int true) (is_base base) (read (read_in (unsigned_abs base) text)) (failure (codes "bad base"))
    (λ good. read_is_one_tag (read_in (unsigned_abs base) text)) (λ bad. refl)

pub parse_int-law : KeepsOneTag parse_int_row
parse_int-law = record {
  present = refl;
  lawful = λ givens arguments setting fit instances. parsed_is_one_tag
      (text_at 0 [] arguments) (optional_integer 1 arguments);
}
