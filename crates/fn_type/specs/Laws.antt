-- The functions of types keep the law.
use Rattle.std.specs.Prelude.{◌≡◌, ℕ, true, false, List, [], Option, Some, None, codes, IfSome, IsSome, IsTrue, refl}
use Rattle.std.proofs.Common.{sym}
use Rattle.std.proofs.lemmas.Bool.{true≢false}
use Rattle.std.proofs.Math.Bool.{and-false}
use Rattle.vrl_value.specs.Tag.{tag_of}
use Rattle.vrl_value.specs.Tree.{Tree, string, integer, boolean, null, IsOrdered}
use Rattle.vrl_value.specs.declared.value.Tag.{Tag}
use Rattle.vrl_value.specs.declared.value.Tag.TheVariants as tag
use Rattle.vrl_kind.specs.KindTree.{KindTree}
use Rattle.vrl_kind.specs.Kinds.{tags_at}
use Rattle.vrl_kind.specs.Tags.{same_tag}
use Rattle.vrl_builtin.specs.CutDown.{allows_other, given_cut_to}
use Rattle.vrl_builtin.specs.Law.{KeepsLaw, IsLawful, IsOfGiven}
use Rattle.vrl_builtin.specs.OneTag.{KeepsOneTag}
use Rattle.vrl_builtin.specs.Rows.{value, failure, named, allows_tag, argument_at, kind_at, value_at, value_or}
use Rattle.vrl_builtin.specs.TagSets.{only_tag}
use Rattle.vrl_builtin.specs.Words.{value_is}
use Rattle.vrl_builtin.proofs.Lawful.{argument_is_lawful, choice_is, other_is_given, own_tag, tag_is_given, told_is_one_tag}
use Rattle.fn_type.specs.Is.{is_row}
use Rattle.fn_type.specs.IsEmpty.{is_empty_row}
use Rattle.fn_type.specs.IsNullish.{is_nullish_row}
use Rattle.fn_type.specs.Only.{only_answer, only_row}
use Rattle.fn_type.specs.ToBool.{to_bool_row, truth_of}
use Rattle.fn_type.specs.ToInt.{to_int_row, whole_number}
use Rattle.fn_type.specs.ToString.{to_string_row}

Some≢None : {A : Type 0} {a : A} → Some a ≡ None → ⊥
Some≢None is = cc

-- ---- tests of the value

pub is-law : (name : List ℕ) (t : Tag) → KeepsOneTag (is_row name t)
is-law name t = record { present = refl; lawful = λ givens arguments setting fit instances. (tt, refl) }

pub is_empty-law : KeepsOneTag is_empty_row
is_empty-law = record { present = refl; lawful = λ givens arguments setting fit instances. (tt, refl) }

pub is_nullish-law : KeepsOneTag is_nullish_row
is_nullish-law = record { present = refl; lawful = λ givens arguments setting fit instances. (tt, refl) }

pub to_string-law : KeepsOneTag to_string_row
to_string-law = record { present = refl; lawful = λ givens arguments setting fit instances. (tt, refl) }

-- ---- the value itself, where it has the tag

only_is_lawful : (name : List ℕ) (t : Tag) (K : Option KindTree) (argument : Option Tree)
    (arguments : List (Option Tree)) →
    argument_at 0 arguments ≡ argument → IsSome argument → IsOfGiven K argument → IfSome argument IsOrdered →
    IsLawful (given_cut_to (only_tag t) K) (allows_other t K) arguments
    (named name (only_answer t (value_or null argument)))
only_is_lawful name t K None arguments is there of ordered = absurd (true≢false (sym there))
only_is_lawful name t K (Some v) arguments is there of ordered =
    choice_is (λ answer. IsLawful (given_cut_to (only_tag t) K) (allows_other t K) arguments (named name answer))
    (same_tag (tag_of v) t) (value v) (failure (value_is (tag_of v)))
    (λ same. argument_is_lawful 0 v (only_tag t) K (allows_other t K) arguments is of ordered (own_tag v t same))
    (λ other. other_is_given t K v of other)

pub only_present : (t : Tag) (K : Option KindTree) → given_cut_to (only_tag t) K [] tag.Absent ≡ false
only_present t None = refl
only_present t (Some K) = and-false (tags_at K [] tag.Absent)

pub only-law : (name : List ℕ) (t : Tag) → KeepsLaw (only_row name t)
only-law name t = record {
  present = λ givens sources given below. only_present t (kind_at 0 givens);
  lawful = λ givens arguments setting given fit instances below.
      only_is_lawful name t (kind_at 0 givens) (argument_at 0 arguments) arguments refl fit.0.there (instances.kinds 0)
      (instances.ordered 0);
}

-- ---- what a value stands for; only a string may stand for nothing

truth_fails : (K : Option KindTree) (argument : Option Tree) → IsOfGiven K argument
    → truth_of (value_or null argument) ≡ None → IsTrue (allows_tag tag.Text K)
truth_fails K (Some (string s)) of none = tag_is_given K (string s) of
truth_fails K None of none = absurd (Some≢None none)
truth_fails K (Some v) of none = absurd (Some≢None none)

number_fails : (K : Option KindTree) (argument : Option Tree) → IsOfGiven K argument
    → whole_number (value_or null argument) ≡ None → IsTrue (allows_tag tag.Text K)
number_fails K (Some (string s)) of none = tag_is_given K (string s) of
number_fails K None of none = absurd (Some≢None none)
number_fails K (Some v) of none = absurd (Some≢None none)

pub to_bool-law : KeepsOneTag to_bool_row
to_bool-law = record {
  present = refl;
  lawful = λ givens arguments setting fit instances.
      told_is_one_tag boolean tag.Bool (codes "not a boolean word") (truth_of (value_at 0 arguments))
      (allows_tag tag.Text (kind_at 0 givens)) (λ b. (tt, refl))
      (truth_fails (kind_at 0 givens) (argument_at 0 arguments) (instances.kinds 0));
}

pub to_int-law : KeepsOneTag to_int_row
to_int-law = record {
  present = refl;
  lawful = λ givens arguments setting fit instances.
      told_is_one_tag integer tag.Int (codes "not a whole number") (whole_number (value_at 0 arguments))
      (allows_tag tag.Text (kind_at 0 givens)) (λ n. (tt, refl))
      (number_fails (kind_at 0 givens) (argument_at 0 arguments) (instances.kinds 0));
}
