-- The functions that never fail keep the law.
use Rattle.std.specs.Prelude.{ℕ, false, List, map, Option, Some, None, refl}
use Rattle.vrl_value.specs.Tree.{Tree, string}
use Rattle.vrl_value.specs.View.{items_of_trees}
use Rattle.vrl_value.specs.declared.value.Tag.TheVariants as tag
use Rattle.vrl_kind.specs.Kinds.{only_at}
use Rattle.vrl_builtin.specs.Law.{IsLawful, KeepsLaw}
use Rattle.vrl_builtin.specs.OneTag.{KeepsOneTag}
use Rattle.vrl_builtin.specs.OneTagLaw.{plain_is_lawful}
use Rattle.vrl_builtin.specs.Rows.{value}
use Rattle.vrl_builtin.proofs.Containers.{array_is_lawful, each_text, plain_part, EachItem, IsLawfulPart}
use Rattle.fn_search.specs.Find.{find_row, number_or_null, number_or_null_kind}
use Rattle.fn_search.specs.Match.{match_row}
use Rattle.fn_search.specs.Replace.{replace_row}
use Rattle.fn_search.specs.Split.{split_row}

pub match-law : KeepsOneTag match_row
match-law = record { present = refl; lawful = λ givens arguments setting fit instances. (tt, refl) }

pub replace-law : KeepsOneTag replace_row
replace-law = record { present = refl; lawful = λ givens arguments setting fit instances. (tt, refl) }

number_is_lawful : (o : Option ℕ) (arguments : List (Option Tree))
    → IsLawful number_or_null_kind false arguments (value (number_or_null o))
number_is_lawful None arguments = plain_is_lawful (number_or_null None) number_or_null_kind false arguments tt refl
number_is_lawful (Some n) arguments =
    plain_is_lawful (number_or_null (Some n)) number_or_null_kind false arguments tt refl

pub find-law : KeepsLaw find_row
find-law = record {
  present = λ givens sources given below. refl;
  lawful = λ givens arguments setting given fit instances below. number_is_lawful _ arguments;
}

texts_are_lawful : (ss : List (List ℕ)) (arguments : List (Option Tree))
    → EachItem (IsLawfulPart (only_at tag.Text) arguments) (items_of_trees (map string ss))
texts_are_lawful ss arguments = each_text (IsLawfulPart (only_at tag.Text) arguments) ss
    (λ s. plain_part (only_at tag.Text) arguments (string s) tt refl)

pub split-law : KeepsLaw split_row
split-law = record {
  present = λ givens sources given below. refl;
  lawful = λ givens arguments setting given fit instances below. array_is_lawful (only_at tag.Text) false arguments _
      (texts_are_lawful _ arguments);
}
