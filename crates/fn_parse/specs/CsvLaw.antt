-- `parse_csv` keeps the law.
use Rattle.std.specs.Prelude.{◌≡◌, ℕ, Bool, List, [], ◌∷◌, map, Option, Some, None, codes, is_none, IsTrue, IfSome, refl}
use Rattle.std.specs.Str.Lossy.{utf8_lossy}
use Rattle.std.proofs.Common.{sym, ap, ◌∙◌}
use Rattle.vrl_value.specs.Tree.{Tree, string}
use Rattle.vrl_value.specs.View.{items_of_trees}
use Rattle.vrl_value.specs.declared.value.Tag.TheVariants as tag
use Rattle.vrl_kind.specs.KindTree.{KindTree}
use Rattle.vrl_kind.specs.Kinds.{only_at}
use Rattle.vrl_builtin.specs.Containers.{array_of}
use Rattle.vrl_builtin.specs.Law.{IsLawful, IsOfGiven, KeepsLaw}
use Rattle.vrl_builtin.specs.Rows.{named, argument_at, kind_at, literal_at, text_at, text_or}
use Rattle.vrl_builtin.proofs.Containers.{array_is_lawful, plain_part, EachItem, IsLawfulPart}
use Rattle.fn_parse.specs.Csv.{delimiter_of, first_row, may_be_bad, parse_csv_row, parsed_by}

bad_fails : (K : Option KindTree) (literal argument : Option Tree) → IsOfGiven K argument
    → IfSome literal (λ v. argument ≡ Some v) → delimiter_of (text_or (codes ",") argument) ≡ None
    → IsTrue (may_be_bad K literal)
bad_fails None None None of same none = absurd cc
bad_fails None None (Some v) of same none = absurd of
bad_fails (Some K) None argument of same none = refl
bad_fails K (Some (string s)) argument of same none =
    ap is_none (sym (ap (λ a. delimiter_of (text_or (codes ",") a)) same) ∙ none)
bad_fails K (Some v) argument of same none = refl

each_field : (P : Tree → Type 0) (fs : List (List ℕ)) → ((s : List ℕ) → P (string s))
    → EachItem P (items_of_trees (map (λ f. string (utf8_lossy f)) fs))
each_field P [] so = tt
each_field P (f ∷ fs) so = (so (utf8_lossy f), each_field P fs so)

parsed_lawful : (arguments : List (Option Tree)) (fails : Bool) (d : Option ℕ) (s : List ℕ) → (d ≡ None → IsTrue fails)
    → IsLawful (array_of (only_at tag.Text)) fails arguments (named (codes "parse_csv") (parsed_by d s))
parsed_lawful arguments fails None s fail = fail refl
parsed_lawful arguments fails (Some d) s fail =
    let A = only_at tag.Text in array_is_lawful A fails arguments _
    (each_field (IsLawfulPart A arguments) (first_row d s) (λ t. plain_part A arguments (string t) tt refl))

pub parse_csv-law : KeepsLaw parse_csv_row
parse_csv-law = record {
  present = λ givens sources given below. refl;
  lawful = λ givens arguments setting given fit instances below.
      parsed_lawful arguments (may_be_bad (kind_at 1 givens) (literal_at 1 givens))
      (delimiter_of (text_at 1 (codes ",") arguments)) (text_at 0 [] arguments)
      (bad_fails (kind_at 1 givens) (literal_at 1 givens) (argument_at 1 arguments) (instances.kinds 1)
      (instances.literals 1));
}
