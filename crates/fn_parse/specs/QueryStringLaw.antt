-- `parse_query_string` keeps the law.
use Rattle.std.specs.Prelude.{ℕ, false, ◌||◌, List, [], ◌∷◌, map, Option, Some, None, IsTrue, IfSome, refl}
use Rattle.std.proofs.lemmas.Bool.{or_right}
use Rattle.vrl_value.specs.Look.{raw_at, tag_found}
use Rattle.vrl_value.specs.Tree.{Tree, string, array, Members, MembersAreOrdered}
use Rattle.vrl_value.specs.View.{items_of_trees}
use Rattle.vrl_value.specs.declared.value.Tag.{Tag}
use Rattle.vrl_value.specs.declared.value.Tag.TheVariants as tag
use Rattle.vrl_value.proofs.Order.{put_ordered}
use Rattle.vrl_kind.specs.Kinds.{only_at}
use Rattle.vrl_kind.specs.Sets.{Sets, IsAllowed}
use Rattle.vrl_kind.specs.Tags.{Tags}
use Rattle.vrl_builtin.specs.Containers.{array_of, either}
use Rattle.vrl_builtin.specs.Law.{KeepsLaw}
use Rattle.vrl_builtin.specs.Rows.{text_at}
use Rattle.vrl_builtin.proofs.Containers.{array_is_lawful, each_put, each_text, object_is_lawful, plain_part, EachMember, IsLawfulPart}
use Rattle.fn_parse.specs.Pairs.{pairs_of}
use Rattle.fn_parse.specs.QueryString.{form_in, grouped, parse_query_string_row, tree_of_values, values_at, values_of}

if_second : (T U : Tags) (o : Option Tag) → IfSome o (λ t. IsTrue (U t)) → IfSome o (λ t. IsTrue (T t || U t))
if_second T U None is = tt
if_second T U (Some t) is = or_right (T t) (U t) is

second_allowed : (A B : Sets) (v : Tree) → IsAllowed v B → IsAllowed v (either A B)
second_allowed A B v of p = if_second (A p) (B p) (tag_found (raw_at v p)) (of p)

texts_part : (arguments : List (Option Tree)) (ss : List (List ℕ))
    → IsLawfulPart values_at arguments (array (items_of_trees (map string ss)))
texts_part arguments ss =
    let A = only_at tag.Text in
    let all = array_is_lawful A false arguments (items_of_trees (map string ss))
    (each_text (IsLawfulPart A arguments) ss (λ s. plain_part A arguments (string s) tt refl)) in
    record {
      allowed = second_allowed A (array_of A)
          (array (items_of_trees (map string ss))) all.0;
      ordered = all.1;
      regexes = all.2;
    }

values_part : (arguments : List (Option Tree)) (ss : List (List ℕ))
    → IsLawfulPart values_at arguments (tree_of_values ss)
values_part arguments [] = texts_part arguments []
values_part arguments (s ∷ []) = plain_part values_at arguments (string s) tt refl
values_part arguments (s ∷ t ∷ us) = texts_part arguments (s ∷ t ∷ us)

record AreGrouped (arguments : List (Option Tree)) (ms : Members) : Type 0 where
  pub each : EachMember (IsLawfulPart values_at arguments) ms
  pub ordered : MembersAreOrdered ms

groups : (arguments : List (Option Tree)) (all ps : List (List ℕ × List ℕ)) → AreGrouped arguments (grouped all ps)
groups arguments all [] = record { each = tt; ordered = tt }
groups arguments all (p ∷ ps) =
    let v = tree_of_values (values_of p.0 all) in
    let part = values_part arguments (values_of p.0 all) in
    let others = groups arguments all ps in
    record {
      each = each_put (IsLawfulPart values_at arguments) p.0 v
          (grouped all ps) part others.each;
      ordered = put_ordered p.0 v (grouped all ps) part.ordered others.ordered;
    }

pub parse_query_string-law : KeepsLaw parse_query_string_row
parse_query_string-law = record {
  present = λ givens sources given below. refl;
  lawful = λ givens arguments setting given fit instances below.
      let ps = pairs_of (form_in (text_at 0 [] arguments)) in
      let all = groups arguments ps ps in
      object_is_lawful values_at false arguments (grouped ps ps) all.each all.ordered;
}
