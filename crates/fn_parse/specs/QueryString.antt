-- `parse_query_string`: the values of each name in a query.
use Rattle.std.specs.Prelude.{ℕ, false, List, [], ◌∷◌, ◌==◌, map, codes, bytes_eq, if◌then◌else◌}
use Rattle.vrl_value.specs.Tree.{Tree, string, array, object, Members, no_members, put}
use Rattle.vrl_value.specs.View.{items_of_trees}
use Rattle.vrl_value.specs.declared.value.Tag.TheVariants as tag
use Rattle.vrl_kind.specs.Kinds.{only_at}
use Rattle.vrl_kind.specs.Sets.{Sets}
use Rattle.vrl_builtin.specs.Containers.{array_of, either, object_of}
use Rattle.vrl_builtin.specs.Rows.{Row, value, any_literal, parameter, text_at}
use Rattle.vrl_builtin.specs.TagSets.{strings}
use Rattle.fn_parse.specs.Pairs.{pairs_of}

-- what stands behind a `?` at the start, or all
abbrev pub form_in : List ℕ → List ℕ
form_in [] = []
form_in (b ∷ bs) = if b == 63 then bs else b ∷ bs

-- the values of a name, in order
abbrev pub values_of : List ℕ → List (List ℕ × List ℕ) → List (List ℕ)
values_of name [] = []
values_of name (p ∷ ps) = if bytes_eq name p.0 then p.1 ∷ values_of name ps else values_of name ps

-- one alone is a text, and several are an array of texts
abbrev pub tree_of_values : List (List ℕ) → Tree
tree_of_values (s ∷ []) = string s
tree_of_values ss = array (items_of_trees (map string ss))

-- each name of the second list with its values in the first
abbrev pub grouped : List (List ℕ × List ℕ) → List (List ℕ × List ℕ) → Members
grouped all [] = no_members
grouped all (p ∷ ps) = put p.0 (tree_of_values (values_of p.0 all)) (grouped all ps)

abbrev pub query_of : List ℕ → Tree
query_of s = let ps = pairs_of (form_in s) in object (grouped ps ps)

-- a string, or an array of strings
abbrev pub values_at : Sets
values_at = either (only_at tag.Text) (array_of (only_at tag.Text))

abbrev pub parse_query_string_row : Row
parse_query_string_row = record {
  name = codes "parse_query_string";
  parameters = parameter (codes "value") strings ∷ [];
  accepts = any_literal;
  kind = λ givens sources. object_of values_at;
  may_fail = λ givens. false;
  means = λ arguments setting. value (query_of (text_at 0 [] arguments));
}
