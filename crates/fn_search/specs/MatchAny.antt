-- `match_any`: whether one of the regexes in an array matches somewhere in a text.
use Rattle.std.specs.Prelude.{ℕ, Bool, false, ◌||◌, List, [], ◌∷◌, codes, is_none}
use Rattle.vrl_value.specs.Tree.{boolean, Items, no_items, item}
use Rattle.vrl_value.specs.declared.value.Tag.TheVariants as tag
use Rattle.vrl_builtin.specs.OneTag.{OneTagRow}
use Rattle.vrl_builtin.specs.PartKinds.{part_allows_other}
use Rattle.vrl_builtin.specs.Rows.{Answer, parameter, items_at, kind_at, text_at}
use Rattle.vrl_builtin.specs.TagSets.{arrays, regexes, strings}
use Rattle.vrl_builtin.specs.Words.{first_other, unless_other}
use Rattle.fn_search.specs.Sources.{is_match}

abbrev pub some_matches : List (List ℕ) → List ℕ → Items → Bool
some_matches sources s no_items = false
some_matches sources s (item v ts) = is_match sources s v || some_matches sources s ts

-- whether the text is searched: there are parts, and each is a regex
abbrev pub are_tried : Items → Bool
are_tried no_items = false
are_tried (item v ts) = is_none (first_other regexes (item v ts))

-- each part must be a regex, whatever matches before it
abbrev pub match_any_answer : List (List ℕ) → List ℕ → Items → Answer
match_any_answer sources s ts = unless_other (first_other regexes ts) (boolean (some_matches sources s ts))

abbrev pub match_any_row : OneTagRow
match_any_row = record {
  name = codes "match_any";
  parameters = parameter (codes "value") strings ∷ parameter (codes "patterns") arrays ∷ [];
  tag = tag.Bool;
  may_fail = λ givens. part_allows_other regexes (kind_at 1 givens);
  means = λ arguments setting. match_any_answer setting.sources (text_at 0 [] arguments) (items_at 1 arguments);
}
