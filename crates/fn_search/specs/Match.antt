-- `match`: whether a regex matches somewhere in a text.
use Rattle.std.specs.Prelude.{[], ◌∷◌, codes, false}
use Rattle.vrl_value.specs.Tree.{boolean}
use Rattle.vrl_value.specs.declared.value.Tag.TheVariants as tag
use Rattle.vrl_builtin.specs.OneTag.{OneTagRow}
use Rattle.vrl_builtin.specs.Rows.{value, parameter, text_at, value_at}
use Rattle.vrl_builtin.specs.TagSets.{regexes, strings}
use Rattle.fn_search.specs.Sources.{is_match}

abbrev pub match_row : OneTagRow
match_row = record {
  name = codes "match";
  parameters = parameter (codes "value") strings ∷ parameter (codes "pattern") regexes ∷ [];
  tag = tag.Bool;
  may_fail = λ givens. false;
  means =
      λ arguments setting. value (boolean (is_match setting.sources (text_at 0 [] arguments) (value_at 1 arguments)));
}
