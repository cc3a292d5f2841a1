-- The functions that tell whether a value has one tag: `is_string` and the like.
use Rattle.std.specs.Prelude.{ℕ, false, List, [], ◌∷◌, codes}
use Rattle.vrl_value.specs.Tag.{tag_of}
use Rattle.vrl_value.specs.Tree.{boolean}
use Rattle.vrl_value.specs.declared.value.Tag.{Tag}
use Rattle.vrl_value.specs.declared.value.Tag.TheVariants.{Bool}
use Rattle.vrl_kind.specs.Tags.{same_tag}
use Rattle.vrl_builtin.specs.OneTag.{OneTagRow}
use Rattle.vrl_builtin.specs.Rows.{value, parameter, value_at}
use Rattle.vrl_builtin.specs.TagSets.{any_tags}

abbrev pub is_row : List ℕ → Tag → OneTagRow
is_row name t = record {
  name = name;
  parameters = parameter (codes "value") any_tags ∷ [];
  tag = Bool;
  may_fail = λ givens. false;
  means = λ arguments setting. value (boolean (same_tag (tag_of (value_at 0 arguments)) t));
}
