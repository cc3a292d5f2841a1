-- The functions that give a value of one tag back, and fail at any other: `string` and the like.
use Rattle.std.specs.Prelude.{ℕ, List, [], ◌∷◌, codes, if◌then◌else◌}
use Rattle.vrl_value.specs.Tag.{tag_of}
use Rattle.vrl_value.specs.Tree.{Tree}
use Rattle.vrl_value.specs.declared.value.Tag.{Tag}
use Rattle.vrl_kind.specs.Tags.{same_tag}
use Rattle.vrl_builtin.specs.CutDown.{allows_other, given_cut_to}
use Rattle.vrl_builtin.specs.Rows.{Row, Answer, value, failure, named, parameter, any_literal, kind_at, value_at}
use Rattle.vrl_builtin.specs.TagSets.{any_tags, only_tag}
use Rattle.vrl_builtin.specs.Words.{value_is}

-- the value where it has the tag
abbrev pub only_answer : Tag → Tree → Answer
only_answer t v = if same_tag (tag_of v) t then value v else failure (value_is (tag_of v))

abbrev pub only_row : List ℕ → Tag → Row
only_row name t = record {
  name = name;
  parameters = parameter (codes "value") any_tags ∷ [];
  accepts = any_literal;
  kind = λ givens sources. given_cut_to (only_tag t) (kind_at 0 givens);
  may_fail = λ givens. allows_other t (kind_at 0 givens);
  means = λ arguments setting. named name (only_answer t (value_at 0 arguments));
}
