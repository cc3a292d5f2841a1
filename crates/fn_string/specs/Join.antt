-- `join`: the texts of an array as one, with a text between each two.
use Rattle.std.specs.Prelude.{ℕ, List, [], ◌∷◌, ◌++◌, codes}
use Rattle.vrl_value.specs.Tree.{Tree, string, integer, boolean, null, timestamp, regex, array, object, Items, no_items, item}
use Rattle.vrl_value.specs.declared.value.Tag.TheVariants as tag
use Rattle.vrl_builtin.specs.OneTag.{OneTagRow}
use Rattle.vrl_builtin.specs.PartKinds.{part_allows_other}
use Rattle.vrl_builtin.specs.Rows.{Answer, parameter, optional_parameter, items_at, kind_at, text_at}
use Rattle.vrl_builtin.specs.TagSets.{arrays, strings}
use Rattle.vrl_builtin.specs.Words.{first_other, unless_other}

-- a part of another tag isn't reached
abbrev pub text_of : Tree → List ℕ
text_of (string s) = s
text_of (integer n) = []
text_of (boolean b) = []
text_of null = []
text_of (timestamp nanos) = []
text_of (regex n) = []
text_of (array ts) = []
text_of (object ms) = []

-- each text with the separator before it
abbrev pub separated : List ℕ → Items → List ℕ
separated separator no_items = []
separated separator (item v ts) = separator ++ (text_of v ++ separated separator ts)

-- the separator stands between each two of the texts, and neither before the first nor behind the
-- last
abbrev pub joined : List ℕ → Items → List ℕ
joined separator no_items = []
joined separator (item v ts) = text_of v ++ separated separator ts

-- each part must be a text
abbrev pub join_answer : Items → List ℕ → Answer
join_answer ts separator = unless_other (first_other strings ts) (string (joined separator ts))

abbrev pub join_row : OneTagRow
join_row = record {
  name = codes "join";
  parameters = parameter (codes "value") arrays ∷ optional_parameter (codes "separator") strings ∷ [];
  tag = tag.Text;
  may_fail = λ givens. part_allows_other strings (kind_at 0 givens);
  means = λ arguments setting. join_answer (items_at 0 arguments) (text_at 1 [] arguments);
}
