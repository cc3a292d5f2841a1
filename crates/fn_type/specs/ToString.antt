-- `to_string`: the text of a value without parts.
use Rattle.std.specs.Prelude.{ℕ, true, false, List, [], ◌∷◌, codes}
use Rattle.std.specs.Fmt.{signed_decimal}
use Rattle.vrl_value.specs.MomentText.{moment_text}
use Rattle.vrl_value.specs.Tree.{Tree, string, integer, boolean, null, timestamp, regex, array, object}
use Rattle.vrl_value.specs.declared.value.Tag.TheVariants as tag
use Rattle.vrl_builtin.specs.OneTag.{OneTagRow}
use Rattle.vrl_builtin.specs.Rows.{value, parameter, value_at}
use Rattle.vrl_builtin.specs.TagSets.{any_tags}

-- the text that a value stands for as it is. Those of whole numbers and timestamps are written, and
-- other values aren't allowed
abbrev pub word_of : Tree → List ℕ
word_of (string s) = s
word_of (boolean true) = codes "true"
word_of (boolean false) = codes "false"
word_of null = []
word_of (integer n) = []
word_of (timestamp nanos) = []
word_of (regex n) = []
word_of (array ts) = []
word_of (object ms) = []

abbrev pub text_of : Tree → List ℕ
text_of (integer n) = signed_decimal n
text_of (timestamp nanos) = moment_text nanos
text_of v = word_of v

abbrev pub to_string_row : OneTagRow
to_string_row = record {
  name = codes "to_string";
  parameters = parameter (codes "value") (record any_tags { regex = false; array = false; object = false }) ∷ [];
  tag = tag.Text;
  may_fail = λ givens. false;
  means = λ arguments setting. value (string (text_of (value_at 0 arguments)));
}
