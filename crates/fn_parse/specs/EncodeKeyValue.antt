-- `encode_key_value`: the members of an object as fields.
use Rattle.std.specs.Prelude.{ℕ, ◌==◌, Bool, true, false, ◌||◌, List, [], ◌∷◌, ◌++◌, Option, Some, None, codes, get_or, if◌then◌else◌}
use Rattle.std.specs.List.{list_any}
use Rattle.std.specs.Fmt.{signed_decimal}
use Rattle.vrl_value.specs.MomentText.{moment_text}
use Rattle.vrl_value.specs.Tree.{Tree, string, integer, boolean, null, timestamp, regex, array, object, Members, no_members, member}
use Rattle.vrl_value.specs.declared.value.Tag.TheVariants as tag
use Rattle.vrl_builtin.specs.OneTag.{OneTagRow}
use Rattle.vrl_builtin.specs.Rows.{value, parameter, optional_members}
use Rattle.vrl_builtin.specs.TagSets.{objects}
use Rattle.vrl_json.specs.Line.{line_text}
use Rattle.fn_parse.specs.Quotes.{in_quotes}

-- a space, a quote, `=`, a backslash or a newline
abbrev pub is_special : ℕ → Bool
is_special c = c == 0x20 || (c == 0x22 || (c == 0x3D || (c == 0x5C || c == 0x0A)))

-- a text that is empty, or holds such a byte, stands in quotes
abbrev pub wants_quotes : List ℕ → Bool
wants_quotes [] = true
wants_quotes (b ∷ s) = list_any is_special (b ∷ s)

abbrev pub quoted_if_special : List ℕ → List ℕ
quoted_if_special s = if wants_quotes s then in_quotes s else s

-- the text of a value, that of a regex being its source; for null see `value_text`
abbrev pub text_of : List (List ℕ) → Tree → List ℕ
text_of sources (string s) = s
text_of sources (integer n) = signed_decimal n
text_of sources (boolean true) = codes "true"
text_of sources (boolean false) = codes "false"
text_of sources null = []
text_of sources (timestamp nanos) = moment_text nanos
text_of sources (regex n) = get_or sources n []
text_of sources (array ts) = line_text sources (array ts)
text_of sources (object ms) = line_text sources (object ms)

-- null has an empty text without quotes
abbrev pub value_text : List (List ℕ) → Tree → List ℕ
value_text sources null = []
value_text sources t = quoted_if_special (text_of sources t)

abbrev pub field_text : List (List ℕ) → List ℕ → Tree → List ℕ
field_text sources k t = k ++ (codes "=" ++ value_text sources t)

-- each field behind a space
abbrev pub spaced_fields : List (List ℕ) → Members → List ℕ
spaced_fields sources no_members = []
spaced_fields sources (member k t ms) = codes " " ++ (field_text sources k t ++ spaced_fields sources ms)

-- the fields by key, with a space between each two
abbrev pub fields_text : List (List ℕ) → Members → List ℕ
fields_text sources no_members = []
fields_text sources (member k t ms) = field_text sources k t ++ spaced_fields sources ms

abbrev pub given_text : List (List ℕ) → Option Members → List ℕ
given_text sources None = []
given_text sources (Some ms) = fields_text sources ms

abbrev pub encode_key_value_row : OneTagRow
encode_key_value_row = record {
  name = codes "encode_key_value";
  parameters = parameter (codes "value") objects ∷ [];
  tag = tag.Text;
  may_fail = λ givens. false;
  means = λ arguments setting. value (string (given_text setting.sources (optional_members 0 arguments)));
}
