-- `parse_key_value`: the object of a text's fields.
use Rattle.std.specs.Prelude.{ℕ, zero, suc, ◌-◌, Bool, true, false, ◌||◌, List, [], ◌∷◌, length, Option, Some, None, codes, if◌then◌else◌, not}
use Rattle.vrl_value.specs.Tree.{Tree, string, boolean, object, Members, no_members, put}
use Rattle.vrl_value.specs.declared.value.Tag.TheVariants as tag
use Rattle.vrl_kind.specs.Kinds.{only_at}
use Rattle.vrl_kind.specs.Sets.{Sets}
use Rattle.vrl_builtin.specs.Containers.{either, object_of}
use Rattle.vrl_builtin.specs.Rows.{Row, Answer, value, failure, named, any_literal, parameter, optional_parameter, text_at}
use Rattle.vrl_builtin.specs.TagSets.{strings}
use Rattle.fn_parse.specs.KeyValue.{begins, field_at, FieldAt, entry, fault}

-- a key without a value is true
abbrev pub field_tree : Option (List ℕ) → Tree
field_tree None = boolean true
field_tree (Some text) = string text

abbrev pub with_field : FieldAt → Members → (List ℕ → Members → Answer) → Answer
with_field (fault words) ms others = failure words
with_field (entry key v behind) ms others = others behind (put key (field_tree v) ms)

-- What a text says whose first bytes, so many, are of the field or the delimiter before. Where a
-- field may begin there is a field delimiter, or a field. Its value counts at its key in place of
-- those before.
abbrev pub fields_from : List ℕ → List ℕ → ℕ → List ℕ → Members → Answer
fields_from k f n [] ms = value (object ms)
fields_from k f (suc n) (b ∷ s) ms = fields_from k f n s ms
fields_from k f zero (b ∷ s) ms =
    if begins f (b ∷ s) then fields_from k f (length f - 1) s ms
    else with_field (field_at k f (b ∷ s)) ms (λ behind others. fields_from k f (length s - length behind) s others)

abbrev pub is_nothing : List ℕ → Bool
is_nothing [] = true
is_nothing (b ∷ bs) = false

abbrev pub parsed : List ℕ → List ℕ → List ℕ → Answer
parsed k f s =
    if is_nothing k || is_nothing f then failure (codes "empty delimiter") else fields_from k f 0 s no_members

-- a text is read where neither delimiter is empty
abbrev pub has_delimiters : List ℕ → List ℕ → Bool
has_delimiters k f = not (is_nothing k || is_nothing f)

abbrev pub string_or_boolean : Sets
string_or_boolean = either (only_at tag.Text) (only_at tag.Bool)

abbrev pub parse_key_value_row : Row
parse_key_value_row = record {
  name = codes "parse_key_value";
  parameters = parameter (codes "value") strings ∷ optional_parameter
      (codes "key_value_delimiter") strings ∷ optional_parameter (codes "field_delimiter") strings ∷ [];
  accepts = any_literal;
  kind = λ givens sources. object_of string_or_boolean;
  may_fail = λ givens. true;
  means = λ arguments setting. named (codes "parse_key_value")
      (parsed (text_at 1 (codes "=") arguments) (text_at 2 (codes " ") arguments) (text_at 0 [] arguments));
}
