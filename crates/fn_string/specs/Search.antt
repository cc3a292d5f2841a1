-- `starts_with`, `ends_with` and `contains`: whether a text stands at the start of another, at its
-- end, or anywhere in it.
use Rattle.std.specs.Prelude.{ℕ, ◌-◌, Bool, true, false, ◌||◌, List, [], ◌∷◌, bytes_eq, codes, drop, length, map, take}
use Rattle.std.specs.Char.{to_ascii_lowercase}
use Rattle.vrl_value.specs.Tree.{boolean}
use Rattle.vrl_value.specs.declared.value.Tag.TheVariants as tag
use Rattle.vrl_builtin.specs.OneTag.{OneTagRow}
use Rattle.vrl_builtin.specs.Rows.{value, parameter, optional_parameter, boolean_at, text_at}
use Rattle.vrl_builtin.specs.TagSets.{booleans, strings}

-- the first bytes of the text, as many as the part has, are the part
abbrev pub starts_with : List ℕ → List ℕ → Bool
starts_with part text = bytes_eq (take (length part) text) part

-- so are the last ones
abbrev pub ends_with : List ℕ → List ℕ → Bool
ends_with part text = bytes_eq (drop (length text - length part) text) part

-- the part stands at the start of the text, or of what is left of it behind some byte
abbrev pub contains : List ℕ → List ℕ → Bool
contains part [] = starts_with part []
contains part (b ∷ text) = starts_with part (b ∷ text) || contains part text

-- the text as it is compared: where case makes no difference, with the letters of ASCII in lower
-- case
abbrev pub compared : Bool → List ℕ → List ℕ
compared true text = text
compared false text = map to_ascii_lowercase text

abbrev pub search_row : List ℕ → (List ℕ → List ℕ → Bool) → OneTagRow
search_row name holds = record {
  name = name;
  parameters = parameter (codes "value") strings ∷ parameter (codes "substring") strings ∷ optional_parameter
      (codes "case_sensitive") booleans ∷ [];
  tag = tag.Bool;
  may_fail = λ givens. false;
  means = λ arguments setting.
      let sensitive = boolean_at 2 true arguments in
      value (boolean
      (holds (compared sensitive (text_at 1 [] arguments)) (compared sensitive (text_at 0 [] arguments))));
}
