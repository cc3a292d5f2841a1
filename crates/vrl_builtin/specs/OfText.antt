-- The functions that give one text for each text, and never fail: `upcase`, `encode_base64` and the
-- like. They keep the law.
use Rattle.std.specs.Prelude.{ℕ, false, List, [], ◌∷◌, codes, refl}
use Rattle.vrl_value.specs.Tree.{string}
use Rattle.vrl_value.specs.declared.value.Tag.TheVariants.{Text}
use Rattle.vrl_builtin.specs.OneTag.{KeepsOneTag, OneTagRow}
use Rattle.vrl_builtin.specs.Rows.{value, parameter, text_at}
use Rattle.vrl_builtin.specs.TagSets.{strings}

abbrev pub of_text_row : List ℕ → (List ℕ → List ℕ) → OneTagRow
of_text_row name make = record {
  name = name;
  parameters = parameter (codes "value") strings ∷ [];
  tag = Text;
  may_fail = λ givens. false;
  means = λ arguments setting. value (string (make (text_at 0 [] arguments)));
}

pub of_text-law : (name : List ℕ) (make : List ℕ → List ℕ) → KeepsOneTag (of_text_row name make)
of_text-law name make = record { present = refl; lawful = λ givens arguments setting fit instances. (tt, refl) }
