-- Rows of functions whose results have one tag, whatever they are given, and no parts.
use Rattle.std.specs.Prelude.{◌≡◌, Bool, false, List, ℕ, Option, IsTrue, ⊤}
use Rattle.vrl_value.specs.Tag.{tag_of}
use Rattle.vrl_value.specs.Tree.{Tree, string, integer, boolean, null, timestamp, regex, array, object}
use Rattle.vrl_value.specs.declared.value.Tag.{Tag}
use Rattle.vrl_value.specs.declared.value.Tag.TheVariants as tag
use Rattle.vrl_kind.specs.Kinds.{only_at}
use Rattle.vrl_kind.specs.Tags.{same_tag}
use Rattle.vrl_builtin.specs.Conditions.{AreArguments}
use Rattle.vrl_builtin.specs.Law.{AreInstances}
use Rattle.vrl_builtin.specs.Rows.{ParameterRow, GivenTree, SettingTree, Answer, value, failure, named, Row, any_literal}

-- a row without a parameter that wants a literal. What it answers is a value, or the words of an
-- error, before which the name stands
pub record OneTagRow : Type 0 where
  pub name : List ℕ
  pub parameters : List ParameterRow
  pub tag : Tag
  pub may_fail : List GivenTree → Bool
  pub means : List (Option Tree) → SettingTree → Answer

abbrev pub whole_row : OneTagRow → Row
whole_row r = record {
  name = r.name;
  parameters = r.parameters;
  accepts = any_literal;
  kind = λ givens sources. only_at r.tag;
  may_fail = r.may_fail;
  means = λ arguments setting. named r.name (r.means arguments setting);
}

-- a value without parts that is no regex
abbrev pub IsPlain : Tree → Type 0
IsPlain (string s) = ⊤
IsPlain (integer n) = ⊤
IsPlain (boolean b) = ⊤
IsPlain null = ⊤
IsPlain (timestamp nanos) = ⊤
IsPlain (regex n) = ⊥
IsPlain (array ts) = ⊥
IsPlain (object ms) = ⊥

-- such a value with the tag, or an error where the call may fail
abbrev pub IsOneTag : Tag → Bool → Answer → Type 0
IsOneTag t fails (value v) = IsPlain v × (tag_of v ≡ t)
IsOneTag t fails (failure words) = IsTrue fails

-- the tag is that of a value, and each answer has it, or is an error where the call may fail
pub record KeepsOneTag (r : OneTagRow) : Type 0 where
  pub present : same_tag r.tag tag.Absent ≡ false
  pub lawful : (givens : List GivenTree) (arguments : List (Option Tree)) (setting : SettingTree) →
      AreArguments (whole_row r) arguments → AreInstances givens arguments
      → IsOneTag r.tag (r.may_fail givens) (r.means arguments setting)
