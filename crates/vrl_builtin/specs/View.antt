-- The rows and trees that the code's own types stand for.
use Rattle.std.specs.Prelude.{◌≡◌, ◌||◌, ℕ, Bool, false, IsTrue, List, map, Option, option_map}
use Rattle.std.specs.Borrow.{Bor}
use Rattle.vrl_value.specs.Tree.{Tree, takes_memory}
use Rattle.vrl_value.specs.View.{tree_of}
use Rattle.vrl_value.specs.declared.value.Value.{Value as CodeValue}
use Rattle.vrl_builtin.specs.Rows.{ParameterRow, GivenTree, SettingTree, Answer, value, failure, error_text}
use Rattle.vrl_builtin.specs.Words.{element, element_is, path_element_is, value_is}
use Rattle.vrl_builtin.specs.declared.arguments.Arguments.{Arguments}
use Rattle.vrl_builtin.specs.declared.failing.Applied.{Applied}
use Rattle.vrl_builtin.specs.declared.failing.Applied.TheVariants as applied
use Rattle.vrl_builtin.specs.declared.failure.Failure.{Failure}
use Rattle.vrl_builtin.specs.declared.failure.Reason.{Reason}
use Rattle.vrl_builtin.specs.declared.failure.Reason.TheVariants as reason
use Rattle.vrl_builtin.specs.declared.given.Given.{Given}
use Rattle.vrl_builtin.specs.declared.given.Givens.{Givens}
use Rattle.vrl_builtin.specs.declared.parameter.Parameter.{Parameter}
use Rattle.vrl_builtin.specs.declared.setting.Setting.{Setting}

abbrev pub parameter_row : Parameter → ParameterRow
parameter_row p = record { name = p.name.now; allowed = p.allowed; required = p.required; literal = p.literal }

abbrev pub given_tree : Given → GivenTree
given_tree g = record { kind = g.kind; literal = option_map tree_of g.literal }

abbrev pub givens_of : Givens → List GivenTree
givens_of g = map given_tree g.givens.items

abbrev pub argument_tree : Option (Bor CodeValue) → Option Tree
argument_tree = option_map (λ v. tree_of v.now)

abbrev pub arguments_of : Arguments → List (Option Tree)
arguments_of a = map argument_tree a.arguments.items

abbrev pub setting_of : Setting → SettingTree
setting_of s = record { moment = s.moment; sources = s.searches.now }

-- the words of an error, and its text
abbrev pub reason_words : Reason → List ℕ
reason_words (reason.Words words) = words.now
reason_words (reason.Value t) = value_is t
reason_words (reason.Element n t) = element_is n t
reason_words (reason.PathElement n t) = path_element_is n t
reason_words (reason.BadElement n) = element n

abbrev pub failure_text : Failure → List ℕ
failure_text f = error_text f.name.now (reason_words f.reason)

-- whether an answer takes memory: a value that is a text, an array or an object does, and an error
-- doesn't, whose text is made later
abbrev pub answer_takes_memory : Answer → Bool
answer_takes_memory (value v) = takes_memory v
answer_takes_memory (failure text) = false

-- what came of a call is what is answered. The call may have run out of memory only where it uses
-- some, or its answer takes some
abbrev pub Applies : Bool → Answer → Applied → Type 0
Applies uses answer (applied.Value v) = answer ≡ value (tree_of v)
Applies uses answer (applied.Failed f) = answer ≡ failure (failure_text f)
Applies uses answer applied.Memory = IsTrue (uses || answer_takes_memory answer)
