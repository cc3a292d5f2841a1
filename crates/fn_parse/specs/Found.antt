-- What the code finds in a text, as the definitions tell it.
use Rattle.std.specs.Prelude.{◌≡◌, ◌≤◌, ◌+◌, ℕ, List, length, Option, Some, None, Ok, Err, Result, codes, option_map, ⊤}
use Rattle.vrl_value.specs.Tree.{object, Members}
use Rattle.vrl_value.specs.View.{tree_of}
use Rattle.vrl_value.specs.declared.value.Value.{Value}
use Rattle.vrl_json.specs.Line.{Reading, not_json, not_whole, whole}
use Rattle.vrl_json.specs.declared.fault.JsonFault.{JsonFault}
use Rattle.vrl_json.specs.declared.fault.JsonFault.TheVariants.{NotJson, NotWhole, Memory}
use Rattle.vrl_builtin.specs.Rows.{Answer, value, failure}
use Rattle.fn_parse.specs.KeyValue.{begins, first_place, FieldAt, entry, fault}
use Rattle.fn_parse.specs.Quotes.{unescaped}
use Rattle.fn_parse.specs.declared.key_value.Fault.{Fault}
use Rattle.fn_parse.specs.declared.key_value.Fault.TheVariants.{EmptyKey, BadQuotes}
use Rattle.fn_parse.specs.declared.key_value.Field.{Field}
use Rattle.fn_parse.specs.declared.key_value.Written.{Written}
use Rattle.fn_parse.specs.declared.key_value.Written.TheVariants.{Plain, Quoted}
use Rattle.fn_parse.specs.declared.key_value.WrittenAt.{WrittenAt}

-- so many bytes are left of the text from the delimiter's first place on, and none where it stands
-- nowhere
abbrev pub IsNext : List ℕ → List ℕ → ℕ → Type 0
IsNext d s n = length s ≡ first_place (begins d) s + n

-- the same, unless that place stands before the text
abbrev pub IsAhead : List ℕ → List ℕ → ℕ → Type 0
IsAhead d s n = n ≤ length s → IsNext d s n

-- the text that is written so
abbrev pub written_text : Written → List ℕ
written_text (Plain s) = s.now
written_text (Quoted s) = unescaped s.now

abbrev pub value_found : WrittenAt → List ℕ × List ℕ
value_found w = (written_text w.written, w.behind.now)

abbrev pub words_of : Fault → List ℕ
words_of EmptyKey = codes "empty key"
words_of BadQuotes = codes "bad quotes"

abbrev pub field_found : Result Field Fault → FieldAt
field_found (Ok field) = entry field.key.now (option_map written_text field.written) field.behind.now
field_found (Err why) = fault (words_of why)

-- what is answered at the end of a text, or where no field begins
abbrev pub ended : Option Fault → Members → Answer
ended None ms = value (object ms)
ended (Some why) ms = failure (words_of why)

-- a text with this reading was read so, unless memory ran out
abbrev pub IsRead : Reading → Result Value JsonFault → Type 0
IsRead told (Ok v) = told ≡ whole (tree_of v)
IsRead told (Err NotJson) = told ≡ not_json
IsRead told (Err NotWhole) = told ≡ not_whole
IsRead told (Err Memory) = ⊤
