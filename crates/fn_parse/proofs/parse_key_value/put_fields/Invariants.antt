use denote.Text.{Utf8}
use denote.Shadow.{shadow}
use Rattle.std.proofs.Common.{◌≡◌, false, length}
use Rattle.vrl_value.specs.View.{members_of}
use Rattle.fn_parse.specs.Found.{IsNext}
use Rattle.fn_parse.specs.KeyValue.{begins}
use Rattle.fn_parse.specs.ParseKeyValue.{fields_from}
use Rattle.fn_parse.proofs.parse_key_value.put_fields.Given as goal

abbrev pub invariant-loop-left : goal.invariant-loop-left
invariant-loop-left l =
    shadow (Utf8 l.left) × (begins l.field_delimiter l.left ≡ false)
    × (fields_from l.key_delimiter l.field_delimiter 0 l.text (members_of l.initial.fields) ≡ fields_from l.key_delimiter l.field_delimiter 0 l.left (members_of l.fields))
    × IsNext l.key_delimiter l.left l.key_left

abbrev pub decreases-loop-left : goal.decreases-loop-left
decreases-loop-left l = length l.left
