use denote.Text.{Utf8}
use denote.Shadow.{shadow}
use Rattle.std.proofs.Common.{◌≡◌, ◌++◌, IsTrue, length, string_bytes}
use Rattle.vrl_value.specs.Regexes.{members_regexes_below}
use Rattle.vrl_value.specs.View.{members_of, members_view}
use Rattle.fn_parse.specs.EncodeKeyValue.{fields_text}
use Rattle.fn_parse.proofs.Encoded.{fields_behind}
use Rattle.fn_parse.proofs.encode_key_value.fields_text.Given as goal

abbrev pub invariant-loop-name : goal.invariant-loop-name
invariant-loop-name l =
    shadow (Utf8 l.separator) × IsTrue (members_regexes_below (length l.sources) (members_view l.name-iterator))
    × (string_bytes l.out ++ fields_behind l.sources l.separator (members_view l.name-iterator) ≡ fields_text l.sources (members_of l.fields))
