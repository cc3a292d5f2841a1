use denote.Text.{Utf8}
use denote.Shadow.{shadow}
use Rattle.std.proofs.Common.{◌≡◌, ◌≤◌, ℕ, List, length}
use Rattle.vrl_value.specs.Tree.{Members}
use Rattle.fn_parse.specs.Found.{IsAhead}
use Rattle.fn_parse.specs.ParseKeyValue.{fields_from}
use Rattle.fn_parse.proofs.parse_key_value.next_start.Given as goal

abbrev pub invariant-loop-behind : goal.invariant-loop-behind
invariant-loop-behind l =
    shadow (Utf8 l.left) × ((k : List ℕ) (ms : Members) → fields_from k l.field_delimiter 0 l.text ms ≡ fields_from k l.field_delimiter 0 l.left ms) × (length l.left ≤ length l.text)
    × ((d : List ℕ) (n : ℕ) → IsAhead d l.text n → IsAhead d l.left n)

abbrev pub decreases-loop-behind : goal.decreases-loop-behind
decreases-loop-behind l = length l.left
