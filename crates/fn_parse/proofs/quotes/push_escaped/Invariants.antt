use denote.Text.{Utf8}
use denote.Shadow.{shadow}
use Rattle.std.proofs.Common.{◌≡◌, ◌++◌, length, string_bytes}
use Rattle.fn_parse.specs.Quotes.{escaped}
use Rattle.fn_parse.proofs.quotes.push_escaped.Given as goal

abbrev pub invariant-loop-marked : goal.invariant-loop-marked
invariant-loop-marked l = shadow (Utf8 l.left) × (string_bytes l.out ++ escaped l.left ≡ string_bytes l.initial.out ++ escaped l.text)

abbrev pub decreases-loop-marked : goal.decreases-loop-marked
decreases-loop-marked l = length l.left
