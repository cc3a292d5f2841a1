use denote.Text.{Utf8}
use denote.Shadow.{shadow}
use Rattle.std.proofs.Common.{◌≡◌, ◌++◌, length, string_bytes}
use Rattle.fn_parse.specs.Quotes.{unescaped}
use Rattle.fn_parse.proofs.quotes.unescaped.Given as goal

abbrev pub invariant-loop-before : goal.invariant-loop-before
invariant-loop-before l = shadow (Utf8 l.left) × (string_bytes l.plain ++ unescaped l.left ≡ unescaped l.text)

abbrev pub decreases-loop-before : goal.decreases-loop-before
decreases-loop-before l = length l.left
