use denote.Text.{Utf8}
use denote.Shadow.{shadow}
use Rattle.std.proofs.Common.{List, length}
use Rattle.std.specs.String.{string_bytes}
use Rattle.vrl_token.specs.Characters.{Character}
use Rattle.vrl_token.specs.Quoted.{IsInner}
use Rattle.vrl_token.proofs.Escapes.{IsRawSoFar}
use Rattle.vrl_token.proofs.quoted.raw.Given as goal

abbrev pub invariant-loop-before : goal.invariant-loop-before
invariant-loop-before l = shadow (Utf8 l.rest) × ((characters : List Character) → IsInner 39 l.inner characters → IsRawSoFar characters (string_bytes l.text) l.rest)

abbrev pub decreases-loop-before : goal.decreases-loop-before
decreases-loop-before l = length l.rest
