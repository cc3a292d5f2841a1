use denote.Text.{Utf8}
use denote.Shadow.{shadow}
use Rattle.std.proofs.Common.{List, length}
use Rattle.vrl_token.specs.Characters.{Character}
use Rattle.vrl_token.specs.Quoted.{IsInner}
use Rattle.vrl_token.proofs.Parted.{AreHolesSoFar}
use Rattle.vrl_token.proofs.template.holes_of.Given as goal

abbrev pub invariant-loop-name : goal.invariant-loop-name
invariant-loop-name l = shadow (Utf8 l.left) × ((characters : List Character) → IsInner 34 l.text characters → AreHolesSoFar characters l.holes.items l.left)

abbrev pub decreases-loop-name : goal.decreases-loop-name
decreases-loop-name l = length l.left
