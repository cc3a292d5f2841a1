use denote.Text.{Utf8}
use denote.Shadow.{shadow}
use Rattle.std.proofs.Common.{List, length}
use Rattle.vrl_token.specs.Paths.{Segment}
use Rattle.vrl_token.specs.Gathering.{IsGathered}
use Rattle.vrl_token.proofs.Walks.{IsWalked}
use Rattle.vrl_token.proofs.path.Gathering.gather.Given as goal

abbrev pub invariant-loop-segment : goal.invariant-loop-segment
invariant-loop-segment l = shadow (Utf8 l.rest) × ((before : List Segment) → IsGathered before l.initial.self → IsWalked before l.text l.rest l.self)

abbrev pub decreases-loop-segment : goal.decreases-loop-segment
decreases-loop-segment l = length l.rest
