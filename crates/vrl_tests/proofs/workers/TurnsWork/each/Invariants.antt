use Rattle.std.proofs.Common.{◌≡◌, ◌++◌, length, map}
use Rattle.vrl_tests.proofs.Copied.{copy}
use Rattle.vrl_tests.proofs.workers.TurnsWork.each.Given as goal

abbrev pub invariant-loop-line : goal.invariant-loop-line
invariant-loop-line g l = l.outs.items ++ map copy l.chunk ≡ map copy l.initial.chunk

abbrev pub decreases-loop-line : goal.decreases-loop-line
decreases-loop-line g l = length l.chunk
