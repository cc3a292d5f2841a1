use Rattle.std.proofs.Common.{◌≡◌, ◌++◌, length, map}
use Rattle.vrl_run.specs.Working.{result_by}
use Rattle.vrl_run.proofs.work.LineWorkWork.each.Given as goal

abbrev pub invariant-loop-line : goal.invariant-loop-line
invariant-loop-line g l = l.outs.items ++ map (result_by l.self) l.chunk ≡ map (result_by l.self) l.initial.chunk

abbrev pub decreases-loop-line : goal.decreases-loop-line
decreases-loop-line g l = length l.chunk
