use Rattle.std.proofs.Common.{◌≡◌, ◌++◌, [], length}
use Rattle.vrl_generate.specs.Made.{made_lines}
use Rattle.vrl_run.specs.Request.{run_of}
use Rattle.vrl_run.proofs.MadeLemmas.{IsMadeTo}
use Rattle.vrl_run.proofs.made.run_made.Given as goal

-- the lines so far are summed; where the batch is empty none is left
abbrev pub invariant-loop-work : goal.invariant-loop-work
invariant-loop-work g l = IsMadeTo (run_of l.script) (made_lines l.count l.seed) (l.batch ++ l.lines) l.summary × (l.batch ≡ [] → l.batch ++ l.lines ≡ [])

abbrev pub decreases-loop-work : goal.decreases-loop-work
decreases-loop-work g l = length (l.batch ++ l.lines)
