use Rattle.std.proofs.Common.{drop, List}
use Rattle.vrl_batch.specs.declared.work.LineOut.{LineOut}
use Rattle.vrl_generate.specs.Summary.{IsSummaryOf}
use Rattle.vrl_run.proofs.MadeLemmas.{IsAddedTo}
use Rattle.vrl_run.proofs.made.add_all.Given as goal

-- what is left is still to be added
abbrev pub invariant-loop-made : goal.invariant-loop-made
invariant-loop-made l = (outs : List LineOut) → IsSummaryOf outs l.fn.summary → IsAddedTo outs l.results (drop l.made-index l.results) l.summary
