use Rattle.std.proofs.Common.{◌≡◌, ◌++◌, ◌||◌, drop}
use Rattle.vrl_generate.specs.Summary.{is_marked}
use Rattle.vrl_run.specs.Answer.{outputs, reports}
use Rattle.vrl_run.proofs.joining.join_results.Given as goal

-- what is left, behind what is joined, is the whole
abbrev pub invariant-loop-made : goal.invariant-loop-made
invariant-loop-made l =
    let left = drop l.made-index l.results in record {
      output : l.all.output.items ++ outputs left ≡ outputs l.results;
      report : l.all.report.items ++ reports left ≡ reports l.results;
      marked : (l.all.marked || is_marked left) ≡ is_marked l.results;
    }
