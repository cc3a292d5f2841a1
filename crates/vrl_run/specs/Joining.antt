-- What the results of lines are joined to.
use Rattle.std.specs.Prelude.{◌≡◌, List, ◌++◌, ◌||◌}
use Rattle.vrl_batch.specs.declared.work.LineOut.{LineOut}
use Rattle.vrl_generate.specs.Summary.{is_marked, is_refused}
use Rattle.vrl_run.specs.Answer.{outputs, reports}
use Rattle.vrl_run.specs.declared.joining.Joined.{Joined}

-- the results, one after another
pub record AreJoined (results : List LineOut) (joined : Joined) : Type 0 where
  pub output : joined.output.items ≡ outputs results
  pub report : joined.report.items ≡ reports results
  pub marked : joined.marked ≡ is_marked results

-- the result of one line more
pub record AddsResult (joined joined_after : Joined) (result : LineOut) : Type 0 where
  pub output : joined_after.output.items ≡ joined.output.items ++ result.output
  pub report : joined_after.report.items ≡ joined.report.items ++ result.report
  pub marked : joined_after.marked ≡ (joined.marked || is_refused result.outcome)
