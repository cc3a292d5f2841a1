use Rattle.std.proofs.Common.{◌++◌, length, subst}
use Rattle.vrl_batch.proofs.Asks.{on_err}
use Rattle.vrl_batch.specs.Lines.{event_lines_from}
use Rattle.vrl_batch.specs.Moments.{MovesAtMost}
use Rattle.vrl_batch.proofs.reader.add_rest.Goals as goal

pub returns-in_err-used-clause-asks : goal.returns-in_err-used-clause-asks
returns-in_err-used-clause-asks g c first ahead front part begun =
    on_err c.from_residual.result
    (subst (λ x. MovesAtMost ahead (length (event_lines_from first (front ++ (part ++ x)))) (g.C.Clock.ahead c.add_lines.new.clock)) c.rest.ensures
    (c.in_err-used.ensures.asks first ahead front part begun))
