use Rattle.std.proofs.Common.{◌≡◌, ◌∙◌, ◌++◌, [], false, sym, subst, rules}
use Rattle.vrl_batch.proofs.Asks.{asks-line, on_err}
use Rattle.vrl_batch.specs.Lines.{moment_count}
use Rattle.vrl_batch.specs.Moments.{MovesAtMost}
use Rattle.vrl_batch.proofs.begun.Begun.end_line.Goals as goal

pub returns-in_err-push-clause-asks : goal.returns-in_err-push-clause-asks
returns-in_err-push-clause-asks g c line part_is =
    let none : line ≡ [] = c.is_empty.ensures.only line part_is (search rules) in
    let other : c.is_blank.result ≡ false = search rules in
    on_err c.from_residual-in_err-push.result
    (subst (λ x. MovesAtMost (g.C.Clock.ahead c.args.clock.now) (moment_count (x ++ c.args.bytes.now)) (g.C.Clock.ahead c.moment.new.self)) (sym none)
    (asks-line _ _ _ c.args.bytes.now (sym c.is_blank.ensures ∙ other) c.moment.ensures))
