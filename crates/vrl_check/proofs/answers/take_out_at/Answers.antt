use Rattle.std.proofs.Common.{length, sym, ◌∙◌}
use Rattle.std.proofs.lemmas.Bool.{eqb-false}
use Rattle.vrl_check.proofs.CallsDeleted.{more_deleted}
use Rattle.vrl_check.proofs.answers.take_out_at.Goals as goal

pub returns-then-not-is_empty-clause-known : goal.returns-then-not-is_empty-clause-known
returns-then-not-is_empty-clause-known c js at =
    more_deleted c.args.args.now c.in-Some.arg.now c.in-Some.others.now c.args.checker.now.state.known c.in-Some.ensures.cases.0 (eqb-false (length c.in-Some.others.now) 0 (sym c.is_empty.ensures ∙ c.if-not-is_empty.true)) js at
