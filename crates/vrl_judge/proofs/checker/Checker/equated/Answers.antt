use Rattle.std.proofs.Common.{subst, sym}
use Rattle.vrl_judge.specs.Judging.{IsEquatedAs}
use Rattle.vrl_judge.proofs.Forms.{equated}
use Rattle.vrl_judge.proofs.checker.Checker.equated.Goals as goal

pub returns : goal.returns
returns c =
    let whole = equated c.args.span c.args.self.now c.report.new.self c.args.chained c.args.parts c.report.new.ends _ c.in_ok-report.ensures c.in_ok-kind.ensures in
    subst (λ es. IsEquatedAs c.args.span c.args.chained c.args.parts c.args.self.now c.report.new.self (record { kind = c.in_ok-kind.kind; ends = es })) (sym c.into_ends-ends.ensures) whole
