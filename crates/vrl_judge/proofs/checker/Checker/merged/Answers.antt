use Rattle.std.proofs.Common.{subst, sym}
use Rattle.vrl_judge.specs.Judging.{IsMergedAs}
use Rattle.vrl_judge.proofs.Forms.{merged}
use Rattle.vrl_judge.proofs.checker.Checker.merged.Goals as goal

pub returns : goal.returns
returns c =
    let whole = merged c.args.left_span c.args.right_span c.args.self.now c.report.new.self c.report-2.new.self c.args.parts c.report.new.ends c.report-2.new.ends _ c.in_ok-report.ensures c.in_ok-report-2.ensures c.in_ok-kind.ensures in
    subst (λ es. IsMergedAs c.args.left_span c.args.right_span c.args.parts c.args.self.now c.report-2.new.self (record { kind = c.in_ok-kind.kind; ends = es })) (sym c.into_ends-ends.ensures) whole
