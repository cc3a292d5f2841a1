use Rattle.std.proofs.Common.{subst, sym}
use Rattle.vrl_judge.specs.Judging.{ArePairedAs}
use Rattle.vrl_judge.specs.declared.operators.Operands.{Operands}
use Rattle.vrl_judge.proofs.Forms.{paired}
use Rattle.vrl_judge.proofs.checker.Checker.paired.Goals as goal

pub returns : goal.returns
returns c =
    let given = c.args.left_no_object in
    let found = c.is_other-right_no_object.result in
    let are : Operands → Type 0 = ArePairedAs c.args.left given c.args.right c.args.self.now in
    let whole = paired c.args.left c.args.right given found c.args.self.now c.absorb.new.self c.is_other-right_no_object.ensures c.in_ok-right.ensures.joined c.in_ok-right.ensures.scopes in
    let right = subst (λ K. are (record { left = c.args.left.kind; right = K; left_no_object = given; right_no_object = found; ends = c.absorb.new.self })) (sym c.in_ok-right.ensures.kind) whole in
    let left = subst (λ K. are (record { left = K; right = c.in_ok-right.right; left_no_object = given; right_no_object = found; ends = c.absorb.new.self })) (sym c.into_parts-left.ensures.kind) right in
    subst (λ es. are (record { left = c.into_parts-left.result.0; right = c.in_ok-right.right; left_no_object = given; right_no_object = found; ends = es })) (sym c.into_parts-left.ensures.ends) left
