use Rattle.std.proofs.Common.{subst}
use Rattle.vrl_judge.specs.Rules.{IsReadAt}
use Rattle.vrl_judge.proofs.Forms.{read_off}
use Rattle.vrl_judge.proofs.checker.Checker.read_off.Goals as goal

pub returns : goal.returns
returns c = read_off c.args.path.now c.args.part c.args.self.now _ (subst (λ K. IsReadAt K c.args.path.now c.in_ok-part.field-0) c.as_kind.ensures c.in_ok-part.ensures)
