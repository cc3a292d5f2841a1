use Rattle.std.proofs.Common.{refl}
use Rattle.vrl_token.proofs.Walks.{flaw_noted, step_taken}
use Rattle.vrl_token.proofs.path.Gathering.add.Goals as goal

pub returns-in_ok-push-in-Ok : goal.returns-in_ok-push-in-Ok
returns-in_ok-push-in-Ok c = λ before spelled gathered said.
    step_taken before c.args.self.now.flaw _ c.args.self.now.steps.items c.push.new.self.items c.in-Ok.step spelled refl c.in_ok-push-in-Ok.ensures.items (rw c.in-Ok.is at (c.in_ok-step.ensures spelled said)) gathered

pub returns-in-Err : goal.returns-in-Err
returns-in-Err c = λ before spelled gathered said.
    flaw_noted before c.args.self.now.flaw c.in-Err.flaw c.note.new.self.flaw c.args.self.now.steps.items c.note.new.self.steps.items spelled c.note.ensures.flaw (rw c.in-Err.is at (c.in_ok-step.ensures spelled said)) gathered
