use Rattle.std.proofs.Common.{sym}
use Rattle.vrl_kind.proofs.Repeating.{more_here, none_elsewhere}
use Rattle.vrl_kind.proofs.stretch.Stretch.more_at.Goals as goal

pub returns-then-place-self : goal.returns-then-place-self
returns-then-place-self c = sym (more_here c.args.self.place c.args.self.more c.args.place c.if-place-self.true)

pub returns-else-place-self : goal.returns-else-place-self
returns-else-place-self c = sym (none_elsewhere c.args.self.place c.args.self.more c.args.place c.if-place-self.false)
