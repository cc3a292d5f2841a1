use Rattle.std.proofs.Common.{◌∙◌}
use Rattle.vrl_value.proofs.Put.{members_count-out}
use Rattle.vrl_value.proofs.value.Fields.len.Goals as goal

pub returns : goal.returns
returns c = c.len.ensures.len ∙ members_count-out c.args.self.now
