use Rattle.std.proofs.Common.{◌∙◌}
use Rattle.vrl_value.proofs.Places.{vec_len_view}
use Rattle.vrl_value.proofs.value.Items.len.Goals as goal

pub returns : goal.returns
returns c = c.len.ensures ∙ vec_len_view c.args.self.now
