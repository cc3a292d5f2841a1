use Rattle.std.proofs.Common.{◌∙◌}
use Rattle.vrl_state.proofs.Turning.{found_some}
use Rattle.vrl_state.proofs.variables.VariableKinds.has.Goals as goal

pub returns : goal.returns
returns c = c.is_some.ensures ∙ found_some _ c.get.result _ c.get.ensures
