use Rattle.std.proofs.Common.{ap, ◌∙◌}
use Rattle.vrl_state.specs.View.{variables_of}
use Rattle.vrl_state.proofs.Versions.{no_entries}
use Rattle.vrl_state.proofs.variables.VariableKinds.new.Goals as goal

pub returns : goal.returns
returns c = ap variables_of c.new-tree.ensures.entries ∙ no_entries
