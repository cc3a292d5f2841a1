use Rattle.std.proofs.Common.{sym, ap, ◌∙◌}
use Rattle.std.specs.FinMap as map
use Rattle.vrl_state.proofs.Versions.{at_found}
use Rattle.vrl_state.proofs.variables.VariableKinds.get.Goals as goal

pub returns : goal.returns
returns c = c.get.ensures ∙ sym (at_found c.self.inside.tree.entries c.args.name.now c.self.invariant) ∙ ap (λ m. map.get m c.args.name.now) c.self.view_is
