use Rattle.vrl_state.proofs.Versions.{over_versions}
use Rattle.vrl_state.proofs.variables.VariableKinds.within.Goals as goal

pub returns : goal.returns
returns c =
    let over = over_versions c.self.inside.tree.entries c.other.inside.tree.entries c.args.self.now c.args.other.now c.self.invariant c.other.invariant c.self.view_is c.other.view_is in
    (λ yes. over.0 (c.is_over.ensures.0 yes), λ all. c.is_over.ensures.1 (over.1 all))
