use Rattle.std.proofs.Common.{◌≡◌, rules}
use Rattle.vrl_state.proofs.Versions.{names_kept}
use Rattle.vrl_state.proofs.variables.VariableKinds.kept.Goals as goal

pub returns : goal.returns
returns c =
    let same : c.in_ok-tree.tree.entries ≡ c.self.inside.tree.entries = search rules in
    names_kept c.self.inside.tree.entries c.names.inside.tree.entries c.in_ok-tree.tree.entries c.keep_into.new.kept.entries c.args.self.now c.args.names.now c.self.invariant c.names.invariant c.names_rise.ensures c.self.view_is c.names.view_is same c.in_ok-keep_into.ensures
