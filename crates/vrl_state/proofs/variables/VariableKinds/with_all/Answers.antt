use Rattle.std.proofs.Common.{◌≡◌, rules}
use Rattle.vrl_state.specs.Merging.{puts}
use Rattle.vrl_state.proofs.Versions.{all_put}
use Rattle.vrl_state.proofs.variables.VariableKinds.with_all.Goals as goal

pub returns : goal.returns
returns c =
    let put : c.put_into.new.others.entries ≡ puts c.others.inside.tree.entries c.self.inside.tree.entries = search rules in
    all_put c.others.inside.tree.entries c.self.inside.tree.entries c.put_into.new.others.entries c.args.others.now c.args.self.now c.others.invariant c.self.invariant c.others.view_is c.self.view_is put
