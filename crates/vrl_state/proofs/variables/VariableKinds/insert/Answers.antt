use Rattle.std.proofs.Common.{◌≡◌, rules}
use Rattle.vrl_state.specs.Ordered.{put_entry}
use Rattle.vrl_state.proofs.Versions.{inserted}
use Rattle.vrl_state.proofs.variables.VariableKinds.insert.Goals as goal

pub returns-clause-ok : goal.returns-clause-ok
returns-clause-ok c =
    let put : c.in_ok-tree.tree.entries ≡ put_entry (c.args.name.now, c.args.kind.value) c.self.inside.tree.entries = search rules in
    inserted c.self.inside.tree.entries c.in_ok-tree.tree.entries (c.args.name.now, c.args.kind.value) c.args.self.now c.self.invariant c.self.view_is put
