use Rattle.std.proofs.Common.{◌≡◌, rules}
use Rattle.vrl_state.specs.States.{IsRootKindIf}
use Rattle.vrl_state.proofs.Versions.{all_joined, at_each, whole_is_part}
use Rattle.vrl_state.proofs.variables.VariableKinds.joined.Goals as goal

pub join_into-requires-clause-kinds : goal.join_into-requires-clause-kinds
join_into-requires-clause-kinds c = at_each (λ x K. IsRootKindIf K) c.self.inside.tree.entries c.args.self.now c.self.invariant c.self.view_is c.requires.first

pub join_into-requires-clause-others : goal.join_into-requires-clause-others
join_into-requires-clause-others c = at_each (λ x K. IsRootKindIf K) c.other.inside.tree.entries c.args.other.now c.other.invariant c.other.view_is c.requires.second

pub join_into-requires-clause-part : goal.join_into-requires-clause-part
join_into-requires-clause-part c =
    let same : c.in_ok-tree.tree.entries ≡ c.self.inside.tree.entries = search rules in
    whole_is_part c.self.inside.tree.entries c.in_ok-tree.tree.entries same

pub returns : goal.returns
returns c =
    let same : c.in_ok-tree.tree.entries ≡ c.self.inside.tree.entries = search rules in
    all_joined c.self.inside.tree.entries c.other.inside.tree.entries c.in_ok-tree.tree.entries c.join_into.new.joined.entries c.args.self.now c.args.other.now c.self.invariant c.other.invariant c.names_rise.ensures c.self.view_is c.other.view_is same c.in_ok-join_into.ensures
