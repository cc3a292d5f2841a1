use Rattle.std.proofs.Common.{◌++◌, map, sym, ap, ◌∙◌}
use Rattle.std.specs.FinMap.{entries}
use Rattle.vrl_state.specs.Known.{variable_kind}
use Rattle.vrl_state.proofs.Versions.{entries_of}
use Rattle.vrl_state.proofs.variables.VariableKinds.add_to.Goals as goal

pub returns : goal.returns
returns c = c.in_ok-add_to.ensures ∙ ap (λ es. c.args.roots.now.items ++ map variable_kind es) (sym (entries_of c.self.inside.tree.entries c.self.invariant) ∙ ap entries c.self.view_is)
