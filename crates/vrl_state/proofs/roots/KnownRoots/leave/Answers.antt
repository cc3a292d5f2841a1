use Rattle.vrl_state.specs.View.{scope_of}
use Rattle.vrl_state.proofs.Behind.{scope_left}
use Rattle.vrl_state.proofs.Limits.{left_roots}
use Rattle.vrl_state.proofs.roots.KnownRoots.leave.Goals as goal

pub invariant_of-self : goal.invariant_of-self
invariant_of-self c = left_roots (scope_of c.args.names.now c.args.hidden.now) _ _ _ _ c.in_ok-kept.ensures c.in_ok-variables.ensures c.requires c.self.invariant

pub returns-clause-ok : goal.returns-clause-ok
returns-clause-ok c = scope_left (scope_of c.args.names.now c.args.hidden.now) _ _ _ _ _ c.self.view_is c.in_ok-kept.ensures c.in_ok-variables.ensures
