use Rattle.vrl_state.proofs.Limits.{either_roots, either_seen}
use Rattle.vrl_state.proofs.roots.KnownRoots.joined.Goals as goal

pub invariant_of-result : goal.invariant_of-result
invariant_of-result c = either_roots _ _ _ (record { event = c.in_ok-event.ensures; variables = c.in_ok-variables.ensures }) c.self.invariant c.other.invariant

pub returns : goal.returns
returns c = either_seen _ _ _ _ _ c.self.view_is c.other.view_is (record { event = c.in_ok-event.ensures; variables = c.in_ok-variables.ensures })
