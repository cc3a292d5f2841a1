use Rattle.vrl_state.proofs.Replacing.{AreSoFar}
use Rattle.vrl_state.proofs.roots.KnownRoots.listed.Given as goal

abbrev pub invariant-loop-variable : goal.invariant-loop-variable
invariant-loop-variable l = AreSoFar l.list l.variables l.variable-index l.known
