use Rattle.vrl_state.proofs.Listed.{all_listed}
use Rattle.vrl_state.proofs.state.State.list.Goals as goal

pub returns-in_ok-list-in-Some-clause-kinds : goal.returns-in_ok-list-in-Some-clause-kinds
returns-in_ok-list-in-Some-clause-kinds c = all_listed _ _ c.in_ok-list-in-Some.ensures c.have_root_kinds.ensures
