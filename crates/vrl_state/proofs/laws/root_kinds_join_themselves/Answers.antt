use Rattle.vrl_state.proofs.JoinedScopes.{one_kind}
use Rattle.vrl_state.proofs.laws.root_kinds_join_themselves.Goals as goal

pub returns : goal.returns
returns c = one_kind c.equal_tags_are_one_kind.ensures
