use Rattle.vrl_state.proofs.JoinedScopes.{same_scopes_stay}
use Rattle.vrl_state.proofs.laws.joins_keep_scopes.Goals as goal

pub returns : goal.returns
returns c = same_scopes_stay c.equal_tags_are_one_kind.ensures
