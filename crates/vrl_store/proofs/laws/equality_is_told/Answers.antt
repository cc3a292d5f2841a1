use Rattle.vrl_store.proofs.Equality.{equality_is_told}
use Rattle.vrl_store.proofs.laws.equality_is_told.Goals as goal

pub returns : goal.returns
returns c = equality_is_told
