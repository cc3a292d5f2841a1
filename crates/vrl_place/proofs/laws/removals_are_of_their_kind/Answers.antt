use Rattle.vrl_kind.specs.Kinds.{tags_at}
use Rattle.vrl_place.proofs.Removed.{removed_inhabits}
use Rattle.vrl_place.proofs.laws.removals_are_of_their_kind.Goals as goal

pub returns : goal.returns
returns c = λ value without path K M taken. removed_inhabits value without path (tags_at K) (tags_at M) taken
