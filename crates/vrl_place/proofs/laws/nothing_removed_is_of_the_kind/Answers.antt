use Rattle.vrl_kind.specs.Kinds.{tags_at}
use Rattle.vrl_place.proofs.Removed.{kept_inhabits}
use Rattle.vrl_place.proofs.laws.nothing_removed_is_of_the_kind.Goals as goal

pub returns : goal.returns
returns c = λ value path K M taken. kept_inhabits value path (tags_at K) (tags_at M) taken
