use Rattle.vrl_kind.specs.Kinds.{tags_at}
use Rattle.vrl_place.proofs.Values.{read_inhabits}
use Rattle.vrl_place.proofs.laws.reads_are_of_their_kind.Goals as goal

pub returns : goal.returns
returns c = λ value path K M has. read_inhabits path value (tags_at K) (tags_at M) has
