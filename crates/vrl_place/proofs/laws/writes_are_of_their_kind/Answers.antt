use Rattle.vrl_kind.specs.Kinds.{tags_at}
use Rattle.vrl_place.proofs.Written.{written_inhabits}
use Rattle.vrl_place.proofs.laws.writes_are_of_their_kind.Goals as goal

pub returns : goal.returns
returns c = λ value part set path K N M write old new is.
    written_inhabits c.sets_go_on.ensures value part set path (tags_at K) (tags_at N) (tags_at M) write old new is
