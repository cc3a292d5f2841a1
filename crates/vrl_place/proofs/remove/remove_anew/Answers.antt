use Rattle.vrl_kind.specs.Kinds.{tags_at}
use Rattle.vrl_place.specs.Inner.{spot_sets}
use Rattle.vrl_place.proofs.InPlace.{remove_from}
use Rattle.vrl_place.proofs.remove.remove_anew.Goals as goal

pub returns-clause-ok : goal.returns-clause-ok
returns-clause-ok c = remove_from (spot_sets c.of.result) (tags_at c.args.kind.now) (tags_at c.in_ok-left.left) c.args.steps.now c.of.ensures c.in_ok-left.ensures
