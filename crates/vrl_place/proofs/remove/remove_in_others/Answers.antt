use Rattle.vrl_kind.specs.Kinds.{tags_at}
use Rattle.vrl_place.specs.Inner.{spot_sets}
use Rattle.vrl_place.proofs.InPlace.{removed_others}
use Rattle.vrl_place.proofs.remove.remove_in_others.Goals as goal

pub returns-clause-ok : goal.returns-clause-ok
returns-clause-ok c =
    removed_others c.args.kind.now (spot_sets c.other_fields.result) (tags_at c.in_ok-part.part) (tags_at c.put_field.new.self) c.args.behind.now c.args.name.now
    c.requires.some c.requires.unknown c.other_fields.ensures c.in_ok-part.ensures c.in_ok-put_field.ensures.put
