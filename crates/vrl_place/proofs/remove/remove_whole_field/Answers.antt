use Rattle.vrl_kind.specs.Kinds.{tags_at}
use Rattle.vrl_place.proofs.InPlace.{removed_whole}
use Rattle.vrl_place.proofs.remove.remove_whole_field.Goals as goal

pub returns-clause-ok : goal.returns-clause-ok
returns-clause-ok c = removed_whole (tags_at c.args.kind.now) (tags_at c.put_field.new.self) (tags_at c.of-absent.result) c.args.name.now c.requires c.of-absent.ensures c.in_ok-put_field.ensures.put
