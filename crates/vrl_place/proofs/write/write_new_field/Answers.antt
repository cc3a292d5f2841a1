use Rattle.std.proofs.Common.{[]}
use Rattle.vrl_value.specs.declared.value.Tag.TheVariants as tag
use Rattle.vrl_kind.specs.Kinds.{tags_at}
use Rattle.vrl_place.specs.Inner.{spot_sets}
use Rattle.vrl_place.proofs.InPlace.{alone_there, written_others}
use Rattle.vrl_place.proofs.write.write_new_field.Goals as goal

pub put_field-requires : goal.put_field-requires
put_field-requires c = alone_there (tags_at c.args.kind.now []) tag.Object c.requires.alone

pub returns-clause-ok : goal.returns-clause-ok
returns-clause-ok c =
    written_others c.args.kind.now (tags_at c.args.new.now) (spot_sets c.other_fields.result) (tags_at c.in_ok-part.part) (tags_at c.put_field.new.self) c.args.behind.now c.args.name.now
    c.requires.alone c.requires.unknown c.other_fields.ensures c.in_ok-part.ensures c.in_ok-put_field.ensures.put
