use Rattle.std.proofs.lemmas.Result.{on_ok_weaker}
use Rattle.vrl_kind.specs.Kinds.{tags_at}
use Rattle.vrl_place.proofs.Writing.{write_along, written_present, written_root}
use Rattle.vrl_place.proofs.Written.{written_inhabits}
use Rattle.vrl_place.proofs.write.write_kind.Goals as goal

pub returns-clause-tags : goal.returns-clause-tags
returns-clause-tags c = on_ok_weaker c.write_in.result (λ is. write_along (tags_at c.args.kind.now) (tags_at c.args.new) (tags_at c.write_in.new.kind) _ _ c.as_slice.ensures is) c.write_in.ensures.ok

pub returns-clause-inhabited : goal.returns-clause-inhabited
returns-clause-inhabited c = on_ok_weaker c.write_in.result
    (λ is value part set old new sets. written_inhabits c.sets_go_on.ensures value part set c.args.path.now (tags_at c.args.kind.now) (tags_at c.args.new) (tags_at c.write_in.new.kind)
    (write_along (tags_at c.args.kind.now) (tags_at c.args.new) (tags_at c.write_in.new.kind) _ _ c.as_slice.ensures is) old new sets) c.write_in.ensures.ok

pub returns-clause-container : goal.returns-clause-container
returns-clause-container c = on_ok_weaker c.write_in.result
    (λ is. written_root (tags_at c.args.kind.now) (tags_at c.args.new) c.args.path.now c.write_in.new.kind
    (write_along (tags_at c.args.kind.now) (tags_at c.args.new) (tags_at c.write_in.new.kind) _ _ c.as_slice.ensures is)) c.write_in.ensures.ok

pub returns-clause-present : goal.returns-clause-present
returns-clause-present c = on_ok_weaker c.write_in.result
    (λ is present. written_present (tags_at c.args.kind.now) (tags_at c.args.new) (tags_at c.write_in.new.kind) c.args.path.now
    (write_along (tags_at c.args.kind.now) (tags_at c.args.new) (tags_at c.write_in.new.kind) _ _ c.as_slice.ensures is) present) c.write_in.ensures.ok
