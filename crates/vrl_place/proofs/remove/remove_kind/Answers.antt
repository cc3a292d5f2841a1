use Rattle.std.proofs.lemmas.Result.{on_ok_weaker}
use Rattle.vrl_kind.specs.Kinds.{tags_at}
use Rattle.vrl_place.proofs.Removed.{kept_inhabits, removed_inhabits}
use Rattle.vrl_place.proofs.Removing.{remove_along, removed_root}
use Rattle.vrl_place.proofs.remove.remove_kind.Goals as goal

pub returns-clause-tags : goal.returns-clause-tags
returns-clause-tags c = on_ok_weaker c.remove_in.result (λ is. remove_along (tags_at c.args.kind.now) (tags_at c.remove_in.new.kind) _ _ c.as_slice.ensures is) c.remove_in.ensures.ok

pub returns-clause-inhabited : goal.returns-clause-inhabited
returns-clause-inhabited c = on_ok_weaker c.remove_in.result
    (λ taken value left old some is. removed_inhabits value left c.args.path.now (tags_at c.args.kind.now) (tags_at c.remove_in.new.kind)
    (remove_along (tags_at c.args.kind.now) (tags_at c.remove_in.new.kind) _ _ c.as_slice.ensures taken) old some is) c.remove_in.ensures.ok

pub returns-clause-unchanged : goal.returns-clause-unchanged
returns-clause-unchanged c = on_ok_weaker c.remove_in.result
    (λ taken value old none. kept_inhabits value c.args.path.now (tags_at c.args.kind.now) (tags_at c.remove_in.new.kind)
    (remove_along (tags_at c.args.kind.now) (tags_at c.remove_in.new.kind) _ _ c.as_slice.ensures taken) old none) c.remove_in.ensures.ok

pub returns-clause-root : goal.returns-clause-root
returns-clause-root c = on_ok_weaker c.remove_in.result
    (λ taken t. removed_root (tags_at c.args.kind.now) (tags_at c.remove_in.new.kind) c.args.path.now t
    (remove_along (tags_at c.args.kind.now) (tags_at c.remove_in.new.kind) _ _ c.as_slice.ensures taken)) c.remove_in.ensures.ok
