use Rattle.vrl_judge.specs.ChangedParts.{put_part}
use Rattle.vrl_judge.proofs.CollectionKinds.{all_made, one_made}
use Rattle.vrl_judge.proofs.closures.mapped_fields.Goals as goal

pub loop-last-preserved : goal.loop-last-preserved
loop-last-preserved c =
    one_made (put_part c.args.body.now) c.in-Some.last.now _ _ _ _ _ c.in_ok-kind.kind c.in-Some.ensures.cases.0 c.in_ok-add_field.ensures c.in_ok-kind.ensures.put c.loop-last.invariant

pub returns : goal.returns
returns c = all_made (put_part c.args.body.now) _ _ _ c.in_default.ensures.cases c.loop-last.invariant
