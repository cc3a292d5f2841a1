use Rattle.fn_search.proofs.Fielded.{known_on}
use Rattle.fn_search.proofs.fields.known_fields.Goals as goal

pub loop-name-preserved : goal.loop-name-preserved
loop-name-preserved c =
    known_on c.args.names.now c.loop-name.name-index c.name-item.result c.name-item.result _ _ c.loop-name-test.true c.name-item.is c.in_ok-push_known.ensures c.loop-name.invariant
