use Rattle.vrl_kind.specs.Kinds.{tags_at}
use Rattle.vrl_place.specs.Inner.{spot_sets}
use Rattle.vrl_place.proofs.Changed.{opened_made}
use Rattle.vrl_place.proofs.fields.copied.Goals as goal

pub returns-clause-kind : goal.returns-clause-kind
returns-clause-kind c = opened_made c.args.absent (tags_at c.in_ok-kind.field-0) (spot_sets c.or_absent_if.result) (spot_sets c.of.result) (tags_at c.args.field.now.kind) c.in_ok-kind.ensures c.or_absent_if.ensures c.of.ensures
