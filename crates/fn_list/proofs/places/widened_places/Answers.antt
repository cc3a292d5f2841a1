use Rattle.std.proofs.Common.{arith}
use Rattle.vrl_kind.specs.Kinds.{tags_at}
use Rattle.fn_list.proofs.Widening.{all_widened}
use Rattle.fn_list.proofs.places.widened_places.Goals as goal

pub returns : goal.returns
returns c =
    all_widened (tags_at c.args.with.now) c.args.places.now c.loop-place.place-index c.loop-place.sure c.loop-place.kinds.items (omega (arith, c.loop-place-test.false)) c.loop-place.invariant
