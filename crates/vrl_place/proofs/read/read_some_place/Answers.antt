use Rattle.std.proofs.Common.{[]}
use Rattle.vrl_kind.specs.Kinds.{tags_at}
use Rattle.vrl_place.specs.Inner.{spot_sets}
use Rattle.vrl_place.proofs.Reading.{read_end, read_some}
use Rattle.vrl_place.proofs.read.read_some_place.Goals as goal

pub returns : goal.returns
returns c = read_some (spot_sets c.args.spot) (tags_at c.in_ok-part.part) (spot_sets c.of.result) (spot_sets c.or_absent_if-open.result) (tags_at c.null_for_absent.result) []
    c.in_ok-part.ensures c.of.ensures c.or_absent_if-open.ensures
    (read_end (spot_sets c.or_absent_if-open.result) (tags_at c.in_ok-kind.field-0) (tags_at c.null_for_absent.result) c.in_ok-kind.ensures c.null_for_absent.ensures)
