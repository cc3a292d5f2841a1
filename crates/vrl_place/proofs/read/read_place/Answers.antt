use Rattle.std.proofs.Common.{[], sym, ◌∙◌}
use Rattle.vrl_value.specs.Look.{place}
use Rattle.vrl_kind.specs.Kinds.{tags_at}
use Rattle.vrl_place.specs.Inner.{spot_sets}
use Rattle.vrl_place.proofs.Reading.{read_end, read_opened}
use Rattle.vrl_place.proofs.read.read_place.Goals as goal

pub returns : goal.returns
returns c = read_opened (spot_sets c.args.spot) (spot_sets c.place-part.result) (spot_sets c.or_absent_if-open.result) (tags_at c.null_for_absent.result) (place c.args.at) c.has_other.result []
    c.has_other.ensures (λ p u. c.place-part.ensures p u ∙ sym (c.places.ensures.at c.args.at p u)) c.or_absent_if-open.ensures
    (read_end (spot_sets c.or_absent_if-open.result) (tags_at c.in_ok-kind.field-0) (tags_at c.null_for_absent.result) c.in_ok-kind.ensures c.null_for_absent.ensures)
