use Rattle.std.proofs.Common.{ap, ◌∙◌}
use Rattle.vrl_kind.specs.Kinds.{tags_at}
use Rattle.vrl_place.specs.Absence.{may_be_absent}
use Rattle.vrl_place.specs.Inner.{spot_sets}
use Rattle.vrl_place.proofs.Same.{one_sets}
use Rattle.vrl_place.proofs.Values.{absent_in}
use Rattle.vrl_place.proofs.absence.may_be_absent.Goals as goal

pub returns-clause-inhabited : goal.returns-clause-inhabited
returns-clause-inhabited c = λ value old none.
    c.may_be_absent_at.ensures
    ∙ ap (λ A. may_be_absent A c.as_slice.result.now) (one_sets (spot_sets c.of.result) (tags_at c.args.kind.now) c.of.ensures)
    ∙ ap (may_be_absent (tags_at c.args.kind.now)) c.as_slice.ensures
    ∙ absent_in c.args.path.now value (tags_at c.args.kind.now) old none
