use Rattle.std.proofs.Common.{sym, ◌∙◌}
use Rattle.std.proofs.lemmas.Result.{IfOk-weaker}
use Rattle.vrl_kind.specs.Kinds.{tags_at}
use Rattle.vrl_place.specs.Inner.{spot_sets}
use Rattle.vrl_place.specs.Read.{HasJust, allowed, read, read_step}
use Rattle.vrl_place.proofs.Reading.{read_present, read_same}
use Rattle.vrl_place.proofs.Values.{read_inhabits}
use Rattle.vrl_place.proofs.read.read_kind.Goals as goal

pub returns-in-Some-clause-tags : goal.returns-in-Some-clause-tags
returns-in-Some-clause-tags c = IfOk-weaker c.read_behind.result (λ kind. HasJust (tags_at kind) (read (read_step (allowed (spot_sets c.of.result)) c.in-Some.step.now) c.in-Some.behind.now)) _
    (λ kind has. read_same _ _ (tags_at kind) c.in-Some.step.now c.in-Some.behind.now c.args.path.now c.of.ensures (sym c.as_slice.ensures ∙ c.in-Some.ensures.cases.0) has) c.read_behind.ensures

pub returns-in-Some-clause-inhabited : goal.returns-in-Some-clause-inhabited
returns-in-Some-clause-inhabited c = IfOk-weaker c.read_behind.result (λ kind. HasJust (tags_at kind) (read (read_step (allowed (spot_sets c.of.result)) c.in-Some.step.now) c.in-Some.behind.now)) _
    (λ kind has value old. read_inhabits c.args.path.now value (tags_at c.args.kind.now) (tags_at kind)
    (read_same _ _ (tags_at kind) c.in-Some.step.now c.in-Some.behind.now c.args.path.now c.of.ensures (sym c.as_slice.ensures ∙ c.in-Some.ensures.cases.0) has) old) c.read_behind.ensures

pub returns-in-Some-clause-present : goal.returns-in-Some-clause-present
returns-in-Some-clause-present c = IfOk-weaker c.read_behind.result (λ kind. HasJust (tags_at kind) (read (read_step (allowed (spot_sets c.of.result)) c.in-Some.step.now) c.in-Some.behind.now)) _
    (λ kind has present. read_present (tags_at c.args.kind.now) (tags_at kind) c.args.path.now
    (read_same _ _ (tags_at kind) c.in-Some.step.now c.in-Some.behind.now c.args.path.now c.of.ensures (sym c.as_slice.ensures ∙ c.in-Some.ensures.cases.0) has) present) c.read_behind.ensures
