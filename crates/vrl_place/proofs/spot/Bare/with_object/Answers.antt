use Rattle.std.proofs.Common.{sym, ap, ◌∙◌}
use Rattle.std.proofs.lemmas.Result.{IfOk-weaker}
use Rattle.vrl_kind.specs.Change.{with_object}
use Rattle.vrl_kind.specs.Kinds.{SameTags}
use Rattle.vrl_kind.specs.Make.{named_view}
use Rattle.vrl_kind.specs.View.{rest_of}
use Rattle.vrl_place.specs.Inner.{bare_sets}
use Rattle.vrl_place.proofs.Views.{object_over}
use Rattle.vrl_place.proofs.spot.Bare.with_object.Goals as goal

pub returns-in-Json : goal.returns-in-Json
returns-in-Json c = IfOk-weaker c.with_object.result (λ kind. SameTags kind (with_object c.json.result (named_view c.args.fields.items) (rest_of c.args.rest))) _
    (λ kind made. object_over c.json.result kind (bare_sets c.args.self) _ _ (λ p t. ap (λ T. T t) (c.json.ensures.tags p) ∙ ap (λ b. bare_sets b p t) (sym c.in-Json.is)) made)
    c.with_object.ensures

pub returns-in-Any : goal.returns-in-Any
returns-in-Any c = IfOk-weaker c.with_object-in-Any.result (λ kind. SameTags kind (with_object c.any.result (named_view c.args.fields.items) (rest_of c.args.rest))) _
    (λ kind made. object_over c.any.result kind (bare_sets c.args.self) _ _ (λ p t. ap (λ T. T t) (c.any.ensures.tags p) ∙ ap (λ b. bare_sets b p t) (sym c.in-Any.is)) made)
    c.with_object-in-Any.ensures

pub returns-in-Exact : goal.returns-in-Exact
returns-in-Exact c = IfOk-weaker c.with_object-in-Exact.result (λ kind. SameTags kind (with_object c.in-Exact.kind.now (named_view c.args.fields.items) (rest_of c.args.rest))) _
    (λ kind made. object_over c.in-Exact.kind.now kind (bare_sets c.args.self) _ _ (λ p t. ap (λ b. bare_sets b p t) (sym c.in-Exact.is)) made)
    c.with_object-in-Exact.ensures
