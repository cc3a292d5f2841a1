use Rattle.std.proofs.Common.{sym, ap, ◌∙◌}
use Rattle.std.proofs.lemmas.Result.{IfOk-weaker}
use Rattle.vrl_kind.specs.Change.{with_list}
use Rattle.vrl_kind.specs.Kinds.{SameTags}
use Rattle.vrl_kind.specs.View.{places_view, rest_of}
use Rattle.vrl_place.specs.Inner.{bare_sets}
use Rattle.vrl_place.proofs.Views.{list_over}
use Rattle.vrl_place.proofs.spot.Bare.with_list.Goals as goal

pub returns-in-Json : goal.returns-in-Json
returns-in-Json c = IfOk-weaker c.with_list.result (λ kind. SameTags kind (with_list c.json.result (places_view c.args.places.items) (rest_of c.args.rest))) _
    (λ kind made. list_over c.json.result kind (bare_sets c.args.self) _ _ (λ p t. ap (λ T. T t) (c.json.ensures.tags p) ∙ ap (λ b. bare_sets b p t) (sym c.in-Json.is)) made)
    c.with_list.ensures

pub returns-in-Any : goal.returns-in-Any
returns-in-Any c = IfOk-weaker c.with_list-in-Any.result (λ kind. SameTags kind (with_list c.any.result (places_view c.args.places.items) (rest_of c.args.rest))) _
    (λ kind made. list_over c.any.result kind (bare_sets c.args.self) _ _ (λ p t. ap (λ T. T t) (c.any.ensures.tags p) ∙ ap (λ b. bare_sets b p t) (sym c.in-Any.is)) made)
    c.with_list-in-Any.ensures

pub returns-in-Exact : goal.returns-in-Exact
returns-in-Exact c = IfOk-weaker c.with_list-in-Exact.result (λ kind. SameTags kind (with_list c.in-Exact.kind.now (places_view c.args.places.items) (rest_of c.args.rest))) _
    (λ kind made. list_over c.in-Exact.kind.now kind (bare_sets c.args.self) _ _ (λ p t. ap (λ b. bare_sets b p t) (sym c.in-Exact.is)) made)
    c.with_list-in-Exact.ensures
