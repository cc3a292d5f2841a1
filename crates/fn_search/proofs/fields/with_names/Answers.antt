use Rattle.std.proofs.Common.{◌≡◌, ◌∷◌, sym, ap, subst, ◌∙◌, rules}
use Rattle.vrl_value.specs.View.{members_of}
use Rattle.vrl_pattern.specs.Places.{place_spans, AreParts}
use Rattle.fn_search.specs.Fields.{with_names}
use Rattle.fn_search.proofs.Fielded.{parts_later}
use Rattle.fn_search.proofs.fields.with_names.Goals as goal

pub loop-name-preserved : goal.loop-name-preserved
loop-name-preserved c =
    let text = c.args.text.now in
    let gs = place_spans c.loop-name.left.now in
    let later = c.later_groups-left.ensures in
    let is : c.loop-name.names_left.now ≡ c.in-Some.name.now ∷ c.in-Some.others.now = search rules in (
      (λ i. with_names c.in-Some.others.now text (later i) (c.in_ok-put_first.ensures i)) ∙ ap (λ ns. with_names ns text gs (members_of c.loop-name.fields)) (sym is) ∙ c.loop-name.invariant.0,
      subst (AreParts text) (sym later) (parts_later text gs c.loop-name.invariant.1),
    )
