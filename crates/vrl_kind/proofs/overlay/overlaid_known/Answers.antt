use Rattle.std.proofs.Common.{ap, subst}
use Rattle.vrl_kind.specs.Make.{IsKnownPushed}
use Rattle.vrl_kind.specs.Overlay.{over_at}
use Rattle.vrl_kind.specs.View.{fields_view}
use Rattle.vrl_kind.proofs.Ahead.{fields_sorted}
use Rattle.vrl_kind.proofs.Inclusion.{end_of}
use Rattle.vrl_kind.proofs.Namewise.{combined_along, names_first, names_next, names_end}
use Rattle.vrl_kind.proofs.overlay.overlaid_known.Goals as goal

pub loop-pair-init : goal.loop-pair-init
loop-pair-init c = names_first _ _ _ _ _ _ _ (ap fields_view c.new-known.ensures.items) (fields_sorted _ c.requires.lower_canonical.0) (fields_sorted _ c.requires.upper_canonical.0)

pub loop-pair-preserved : goal.loop-pair-preserved
loop-pair-preserved c =
    let pushed = subst (λ n. IsKnownPushed n c.in_ok-kind.kind c.args.own.now (fields_view c.loop-pair.known.items) (fields_view c.push_known.new.fields.items)) c.in_ok-name.ensures c.in_ok-push_known.ensures in
    names_next _ _ _ _ _ _ _ _ _ _ _ _ _ _ _ _ c.loop-pair.invariant c.in-Some.ensures (combined_along over_at _ _ _ _ _ c.known_or_rest.ensures.kind c.known_or_rest-in-Some.ensures.kind c.in_ok-kind.ensures.over) c.in_ok-kind.ensures.canonical c.requires.own pushed

pub returns : goal.returns
returns c = names_end _ _ _ _ _ _ _ _ _ c.loop-pair.invariant (end_of _ _ _ c.next.ensures c.in_default.not-Some) c.requires.own
