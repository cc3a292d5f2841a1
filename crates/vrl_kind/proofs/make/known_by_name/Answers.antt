use Rattle.std.proofs.Common.{ap, subst}
use Rattle.vrl_kind.specs.Make.{IsKnownPushed, entries_view}
use Rattle.vrl_kind.specs.View.{fields_view}
use Rattle.vrl_kind.proofs.Naming.{known_first, known_next, known_end, entries_sorted}
use Rattle.vrl_kind.proofs.make.known_by_name.Goals as goal

pub loop-name-init : goal.loop-name-init
loop-name-init c =
    let gives = c.into_iter-name-iterator.ensures.into_iter_gives in
    known_first _ _ _ _ (ap entries_view gives.0) (ap fields_view c.new-known.ensures.items) (entries_sorted _ gives.5)

pub loop-name-preserved : goal.loop-name-preserved
loop-name-preserved c =
    let pushed = subst (λ n. IsKnownPushed n c.in-Some.kind c.args.own.now (fields_view c.loop-name.known.items) (fields_view c.push_known.new.fields.items)) c.new.ensures c.in_ok-push_known.ensures in
    known_next _ _ _ _ _ _ _ _ c.loop-name.invariant (ap entries_view c.in-Some.ensures.steps) c.kind_is_canonical.ensures pushed

pub returns : goal.returns
returns c = known_end _ _ _ _ c.loop-name.invariant (ap entries_view c.in-None.ensures.steps.0)
