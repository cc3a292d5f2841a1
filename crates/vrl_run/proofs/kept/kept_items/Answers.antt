use Rattle.std.proofs.Common.{map, subst}
use Rattle.std.proofs.lemmas.Result.{IfOk-weaker}
use Rattle.vrl_value.specs.View.{tree_of}
use Rattle.vrl_run.specs.Enclosed.{AreTextLines}
use Rattle.vrl_run.proofs.Enclosing.{lines_with}
use Rattle.vrl_run.proofs.MadeLemmas.{nothing_left}
use Rattle.vrl_run.proofs.kept.kept_items.Goals as goal

pub returns-then-is_empty-clause-kept : goal.returns-then-is_empty-clause-kept
returns-then-is_empty-clause-kept c =
    let none = nothing_left c.args.events.now c.is_empty.result c.is_empty.ensures c.if-is_empty.true in
    rw none (c.nothing.ensures c.args.envelope c.args.sources.now)

pub returns-clause-kept : goal.returns-clause-kept
returns-clause-kept c =
    let events = map tree_of c.args.events.now in
    IfOk-weaker c.kept_each.result _ _ (λ kept are. lines_with c.args.envelope c.args.sources.now (tree_of c.args.metadata.now) events kept (subst (λ text. AreTextLines text c.args.sources.now events kept) c.in_ok-metadata.ensures are)) c.kept_each.ensures
