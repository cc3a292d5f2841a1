use Rattle.std.proofs.Common.{rules, ◌≡◌, map, sym, ap, ◌∙◌, subst}
use Rattle.std.proofs.lemmas.Result.{IfOk-weaker}
use Rattle.vrl_value.specs.Tree.{array}
use Rattle.vrl_value.specs.View.{items_of, tree_of}
use Rattle.vrl_value.specs.declared.value.Value.{the_lemmas}
use Rattle.vrl_run.specs.LineResult.{each_with, events_of, trees_in}
use Rattle.vrl_run.specs.Ran.{AreLinesOf}
use Rattle.vrl_run.proofs.EventLists.{none_of_none, trees_in_view}
use Rattle.vrl_run.proofs.kept.kept_left.Goals as goal

pub returns-in-List : goal.returns-in-List
returns-in-List c =
    let whole : tree_of c.args.event.now ≡ array (items_of c.in-List.items) = search (rules, the_lemmas) in
    let events : map tree_of c.as_slice.result.now ≡ events_of (tree_of c.args.event.now) = sym (trees_in_view c.as_slice.result.now) ∙ ap trees_in c.as_slice.ensures ∙ ap events_of (sym whole) in
    record {
      kept = IfOk-weaker c.kept_items.result _ _ (λ kept are. subst (λ es. AreLinesOf c.args.envelope c.args.sources.now (each_with (tree_of c.args.metadata.now) es) kept) events are) c.kept_items.ensures.kept;
      none = λ none. c.kept_items.ensures.none (none_of_none tree_of c.as_slice.result.now (events ∙ none));
    }
