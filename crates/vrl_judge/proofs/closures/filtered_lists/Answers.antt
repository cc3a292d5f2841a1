use Rattle.std.proofs.Common.{sym, ap, ◌∙◌}
use Rattle.std.proofs.lemmas.Result.{IfOk-weaker}
use Rattle.vrl_kind.specs.KindTree.{KindTree}
use Rattle.vrl_kind.specs.View.{places_view}
use Rattle.vrl_judge.specs.ChangedParts.{kept_place}
use Rattle.vrl_judge.proofs.CollectionKinds.{lists_filtered, no_lists}
use Rattle.vrl_judge.proofs.closures.filtered_lists.Goals as goal

pub returns-then-not-has : goal.returns-then-not-has
returns-then-not-has c =
    let C = c.args.collection.now in
    IfOk-weaker c.copy.result _ _ (λ (M : KindTree) same. no_lists C M (kept_place C) (sym c.has.ensures ∙ c.if-not-has.true) same) c.copy.ensures

pub returns : goal.returns
returns c =
    IfOk-weaker c.with_list.result _ _
    (λ (M : KindTree) whole. lists_filtered c.args.collection.now M c.in_ok-part.part _ _ (sym c.has.ensures ∙ c.if-not-has.false) (ap places_view c.new.ensures.items) c.in_ok-rest.ensures c.in_ok-part.ensures whole)
    c.with_list.ensures
