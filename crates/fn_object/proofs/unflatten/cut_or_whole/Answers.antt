use Rattle.std.proofs.Common.{nat_lt, length, sym, ap, ◌∙◌}
use Rattle.std.proofs.lemmas.Result.{IfOk-weaker}
use Rattle.fn_object.proofs.Splitting.{cut_if_few, whole_if_many}
use Rattle.fn_object.proofs.unflatten.cut_or_whole.Goals as goal

pub returns-then-are_many : goal.returns-then-are_many
returns-then-are_many c =
    let many = ap (λ steps. nat_lt 64 (length steps)) (sym c.deref.ensures.value) ∙ sym c.are_many.ensures ∙ c.if-are_many.true in
    IfOk-weaker c.whole.result _ _ (λ steps is. is ∙ whole_if_many c.args.separator.now c.args.name.now c.in_ok-steps.steps.items c.requires c.in_ok-steps.ensures many) c.whole.ensures

pub returns-else-are_many : goal.returns-else-are_many
returns-else-are_many c =
    let few = ap (λ steps. nat_lt 64 (length steps)) (sym c.deref.ensures.value) ∙ sym c.are_many.ensures ∙ c.if-are_many.false in
    cut_if_few c.args.separator.now c.args.name.now c.in_ok-steps.steps.items c.requires c.in_ok-steps.ensures few
