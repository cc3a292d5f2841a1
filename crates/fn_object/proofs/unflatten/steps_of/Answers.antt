use Rattle.std.proofs.Common.{true, false, sym, ◌∙◌}
use Rattle.std.proofs.lemmas.Result.{IfOk-weaker}
use Rattle.fn_object.proofs.Splitting.{nothing_is, whole_if_nothing}
use Rattle.fn_object.proofs.unflatten.steps_of.Goals as goal

pub returns-then-is_empty : goal.returns-then-is_empty
returns-then-is_empty c =
    IfOk-weaker c.whole.result _ _ (λ steps is. is ∙ whole_if_nothing c.args.separator.now c.args.name.now (nothing_is c.args.separator.now true (sym c.is_empty.ensures ∙ c.if-is_empty.true))) c.whole.ensures

pub cut_or_whole-requires : goal.cut_or_whole-requires
cut_or_whole-requires c = nothing_is c.args.separator.now false (sym c.is_empty.ensures ∙ c.if-is_empty.false)
