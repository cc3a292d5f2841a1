use Rattle.std.proofs.Common.{ap, ◌∙◌}
use Rattle.std.proofs.lemmas.Result.{IfOk-weaker}
use Rattle.fn_search.specs.Cut.{joined}
use Rattle.fn_search.proofs.CutUp.{cuts_so}
use Rattle.fn_search.proofs.cut.swapped.Goals as goal

pub returns : goal.returns
returns c =
    let so = cuts_so c.args.part.now c.args.cuts c.args.text.now c.cuts_by.result c.cuts_by.ensures.none c.cuts_by.ensures.some in
    IfOk-weaker c.swap_up.result _ _ (λ changed is. is ∙ ap (joined c.args.with.now) so) c.swap_up.ensures
