use Rattle.std.proofs.Common.{map, ap, ◌∙◌}
use Rattle.std.proofs.lemmas.Result.{IfOk-weaker}
use Rattle.vrl_value.specs.Tree.{string}
use Rattle.fn_search.proofs.CutUp.{cuts_so}
use Rattle.fn_search.proofs.cut.parts_between.Goals as goal

pub returns : goal.returns
returns c =
    let so = cuts_so c.args.part.now c.args.cuts c.args.text.now c.cuts_by.result c.cuts_by.ensures.none c.cuts_by.ensures.some in
    IfOk-weaker c.cut_up.result _ _ (λ parts is. is ∙ ap (map string) so) c.cut_up.ensures
