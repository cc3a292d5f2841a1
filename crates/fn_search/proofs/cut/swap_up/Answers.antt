use Rattle.std.proofs.Common.{◌≡◌, Some, rules}
use Rattle.fn_search.specs.Cut.{cut}
use Rattle.fn_search.proofs.CutUp.{swaps_go_on}
use Rattle.fn_search.proofs.cut.swap_up.Goals as goal

pub loop-left-preserved : goal.loop-left-preserved
loop-left-preserved c =
    let is : Some (c.in-Some.before.now, c.in-Some.behind.now) ≡ cut c.args.part.now c.loop-left.rest.now = search rules in
    (search rules, swaps_go_on _ _ _ c.args.part.now c.args.with.now c.loop-left.rest.now c.in-Some.before.now c.in-Some.behind.now c.loop-left.left c.loop-left-test.true is c.in_ok-push_both.ensures c.loop-left.invariant.1)
