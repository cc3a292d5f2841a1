use Rattle.std.proofs.Common.{ap, map}
use Rattle.vrl_value.specs.View.{tree_of}
use Rattle.fn_list.specs.Unique.{firsts}
use Rattle.fn_list.proofs.Firsts.{start, walked}
use Rattle.fn_list.proofs.Found.{none_found}
use Rattle.fn_list.proofs.unique.firsts.Goals as goal

pub loop-item-init : goal.loop-item-init
loop-item-init c =
    let none = ap (map tree_of) c.new-kept.ensures.items in
    record { whole = start (map tree_of c.new-kept.result.items) (map tree_of c.args.items.now) none; seen = none_found c.new-seen.result (map tree_of c.new-kept.result.items) c.new-seen.ensures.empty none }

pub loop-item-preserved : goal.loop-item-preserved
loop-item-preserved c = record {
  whole = walked c.args.items.now c.loop-item.kept.items c.push_new.new.kept.items c.loop-item.item-index c.item-item.result (firsts (map tree_of c.args.items.now)) c.loop-item-test.true c.item-item.is
      c.in_ok-push_new.ensures.kept c.loop-item.invariant.whole;
  seen = c.in_ok-push_new.ensures.seen;
}
