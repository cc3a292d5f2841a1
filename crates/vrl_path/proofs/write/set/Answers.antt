use Rattle.std.proofs.Common.{◌≡◌, false, rules}
use Rattle.vrl_value.specs.Depth.{depth_of}
use Rattle.vrl_value.specs.View.{tree_of}
use Rattle.vrl_path.specs.Trees.{set_tree}
use Rattle.vrl_path.specs.Write.{depth_limit}
use Rattle.vrl_path.proofs.Fits.{over}
use Rattle.vrl_path.proofs.Results.{is_set_at, set_ordered_at, too_deep}
use Rattle.vrl_path.proofs.write.set.Goals as goal

pub returns-then-not-is_within_limit-clause-too_deep : goal.returns-then-not-is_within_limit-clause-too_deep
returns-then-not-is_within_limit-clause-too_deep c = λ _.
    let v = tree_of c.args.value.now in
    let n = tree_of c.args.new in
    let fails : c.is_within_limit.result ≡ false = search rules in
    let decides = rw c.as_slice.ensures at c.is_within_limit.ensures in
    too_deep c.members_are_maps.ensures c.items_are_lists.ensures c.trees_stay_in_order.ensures v c.args.path.now n (over c.is_within_limit.result (depth_of (set_tree v c.args.path.now n)) depth_limit decides fails)

pub returns-clause-set : goal.returns-clause-set
returns-clause-set c =
    is_set_at c.members_are_maps.ensures c.items_are_lists.ensures (tree_of c.args.value.now) c.args.path.now (tree_of c.args.new) (tree_of c.put_at.new.value) (rw c.as_slice-2.ensures at c.in_ok-put_at.ensures.ok)

pub returns-clause-ordered : goal.returns-clause-ordered
returns-clause-ordered c =
    set_ordered_at c.trees_stay_in_order.ensures (tree_of c.args.value.now) c.as_slice-2.result.now (tree_of c.args.new) (tree_of c.put_at.new.value) c.in_ok-put_at.ensures.ok
