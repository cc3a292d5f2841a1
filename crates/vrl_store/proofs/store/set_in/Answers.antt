use Rattle.std.proofs.Common.{◌<◌, ◌+◌, length, arith}
use Rattle.vrl_value.specs.Depth.{depth_of}
use Rattle.vrl_value.specs.View.{tree_of}
use Rattle.vrl_path.specs.Write.{depth_limit}
use Rattle.vrl_store.proofs.store.set_in.Goals as goal

pub returns-then-is_too_deep-clause-deep : goal.returns-then-is_too_deep-clause-deep
returns-then-is_too_deep-clause-deep c = λ _.
    let over : depth_limit < length c.args.path.now + depth_of (tree_of c.args.value) = c.is_too_deep.ensures.0 c.if-is_too_deep.true in
    let deep = (c.set_trees_are_sets.ensures (tree_of c.args.root.now) c.args.path.now (tree_of c.args.value)).1.least in
    omega arith
