use Rattle.vrl_value.specs.View.{tree_of}
use Rattle.vrl_store.proofs.Equality.{found_same}
use Rattle.vrl_store.proofs.operators.is_same.Goals as goal

pub returns : goal.returns
returns c = found_same (tree_of c.args.left.now) (tree_of c.args.right.now) c.same.result c.same.ensures
