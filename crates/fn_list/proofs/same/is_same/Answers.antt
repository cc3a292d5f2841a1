use Rattle.vrl_value.specs.View.{tree_of}
use Rattle.fn_list.proofs.Equality.{found_same}
use Rattle.fn_list.proofs.same.is_same.Goals as goal

pub returns : goal.returns
returns c = found_same (tree_of c.args.value.now) (tree_of c.args.other.now) c.same.result c.same.ensures
