use Rattle.vrl_value.specs.View.{tree_of}
use Rattle.vrl_check.proofs.Forms.{literal_given}
use Rattle.vrl_check.proofs.walk.literal.Goals as goal

pub returns : goal.returns
returns c = literal_given (tree_of c.args.value.now) c.args.checker.now c.value.result _ c.in_ok-cut_kind_of.ensures c.value.ensures.kind c.value.ensures.ends
