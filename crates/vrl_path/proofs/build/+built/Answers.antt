use Rattle.std.proofs.Common.{◌-◌, length, take, drop, arith}
use Rattle.std.proofs.lemmas.Grind.{common_steps}
use Rattle.vrl_value.specs.View.{tree_of}
use Rattle.vrl_path.proofs.Places.{first_and_rest, new_at}
use Rattle.vrl_path.proofs.build.+built.Goals as goal

pub returns-in_default : goal.returns-in_default
returns-in_default t c = grind (arith, common_steps)

pub returns : goal.returns
returns t c =
    let steps = c.args.steps.now in
    new_at c.holder.result steps c.step-item.result (take (length steps - 1) (drop 1 steps)) (tree_of c.args.new) (tree_of c.in_ok-part.part) c.in_ok-part.ensures c.holder.ensures
    (first_and_rest steps c.step-item.result c.step-item.is c.in-len1-up.len_at_least)
