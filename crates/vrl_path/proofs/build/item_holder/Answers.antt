use Rattle.std.proofs.Common.{rules}
use Rattle.vrl_value.specs.View.{tree_of}
use Rattle.vrl_path.proofs.Places.{held_in_front}
use Rattle.vrl_path.proofs.build.item_holder.Goals as goal

pub returns-in_default : goal.returns-in_default
returns-in_default c = held_in_front c.first_of.result c.args.place (tree_of c.args.part) _ c.first_of.ensures (search rules) (search rules)
