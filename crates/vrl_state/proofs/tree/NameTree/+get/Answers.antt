use Rattle.std.proofs.Common.{rules}
use Rattle.vrl_state.proofs.Cutting.{find_left, find_here, find_right}
use Rattle.vrl_state.proofs.tree.NameTree.+get.Goals as goal

pub returns-in-Less : goal.returns-in-Less
returns-in-Less t c = search (rules, find_left)

pub returns-in-Equal : goal.returns-in-Equal
returns-in-Equal t c = search (rules, find_here)

pub returns-in-Greater : goal.returns-in-Greater
returns-in-Greater t c = search (rules, find_right)
