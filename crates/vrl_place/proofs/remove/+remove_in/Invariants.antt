use Rattle.std.proofs.Common.{◌*◌, ◌+◌, length}
use Rattle.vrl_place.proofs.remove.+remove_in.Given as goal

abbrev pub decreases-remove_in : goal.decreases-remove_in
decreases-remove_in l = 4 * length l.steps.now

abbrev pub decreases-remove_behind : goal.decreases-remove_behind
decreases-remove_behind l = 4 * length l.behind.now + 3

abbrev pub decreases-remove_part : goal.decreases-remove_part
decreases-remove_part l = 4 * length l.behind.now + 2

abbrev pub decreases-remove_in_known : goal.decreases-remove_in_known
decreases-remove_in_known l = 4 * length l.behind.now + 1
