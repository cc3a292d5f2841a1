use Rattle.std.proofs.Common.{◌*◌, ◌+◌, length}
use Rattle.vrl_path.proofs.removal.+removal.Given as goal

abbrev pub decreases-remove_at : goal.decreases-remove_at
decreases-remove_at l = 3 * length l.steps.now

abbrev pub decreases-remove_in_fields : goal.decreases-remove_in_fields
decreases-remove_in_fields l = 3 * length l.steps.now + 1

abbrev pub decreases-remove_at_place : goal.decreases-remove_at_place
decreases-remove_at_place l = 3 * length l.steps.now + 2

abbrev pub decreases-remove_in_items : goal.decreases-remove_in_items
decreases-remove_in_items l = 3 * length l.steps.now + 1
