use Rattle.std.proofs.Common.{◌*◌, ◌+◌, length}
use Rattle.vrl_path.proofs.write.+put.Given as goal

abbrev pub decreases-put_at : goal.decreases-put_at
decreases-put_at l = 3 * length l.steps.now

abbrev pub decreases-put_in_fields : goal.decreases-put_in_fields
decreases-put_in_fields l = 3 * length l.steps.now + 1

abbrev pub decreases-put_at_place : goal.decreases-put_at_place
decreases-put_at_place l = 3 * length l.steps.now + 2

abbrev pub decreases-put_in_items : goal.decreases-put_in_items
decreases-put_in_items l = 3 * length l.steps.now + 1
