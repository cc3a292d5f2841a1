use Rattle.std.proofs.Common.{◌*◌, ◌+◌, length}
use Rattle.vrl_place.proofs.remove.+remove.Given as goal

abbrev pub decreases-remove_at : goal.decreases-remove_at
decreases-remove_at l = 6 * length l.steps.now

abbrev pub decreases-remove_field : goal.decreases-remove_field
decreases-remove_field l = 6 * length l.behind.now + 5

abbrev pub decreases-remove_in_field : goal.decreases-remove_in_field
decreases-remove_in_field l = 6 * length l.behind.now + 1

abbrev pub decreases-remove_signed_place : goal.decreases-remove_signed_place
decreases-remove_signed_place l = 6 * length l.behind.now + 5

abbrev pub decreases-remove_place : goal.decreases-remove_place
decreases-remove_place l = 6 * length l.behind.now + 2

abbrev pub decreases-remove_in_place : goal.decreases-remove_in_place
decreases-remove_in_place l = 6 * length l.behind.now + 1

abbrev pub decreases-remove_from_end : goal.decreases-remove_from_end
decreases-remove_from_end l = 6 * length l.behind.now + 4

abbrev pub decreases-remove_if_there : goal.decreases-remove_if_there
decreases-remove_if_there l = 6 * length l.behind.now + 3

abbrev pub decreases-remove_somewhere : goal.decreases-remove_somewhere
decreases-remove_somewhere l = 6 * length l.behind.now + 3

abbrev pub decreases-left_somewhere : goal.decreases-left_somewhere
decreases-left_somewhere l = 6 * length l.behind.now + 2
