use Rattle.std.proofs.Common.{◌*◌, ◌+◌, length}
use Rattle.vrl_place.proofs.write.+write.Given as goal

abbrev pub decreases-write_at : goal.decreases-write_at
decreases-write_at l = 6 * length l.steps.now

abbrev pub decreases-write_behind : goal.decreases-write_behind
decreases-write_behind l = 6 * length l.behind.now + 5

abbrev pub decreases-write_field : goal.decreases-write_field
decreases-write_field l = 6 * length l.behind.now + 1

abbrev pub decreases-write_signed_place : goal.decreases-write_signed_place
decreases-write_signed_place l = 6 * length l.behind.now + 4

abbrev pub decreases-write_place : goal.decreases-write_place
decreases-write_place l = 6 * length l.behind.now + 1

abbrev pub decreases-write_from_end : goal.decreases-write_from_end
decreases-write_from_end l = 6 * length l.behind.now + 3

abbrev pub decreases-write_somewhere : goal.decreases-write_somewhere
decreases-write_somewhere l = 6 * length l.behind.now + 2
