use Rattle.std.proofs.Common.{◌*◌, ◌+◌, length}
use Rattle.vrl_place.proofs.write.+write_in.Given as goal

abbrev pub decreases-write_in : goal.decreases-write_in
decreases-write_in l = 3 * length l.steps.now

abbrev pub decreases-write_in_field : goal.decreases-write_in_field
decreases-write_in_field l = 3 * length l.behind.now + 2

abbrev pub decreases-write_known_field : goal.decreases-write_known_field
decreases-write_known_field l = 3 * length l.behind.now + 1
