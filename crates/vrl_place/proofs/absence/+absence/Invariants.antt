use Rattle.std.proofs.Common.{◌*◌, ◌+◌, length}
use Rattle.vrl_place.proofs.absence.+absence.Given as goal

abbrev pub decreases-may_be_absent_at : goal.decreases-may_be_absent_at
decreases-may_be_absent_at l = 2 * length l.steps.now

abbrev pub decreases-place_may_be_absent : goal.decreases-place_may_be_absent
decreases-place_may_be_absent l = 2 * length l.behind.now + 1
