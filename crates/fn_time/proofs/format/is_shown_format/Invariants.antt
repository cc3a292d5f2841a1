use Rattle.std.proofs.Common.{◌≡◌, length, false}
use Rattle.fn_time.proofs.Letters.{known_from}
use Rattle.fn_time.proofs.format.is_shown_format.Given as goal

abbrev pub invariant-loop-byte : goal.invariant-loop-byte
invariant-loop-byte l = known_from false l.initial.left ≡ known_from l.behind_sign l.left

abbrev pub decreases-loop-byte : goal.decreases-loop-byte
decreases-loop-byte l = length l.left
