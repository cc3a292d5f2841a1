use Rattle.std.proofs.Common.{◌≡◌, ◌+◌, ◌≤◌, length, false}
use Rattle.fn_time.proofs.Letters.{times_from}
use Rattle.fn_time.proofs.format.times_in.Given as goal

abbrev pub invariant-loop-byte : goal.invariant-loop-byte
invariant-loop-byte l =
    (times_from l.letter false l.initial.left ≡ l.times + times_from l.letter l.behind_sign l.left)
    × (l.times + length l.left ≤ length l.initial.left)

abbrev pub decreases-loop-byte : goal.decreases-loop-byte
decreases-loop-byte l = length l.left
