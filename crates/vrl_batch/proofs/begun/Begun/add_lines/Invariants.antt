use Rattle.std.proofs.Common.{◌+◌, ◌-◌, ◌≤◌, ◌++◌, ℕ, ℤ, List, Option, drop, length}
use Rattle.vrl_batch.specs.Begun.{DividesAt, IsBegun}
use Rattle.vrl_batch.proofs.begun.Begun.add_lines.Given as goal

-- the bytes up to `used` were added
abbrev pub invariant-loop-used : goal.invariant-loop-used
invariant-loop-used g l =
    (l.used ≤ length l.bytes) × (l.self.number ≤ l.fn.self.number + l.used)
    × ((first : ℕ) (ahead : Option (ℕ → ℤ)) (front part : List ℕ) → IsBegun first ahead front part l.fn.self (g.C.Clock.ahead l.fn.clock)
    → DividesAt first ahead (front ++ (part ++ l.bytes)) (drop l.used l.bytes) l.self (g.C.Clock.ahead l.clock))

abbrev pub decreases-loop-used : goal.decreases-loop-used
decreases-loop-used g l = length l.bytes - l.used
