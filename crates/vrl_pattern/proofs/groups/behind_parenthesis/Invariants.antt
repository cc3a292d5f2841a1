use denote.Text.{Utf8}
use denote.Shadow.{shadow}
use Rattle.std.proofs.Common.{◌≡◌, ◌+◌, ◌≤◌, length}
use Rattle.vrl_pattern.specs.Groups.{at, names_from}
use Rattle.vrl_pattern.proofs.groups.behind_parenthesis.Given as goal

abbrev pub invariant-loop-mark : goal.invariant-loop-mark
invariant-loop-mark l = shadow (Utf8 l.rest) × (l.classes + length l.rest ≤ length l.source) × (names_from (at 0) l.source ≡ names_from (at l.classes) l.rest)

abbrev pub decreases-loop-mark : goal.decreases-loop-mark
decreases-loop-mark l = length l.rest
