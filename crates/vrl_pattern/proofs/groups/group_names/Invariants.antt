use denote.Text.{Utf8}
use denote.Shadow.{shadow}
use Rattle.std.proofs.Common.{◌≡◌, ◌++◌, length}
use Rattle.vrl_pattern.specs.Groups.{at, names_from, groups_of}
use Rattle.vrl_pattern.proofs.groups.group_names.Given as goal

abbrev pub invariant-loop-behind : goal.invariant-loop-behind
invariant-loop-behind l = shadow (Utf8 l.rest) × (l.names.items ++ names_from (at 0) l.rest ≡ groups_of l.source)

abbrev pub decreases-loop-behind : goal.decreases-loop-behind
decreases-loop-behind l = length l.rest
