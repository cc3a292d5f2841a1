use Rattle.std.proofs.Common.{◌≤◌, length, take}
use Rattle.vrl_kind.specs.Make.{IsShortened}
use Rattle.vrl_kind.specs.View.{places_view}
use Rattle.vrl_kind.proofs.make.kept_len.Given as goal

abbrev pub invariant-loop-kept : goal.invariant-loop-kept
invariant-loop-kept l = (l.kept ≤ length l.kinds) × IsShortened l.own (places_view l.kinds) (places_view (take l.kept l.kinds))

abbrev pub decreases-loop-kept : goal.decreases-loop-kept
decreases-loop-kept l = l.kept
