use denote.Text.{Utf8}
use denote.Shadow.{shadow}
use Rattle.std.proofs.Common.{◌≡◌, ◌++◌, string_bytes}
use Rattle.fn_search.specs.Cut.{cut_up, joined}
use Rattle.fn_search.proofs.cut.swap_up.Given as goal

abbrev pub invariant-loop-left : goal.invariant-loop-left
invariant-loop-left l = shadow (Utf8 l.rest) × (string_bytes l.changed ++ joined l.with (cut_up l.part l.left l.rest) ≡ joined l.with (cut_up l.part l.cuts l.text))

abbrev pub decreases-loop-left : goal.decreases-loop-left
decreases-loop-left l = l.left
