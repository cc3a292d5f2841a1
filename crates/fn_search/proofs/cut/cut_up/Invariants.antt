use denote.Text.{Utf8}
use denote.Shadow.{shadow}
use Rattle.std.proofs.Common.{◌≡◌, ◌++◌, map}
use Rattle.vrl_value.specs.Tree.{string}
use Rattle.vrl_value.specs.View.{tree_of}
use Rattle.fn_search.specs.Cut.{cut_up}
use Rattle.fn_search.proofs.cut.cut_up.Given as goal

abbrev pub invariant-loop-left : goal.invariant-loop-left
invariant-loop-left l = shadow (Utf8 l.rest) × (map tree_of l.parts.items ++ map string (cut_up l.part l.left l.rest) ≡ map string (cut_up l.part l.cuts l.text))

abbrev pub decreases-loop-left : goal.decreases-loop-left
decreases-loop-left l = l.left
