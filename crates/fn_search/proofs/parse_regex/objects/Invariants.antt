use Rattle.std.proofs.Common.{◌≡◌, ◌++◌, All, length, map}
use Rattle.vrl_value.specs.Tree.{object}
use Rattle.vrl_value.specs.View.{tree_of}
use Rattle.vrl_pattern.specs.Places.{AreParts}
use Rattle.fn_search.specs.Fields.{fields}
use Rattle.fn_search.proofs.parse_regex.objects.Given as goal

abbrev pub invariant-loop-first : goal.invariant-loop-first
invariant-loop-first l =
    (map tree_of l.objects.items ++ map (λ groups. object (fields l.names l.numbered l.text groups)) l.left ≡ map (λ groups. object (fields l.names l.numbered l.text groups)) l.matches)
    × All (AreParts l.text) l.left

abbrev pub decreases-loop-first : goal.decreases-loop-first
decreases-loop-first l = length l.left
