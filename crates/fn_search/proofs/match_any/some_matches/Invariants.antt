use Rattle.std.proofs.Common.{◌≡◌, IsTrue, length}
use Rattle.vrl_value.specs.Regexes.{items_regexes_below}
use Rattle.vrl_value.specs.Tree.{no_items}
use Rattle.vrl_value.specs.View.{items_view}
use Rattle.fn_search.specs.MatchAny.{some_matches}
use Rattle.fn_search.proofs.match_any.some_matches.Given as goal

abbrev pub invariant-loop-first : goal.invariant-loop-first
invariant-loop-first l =
    (some_matches l.searches l.text (items_view l.left) ≡ some_matches l.searches l.text (items_view l.items))
    × IsTrue (items_regexes_below (length l.searches) (items_view l.left))
    × (items_view l.items ≡ no_items → items_view l.left ≡ no_items)

abbrev pub decreases-loop-first : goal.decreases-loop-first
decreases-loop-first l = length l.left
