use Rattle.std.proofs.Common.{◌≡◌, ◌-◌, ◌++◌, true, map, take, IsCharBoundary}
use Rattle.regex.specs.Patterns.{find_all_str}
use Rattle.regex.specs.Search.{matches_after}
use Rattle.regex.specs.Strings.{matcher_pattern}
use Rattle.vrl_value.specs.Tree.{string}
use Rattle.vrl_value.specs.View.{tree_of}
use Rattle.vrl_pattern.specs.Matches.{cut}
use Rattle.vrl_pattern.proofs.matching.first_parts.Given as goal

-- all parts are those that were read, and then those of the matches that are left
abbrev pub invariant-loop-left : goal.invariant-loop-left
invariant-loop-left l =
    let re = matcher_pattern l.initial.matcher in record {
      same : matcher_pattern l.matcher ≡ re;
      behind : l.start ≡ l.after - 1;
      boundary : IsCharBoundary l.text l.start;
      whole : map tree_of l.parts.items
          ++ map string (cut l.text l.start (take l.left (matches_after true re l.text l.after)))
          ≡ map string (cut l.text 0 (take l.most (find_all_str re l.text)));
    }

abbrev pub decreases-loop-left : goal.decreases-loop-left
decreases-loop-left l = l.left
