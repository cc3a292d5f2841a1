use Rattle.std.proofs.Common.{◌≡◌, ◌++◌, true, map, take}
use Rattle.std.specs.List.{range_with_len}
use Rattle.regex.specs.Locations.{location_count}
use Rattle.regex.specs.Patterns.{find_all_str}
use Rattle.regex.specs.Search.{matches_after}
use Rattle.regex.specs.Strings.{matcher_pattern}
use Rattle.vrl_pattern.specs.Matches.{group_place}
use Rattle.vrl_pattern.proofs.matching.first_groups.Given as goal

-- all places are those that were read, and then those of the matches that are left
abbrev pub invariant-loop-left : goal.invariant-loop-left
invariant-loop-left l =
    let re = matcher_pattern l.initial.matcher in
    let groups = range_with_len 0 (location_count l.initial.locations) in record {
      count : location_count l.locations ≡ location_count l.initial.locations;
      same : matcher_pattern l.matcher ≡ re;
      whole : l.found.items
          ++ map (λ m. map (group_place m) groups) (take l.left (matches_after true re l.text l.after))
          ≡ map (λ m. map (group_place m) groups) (take l.most (find_all_str re l.text));
    }

abbrev pub decreases-loop-left : goal.decreases-loop-left
decreases-loop-left l = l.left
