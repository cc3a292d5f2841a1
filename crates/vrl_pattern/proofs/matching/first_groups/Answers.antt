use Rattle.std.proofs.Common.{◌++◌, ◌∷◌, true, map, take, refl, sym, ap, ◌∙◌}
use Rattle.std.specs.List.{range_with_len}
use Rattle.regex.specs.Locations.{location_count}
use Rattle.regex.specs.Patterns.{Match}
use Rattle.regex.specs.Search.{matches_after, next_match}
use Rattle.regex.specs.Strings.{matcher_pattern}
use Rattle.regex.proofs.SearchLemmas.{matches_after_none, matches_after_some, matches_after_text}
use Rattle.vrl_pattern.specs.Matches.{group_place}
use Rattle.vrl_pattern.proofs.Read.{groups_here, matches_end, matches_go_on}
use Rattle.vrl_pattern.proofs.matching.first_groups.Goals as goal

pub loop-left-init : goal.loop-left-init
loop-left-init c =
    let re = matcher_pattern c.args.matcher.now in
    let text = c.args.text.now in
    let groups = range_with_len 0 (location_count c.args.locations.now) in
    let places : Match → _ = λ m. map (group_place m) groups in record {
      count = refl;
      same = refl;
      whole = λ i. c.new-found.ensures.items i ++ map places (take c.args.most (matches_after_text re text i));
    }

pub loop-left-preserved : goal.loop-left-preserved
loop-left-preserved c =
    let l = c.loop-left in
    let was = l.invariant in
    let re = matcher_pattern c.args.matcher.now in
    let next = c.in-Some.ensures.found in
    let m = next.0 in
    let text = c.args.text.now in
    let is_next = ap (λ re. next_match true re text l.after) (sym was.same) ∙ next.1 in
    let more = matches_after_some re text true l.after m is_next ∙ ap (λ n. m ∷ matches_after true re text n) (sym next.2.0) in
    let count = c.in-Some.ensures.count ∙ was.count in record {
      count = count;
      same = c.in-Some.ensures.same ∙ was.same;
      whole = matches_go_on _ _ _ _ _ m _ _ l.left c.loop-left-test.true more
          (c.in_ok-groups_in.ensures ∙ groups_here m c.read_next.new.locations next.2.1 _ count)
          c.in_ok-push.ensures.items was.whole;
    }

pub returns-in_default-clause-found : goal.returns-in_default-clause-found
returns-in_default-clause-found c =
    let l = c.loop-left in
    let re = matcher_pattern c.args.matcher.now in
    let text = c.args.text.now in
    let none = ap (λ re. next_match true re text l.after) (sym l.invariant.same) ∙ c.in_default.ensures.found in
    matches_end _ _ _ _ l.left (matches_after_none re text true l.after none) l.invariant.whole
