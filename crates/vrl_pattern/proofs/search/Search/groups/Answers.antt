use Rattle.std.proofs.Common.{map, take, ap, ◌∙◌}
use Rattle.std.proofs.lemmas.Result.{IfOk-weaker}
use Rattle.std.specs.List.{range_with_len}
use Rattle.regex.specs.Locations.{location_count}
use Rattle.regex.specs.Patterns.{Match, find_all_str}
use Rattle.regex.specs.Strings.{regex_source}
use Rattle.vrl_pattern.specs.Matches.{all_matches, group_place, group_places}
use Rattle.vrl_pattern.proofs.Alike.{count_of_groups, same_places}
use Rattle.vrl_pattern.proofs.search.Search.groups.Goals as goal

pub returns-clause-found : goal.returns-clause-found
returns-clause-found c =
    let regex = c.self.inside.regex.now in
    let source = regex_source regex in
    let text = c.args.text.now in
    let n = location_count c.in_ok-locations.locations in
    IfOk-weaker c.places.result _ _
    (λ found is.
    is ∙ ap (λ re. map (λ (m : Match). map (group_place m) (range_with_len 0 n)) (take c.args.most (find_all_str re text))) c.self.invariant.1
    ∙ same_places source regex c.self.invariant.0 text (λ k. (c.type_inv.text k).fits) c.args.most (range_with_len 0 n)
    ∙ ap (λ k. map (λ (m : Match). map (group_place m) (range_with_len 0 k)) (take c.args.most (all_matches source text))) (c.in_ok-locations.ensures.value ∙ count_of_groups source regex c.self.invariant.0)
    ∙ ap (λ source. map (group_places source) (take c.args.most (all_matches source text))) c.self.view_is)
    c.places.ensures.found
