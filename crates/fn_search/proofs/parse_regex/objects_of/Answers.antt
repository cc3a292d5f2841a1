use Rattle.std.proofs.Common.{map, take, ◌∙◌}
use Rattle.std.proofs.lemmas.Result.{IfOk-weaker}
use Rattle.vrl_value.specs.Tree.{object}
use Rattle.vrl_pattern.specs.Matches.{all_matches, group_places}
use Rattle.fn_search.specs.Fields.{fields}
use Rattle.fn_search.specs.Sources.{source_at}
use Rattle.fn_search.proofs.Firsts.{map_twice}
use Rattle.fn_search.proofs.parse_regex.objects_of.Goals as goal

pub returns : goal.returns
returns c =
    let text = c.args.text.now in
    let source = source_at c.args.number c.args.searches.now in
    let names = c.as_slice.ensures ∙ c.in_ok-names.ensures in
    let matches = c.as_slice-2.ensures ∙ c.in_ok-matches.ensures.found in
    IfOk-weaker c.objects.result _ _
    (λ objects is. is ∙ (λ i. map (λ groups. object (fields (names i) c.args.numbered text groups)) (matches i)) ∙ map_twice _ (group_places source) (take c.args.most (all_matches source text)))
    c.objects.ensures
