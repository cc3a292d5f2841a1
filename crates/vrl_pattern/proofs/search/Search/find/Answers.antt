use Rattle.std.proofs.Common.{ap, option_map, ◌∙◌}
use Rattle.regex.specs.Patterns.{find_str, span}
use Rattle.regex.specs.Strings.{regex_source}
use Rattle.vrl_pattern.specs.Matches.{first_match}
use Rattle.vrl_pattern.proofs.Alike.{same_first}
use Rattle.vrl_pattern.proofs.search.Search.find.Goals as goal

pub returns-clause-found : goal.returns-clause-found
returns-clause-found c =
    let regex = c.self.inside.regex.now in
    let text = c.args.text.now in
    c.place_from.ensures.found ∙ ap (λ re. option_map span (find_str re text 0)) c.self.invariant.1
    ∙ same_first (regex_source regex) regex c.self.invariant.0 text (λ k. (c.type_inv.text k).fits) ∙ ap (λ source. option_map span (first_match source text)) c.self.view_is
