use Rattle.std.proofs.Common.{map, ap, ◌∙◌}
use Rattle.std.proofs.lemmas.Result.{IfOk-weaker}
use Rattle.regex.specs.Patterns.{find_all_str}
use Rattle.regex.specs.Strings.{regex_source}
use Rattle.vrl_value.specs.Tree.{string}
use Rattle.vrl_value.specs.View.{items_of_trees}
use Rattle.vrl_pattern.specs.Matches.{parts_of, pieces}
use Rattle.vrl_pattern.proofs.Split.{all_pieces}
use Rattle.vrl_pattern.proofs.search.Search.split.Goals as goal

pub returns-clause-parts : goal.returns-clause-parts
returns-clause-parts c =
    let regex = c.self.inside.regex.now in
    let text = c.args.text.now in
    let limit = c.args.limit in
    IfOk-weaker c.split.result _ _
    (λ parts is.
    is ∙ ap (λ re. items_of_trees (map string (parts_of text limit (find_all_str re text)))) c.self.invariant.1
    ∙ ap (λ ts. items_of_trees (map string ts))
    (all_pieces (regex_source regex) regex c.self.invariant.0 text (λ k. (c.type_inv.text k).fits) limit)
    ∙ ap (λ source. items_of_trees (map string (pieces source text limit))) c.self.view_is)
    c.split.ensures.parts
