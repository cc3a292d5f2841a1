use Rattle.std.proofs.Common.{rules, ◌≡◌, None, codes}
use Rattle.vrl_value.specs.Tree.{boolean}
use Rattle.vrl_value.specs.View.{items_view}
use Rattle.vrl_builtin.specs.TagSets.{regexes}
use Rattle.vrl_builtin.specs.Words.{first_other}
use Rattle.fn_search.specs.MatchAny.{some_matches}
use Rattle.fn_search.proofs.Matched.{each_tried}
use Rattle.fn_search.proofs.match_any.answer.Goals as goal

pub returns-in-None : goal.returns-in-None
returns-in-None c =
    let ts = items_view c.args.items.now in
    let found = some_matches c.args.searches.now c.args.text.now ts in
    let none : first_other regexes ts ≡ None = search rules in
    each_tried (codes "match_any") ts (boolean found) c.some_matches.result c.boolean.result none c.some_matches.ensures.none c.boolean.ensures.memory (c.boolean.ensures.value found c.some_matches.ensures.found)
