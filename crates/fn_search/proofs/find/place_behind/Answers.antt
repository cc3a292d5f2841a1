use Rattle.std.proofs.Common.{◌+◌, option_map, ap, sym, ◌∙◌}
use Rattle.vrl_value.specs.View.{tree_of}
use Rattle.fn_search.specs.Find.{first_place, number_or_null, place_behind}
use Rattle.fn_search.proofs.Starts.{starts}
use Rattle.fn_search.proofs.find.place_behind.Goals as goal

pub returns-clause-value : goal.returns-clause-value
returns-clause-value c = λ text within is.
    let sources = c.args.searches.now in
    let pattern = tree_of c.args.pattern.now in
    let start = c.args.start in
    c.number_of.ensures
    ∙ ap number_or_null (ap (option_map (λ k. start + k)) (c.in_ok-place.ensures.place ∙ ap (λ s. first_place sources s pattern) is)
    ∙ sym (ap (place_behind sources text pattern) (starts text c.args.left.now start within is c.utf8.left)))
