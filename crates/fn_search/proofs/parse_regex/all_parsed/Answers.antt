use Rattle.std.proofs.Common.{◌≡◌, map, sym, ap, ◌∙◌, arith, rules}
use Rattle.vrl_value.specs.Tree.{array}
use Rattle.vrl_value.specs.View.{items_of, items_of_trees, tree_of}
use Rattle.vrl_value.specs.declared.value.Value.{the_lemmas}
use Rattle.vrl_value.specs.declared.value.Value.TheVariants as value
use Rattle.fn_search.specs.ParseRegex.{all_parsed, match_object}
use Rattle.fn_search.specs.Sources.{source_at}
use Rattle.fn_search.proofs.Firsts.{all_of}
use Rattle.fn_search.proofs.parse_regex.all_parsed.Goals as goal

pub returns-in_ok-objects-in-Some : goal.returns-in_ok-objects-in-Some
returns-in_ok-objects-in-Some c =
    let text = c.args.text.now in
    let source = source_at c.in-Some.number c.args.searches.now in
    let make = match_object source c.args.numbered text in
    let seen : tree_of (value.List c.new.result) ≡ array (items_of c.new.result) = search (rules, the_lemmas) in
    let small = c.length_of-length.ensures.small in
    seen
    ∙ ap array (c.new.ensures ∙ ap items_of_trees (c.in_ok-objects-in-Some.ensures ∙ ap (map make) (all_of source text 18446744073709551615 (omega (arith, small)))))
    ∙ ap (λ number. all_parsed c.args.searches.now number c.args.numbered text) (sym c.in-Some.is)
