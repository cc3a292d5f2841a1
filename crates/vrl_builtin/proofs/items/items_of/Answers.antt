use Rattle.std.proofs.Common.{rules, ◌≡◌, sym, ap, ◌∙◌, map}
use Rattle.vrl_value.specs.Tree.{array}
use Rattle.vrl_value.specs.View.{items_of, tree_of}
use Rattle.vrl_value.specs.declared.value.Value.{the_lemmas}
use Rattle.vrl_builtin.specs.Listed.{items_in, trees_in}
use Rattle.vrl_builtin.proofs.Listed.{listed}
use Rattle.vrl_builtin.proofs.items.items_of.Goals as goal

pub returns-in-List-clause-list : goal.returns-in-List-clause-list
returns-in-List-clause-list c =
    let seen : tree_of c.args.value.now ≡ array (items_of c.in-List.items) = search (rules, the_lemmas) in
    sym (listed (map tree_of c.as_slice.result.now)) ∙ ap trees_in c.as_slice.ensures ∙ sym (ap (λ v. trees_in (items_in v)) seen)
