use Rattle.std.proofs.Common.{rules, ◌≡◌, ap, sym, ◌∙◌}
use Rattle.vrl_value.proofs.Places.{count_of-view}
use Rattle.vrl_value.specs.Parts.{count_of, members_count}
use Rattle.vrl_value.specs.Tree.{array, object}
use Rattle.vrl_value.specs.View.{items_of, members_of, tree_of}
use Rattle.vrl_value.specs.declared.value.Value.{the_lemmas}
use Rattle.fn_string.proofs.Counted.{members_count-view}
use Rattle.fn_string.specs.Length.{length_of}
use Rattle.fn_string.proofs.length.length_of.Goals as goal

pub returns-in-List-clause-length : goal.returns-in-List-clause-length
returns-in-List-clause-length c =
    let is : tree_of c.args.value.now ≡ array (items_of c.in-List.items) = search (rules, the_lemmas) in
    count_of-view c.as_slice.result.now ∙ ap count_of c.as_slice.ensures ∙ ap length_of (sym is)

pub returns-in-Object-clause-length : goal.returns-in-Object-clause-length
returns-in-Object-clause-length c =
    let is : tree_of c.args.value.now ≡ object (members_of c.in-Object.fields) = search (rules, the_lemmas) in
    c.len.ensures.len ∙ members_count-view c.as_map.result.now.entries ∙ ap members_count c.as_map.ensures ∙ ap length_of (sym is)
