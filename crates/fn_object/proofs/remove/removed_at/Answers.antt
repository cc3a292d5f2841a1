use Rattle.std.proofs.Common.{rules, ◌≡◌, None, codes}
use Rattle.vrl_value.specs.View.{tree_of}
use Rattle.vrl_path.specs.Trees.{remove_tree}
use Rattle.vrl_builtin.specs.Listed.{items_in, trees_in}
use Rattle.vrl_builtin.specs.Words.{first_other}
use Rattle.fn_object.specs.Paths.{step_tags, steps_of, removal_fault}
use Rattle.fn_object.proofs.Taken.{taken}
use Rattle.fn_object.proofs.remove.removed_at.Goals as goal

pub returns-in-None-removal_fault : goal.returns-in-None-removal_fault
returns-in-None-removal_fault c =
    let ts = items_in (tree_of c.args.path.now) in
    let path = steps_of (trees_in ts) in
    let changed = remove_tree (tree_of c.args.value.now) path in
    let tags : first_other step_tags ts ≡ None = search rules in
    let faults : removal_fault path ≡ None = search rules in
    taken (codes "remove") (first_other step_tags ts) (removal_fault path) changed c.value.result tags faults
    (c.value.ensures.value changed (rw c.items_of-elements.ensures.list at c.without.ensures))
