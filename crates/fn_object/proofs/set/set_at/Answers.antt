use Rattle.std.proofs.Common.{rules, ◌≡◌, None, codes}
use Rattle.vrl_value.specs.View.{tree_of}
use Rattle.vrl_path.specs.Trees.{set_tree}
use Rattle.vrl_builtin.specs.Listed.{items_in, trees_in}
use Rattle.vrl_builtin.specs.Words.{first_other}
use Rattle.fn_object.specs.Paths.{step_tags, steps_of, write_fault}
use Rattle.fn_object.proofs.Taken.{taken}
use Rattle.fn_object.proofs.set.set_at.Goals as goal

pub returns-in-None-write_fault : goal.returns-in-None-write_fault
returns-in-None-write_fault c =
    let ts = items_in (tree_of c.args.path.now) in
    let path = steps_of (trees_in ts) in
    let changed = set_tree (tree_of c.args.value.now) path (tree_of c.args.new.now) in
    let tags : first_other step_tags ts ≡ None = search rules in
    let faults : write_fault path ≡ None = search rules in
    taken (codes "set") (first_other step_tags ts) (write_fault path) changed c.value.result tags faults
    (c.value.ensures.value changed (rw c.items_of-elements.ensures.list at c.written.ensures))
