use Rattle.std.proofs.Common.{sym, subst}
use Rattle.vrl_value.specs.Tree.{IsOrdered}
use Rattle.vrl_value.specs.View.{tree_of}
use Rattle.vrl_path.proofs.Order.{removed_ordered}
use Rattle.vrl_path.proofs.Results.{removed_some, removed_none, on_some_map, if_none_map}
use Rattle.vrl_path.proofs.removal.remove.Goals as goal

pub returns-clause-removed : goal.returns-clause-removed
returns-clause-removed c =
    let value = rw c.as_slice.ensures at c.remove_at.ensures.value in
    let rest = rw c.as_slice.ensures at c.remove_at.ensures.rest in
    on_some_map c.remove_at.result tree_of _ (removed_some c.members_are_maps.ensures c.items_are_lists.ensures _ (tree_of c.args.value.now) c.args.path.now (tree_of c.remove_at.new.value) (sym value) rest)

pub returns-clause-ordered : goal.returns-clause-ordered
returns-clause-ordered c = λ old. subst IsOrdered (sym c.remove_at.ensures.rest) (removed_ordered c.trees_stay_in_order.ensures (tree_of c.args.value.now) c.as_slice.result.now old)

pub returns-clause-none : goal.returns-clause-none
returns-clause-none c =
    let value = rw c.as_slice.ensures at c.remove_at.ensures.value in
    let rest = rw c.as_slice.ensures at c.remove_at.ensures.rest in
    if_none_map c.remove_at.result tree_of _ (removed_none _ (tree_of c.args.value.now) c.args.path.now (tree_of c.remove_at.new.value) (sym value) rest)
