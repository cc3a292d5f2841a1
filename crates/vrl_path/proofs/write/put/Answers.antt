use Rattle.vrl_value.specs.View.{tree_of}
use Rattle.vrl_path.proofs.Options.{on_ok}
use Rattle.vrl_path.proofs.Results.{as_deep, is_set_at, result_ordered}
use Rattle.vrl_path.proofs.write.put.Goals as goal

pub returns-clause-set : goal.returns-clause-set
returns-clause-set c =
    on_ok c.put_at.result _ _ (λ e. is_set_at c.members_are_maps.ensures c.items_are_lists.ensures (tree_of c.args.value.now) c.args.path.now (tree_of c.args.new) (tree_of c.put_at.new.value) (rw c.as_slice.ensures at e)) c.put_at.ensures.ok

pub returns-clause-depth : goal.returns-clause-depth
returns-clause-depth c =
    on_ok c.put_at.result _ _ (λ e. as_deep (tree_of c.args.value.now) c.args.path.now (tree_of c.args.new) (tree_of c.put_at.new.value) (rw c.as_slice.ensures at e)) c.put_at.ensures.ok

pub returns-clause-ordered : goal.returns-clause-ordered
returns-clause-ordered c =
    result_ordered c.trees_stay_in_order.ensures c.put_at.result (tree_of c.args.value.now) c.as_slice.result.now (tree_of c.args.new) (tree_of c.put_at.new.value) c.put_at.ensures.ok c.put_at.ensures.err
