use Rattle.std.proofs.Common.{◌≡◌, ℕ, List, length}
use Rattle.std.specs.FinMap as finite
use Rattle.std.specs.Prelude.{IfSome}
use Rattle.std.specs.Vec.Iter.{into_iter_items, into_iter_len}
use Rattle.vrl_value.specs.Tree.{object}
use Rattle.vrl_value.specs.View.{members_of}
use Rattle.vrl_store.specs.Kept.{trees_of}
use Rattle.vrl_store.specs.StoreView.{map_of, variables_of, AreDistinct}
use Rattle.vrl_store.specs.WellFormed.{IsWellFormed}
use Rattle.vrl_store.proofs.MapsOf.{put_over}
use Rattle.vrl_store.proofs.naming.named.Given as goal

-- to put what is left over what is told so far gives all
abbrev pub invariant-loop-variable : goal.invariant-loop-variable
invariant-loop-variable l = record {
  rest : put_over l.left (trees_of (into_iter_items l.variable-iterator)) (map_of (members_of l.fields)) ≡ variables_of l.fn.names (trees_of l.fn.variables.items);
  distinct : AreDistinct l.left;
  formed : (count : ℕ) → ((x : List ℕ) → IfSome (finite.get (variables_of l.fn.names (trees_of l.fn.variables.items)) x) (IsWellFormed count)) → IsWellFormed count (object (members_of l.fields));
  as_many : into_iter_len l.variable-iterator ≡ length (into_iter_items l.variable-iterator);
}
