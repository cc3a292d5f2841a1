use Rattle.std.proofs.Common.{◌≡◌, ◌≤◌, ◌∷◌, length, take}
use Rattle.vrl_store.specs.Kept.{trees_of}
use Rattle.vrl_store.specs.StoreView.{Stay}
use Rattle.vrl_store.proofs.store.Store.leave.Given as goal

abbrev pub invariant-loop-self : goal.invariant-loop-self
invariant-loop-self l = record {
  within : l.count ≤ length l.self.present.items;
  present : l.self.present.items ≡ take (length l.self.present.items) l.fn.self.present.items;
  stay : Stay (trees_of l.fn.self.variables.items) (trees_of l.self.variables.items) (0 ∷ l.self.present.items);
  event : l.self.event ≡ l.fn.self.event;
  as_many : length l.self.variables.items ≡ length l.fn.self.variables.items;
}

abbrev pub decreases-loop-self : goal.decreases-loop-self
decreases-loop-self l = length l.self.present.items
