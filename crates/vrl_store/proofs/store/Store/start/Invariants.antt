use Rattle.std.proofs.Common.{◌≡◌, length}
use Rattle.vrl_store.proofs.Started.{IsAlone}
use Rattle.vrl_store.proofs.store.Store.start.Given as goal

abbrev pub invariant-loop : goal.invariant-loop
invariant-loop l = record {
  alone : IsAlone l.fn.metadata l.variables.items;
  as_many : length l.variables.items ≡ l.counter;
  event : l.event ≡ l.fn.event;
}
