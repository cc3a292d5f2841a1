use Rattle.std.proofs.Common.{◌≤◌, drop, length, map}
use Rattle.vrl_resolve.specs.Linked.{linked_of}
use Rattle.vrl_resolve.specs.Plain.{AllPlain}
use Rattle.vrl_resolve.proofs.calls.run_before.Given as goal

abbrev pub invariant-loop-count : goal.invariant-loop-count
invariant-loop-count l = record {
  within : l.count ≤ length l.args;
  plain : AllPlain (map linked_of (drop l.count l.args));
}

abbrev pub decreases-loop-count : goal.decreases-loop-count
decreases-loop-count l = l.count
