use Rattle.std.proofs.Common.{◌≡◌, length}
use Rattle.std.specs.Vec.Iter.{into_iter_items, into_iter_len}
use Rattle.vrl_batch.specs.Outs.{Joins}
use Rattle.vrl_batch.proofs.mapping.joined.Given as goal

-- the parts before those that are left were joined
abbrev pub invariant-loop-part : goal.invariant-loop-part
invariant-loop-part l = Joins l.fn.parts.items (into_iter_items l.part-iterator) l.all.items × (into_iter_len l.part-iterator ≡ length (into_iter_items l.part-iterator))
