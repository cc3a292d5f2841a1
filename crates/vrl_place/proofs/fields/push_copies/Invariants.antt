use Rattle.std.proofs.Common.{length}
use Rattle.vrl_kind.specs.declared.kind.KindField.{KindField}
use Rattle.vrl_place.proofs.Looked.{AreLeft}
use Rattle.vrl_place.proofs.fields.push_copies.Given as goal

abbrev pub invariant-loop-last : goal.invariant-loop-last
invariant-loop-last l = AreLeft l.absent l.known l.left l.initial.fields.items l.fields.items

abbrev pub decreases-loop-last : goal.decreases-loop-last
decreases-loop-last l = length {A = KindField} l.left
