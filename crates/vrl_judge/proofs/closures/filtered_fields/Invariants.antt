use Rattle.std.proofs.Common.{length}
use Rattle.vrl_kind.specs.declared.kind.KindField.{KindField}
use Rattle.vrl_judge.specs.ChangedParts.{kept_field}
use Rattle.vrl_judge.proofs.CollectionKinds.{AreLeft}
use Rattle.vrl_judge.proofs.closures.filtered_fields.Given as goal

abbrev pub invariant-loop-last : goal.invariant-loop-last
invariant-loop-last l = AreLeft kept_field l.fields l.left l.known.items

abbrev pub decreases-loop-last : goal.decreases-loop-last
decreases-loop-last l = length {A = KindField} l.left
