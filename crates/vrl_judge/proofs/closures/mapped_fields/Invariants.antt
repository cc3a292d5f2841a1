use Rattle.std.proofs.Common.{length}
use Rattle.vrl_kind.specs.declared.kind.KindField.{KindField}
use Rattle.vrl_judge.specs.ChangedParts.{put_part}
use Rattle.vrl_judge.proofs.CollectionKinds.{AreLeft}
use Rattle.vrl_judge.proofs.closures.mapped_fields.Given as goal

abbrev pub invariant-loop-last : goal.invariant-loop-last
invariant-loop-last l = AreLeft (put_part l.body) l.fields l.left l.known.items

abbrev pub decreases-loop-last : goal.decreases-loop-last
decreases-loop-last l = length {A = KindField} l.left
