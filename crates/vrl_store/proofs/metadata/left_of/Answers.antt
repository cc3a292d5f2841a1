use Rattle.std.proofs.Common.{sym, ◌∙◌}
use Rattle.vrl_store.proofs.FirstVariable.{metadata_left, other_left}
use Rattle.vrl_store.proofs.Started.{null_tree}
use Rattle.vrl_store.proofs.Taken.{null_shallow}
use Rattle.vrl_store.proofs.metadata.left_of.Goals as goal

pub returns-then-number-eq-METADATA-clause-left : goal.returns-then-number-eq-METADATA-clause-left
returns-then-number-eq-METADATA-clause-left c = λ names distinct begins. c.empty_object.ensures.empty ∙ sym (metadata_left names c.args.number begins c.if-number-eq-METADATA.true)

pub returns-clause-left : goal.returns-clause-left
returns-clause-left c = λ names distinct begins. null_tree ∙ sym (other_left names c.args.number distinct begins c.if-number-eq-METADATA.false)

pub returns-clause-shallow : goal.returns-clause-shallow
returns-clause-shallow c = null_shallow
