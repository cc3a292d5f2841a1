use Rattle.vrl_value.specs.View.{tree_of}
use Rattle.vrl_resolve.proofs.FieldTurns.{part_kept}
use Rattle.vrl_resolve.proofs.Turns.{on_ok}
use Rattle.vrl_resolve.proofs.iteration.put_field.Goals as goal

pub returns-in-Part-clause-taken : goal.returns-in-Part-clause-taken
returns-in-Part-clause-taken c = rw c.in-Part.is (on_ok c.put_renamed.result (λ takes. part_kept c.in-Part.part (tree_of c.args.given) c.args.made.now c.put_renamed.new.made takes) c.put_renamed.ensures.taken)
