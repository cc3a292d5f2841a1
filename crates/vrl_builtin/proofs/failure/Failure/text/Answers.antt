use Rattle.vrl_builtin.proofs.failure.Failure.text.Goals as goal

pub returns-in-PathElement : goal.returns-in-PathElement
returns-in-PathElement c = rw c.in-PathElement.is c.part_text-in-PathElement.ensures
