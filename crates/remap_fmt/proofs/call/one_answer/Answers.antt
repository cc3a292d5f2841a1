use Rattle.remap_fmt.proofs.Determined.{one_answer}
use Rattle.remap_fmt.proofs.call.one_answer.Goals as goal

pub returns : goal.returns
returns c = one_answer c.answers_are_determined.ensures
