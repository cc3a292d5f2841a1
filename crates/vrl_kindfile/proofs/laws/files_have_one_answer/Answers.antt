use Rattle.vrl_kindfile.proofs.OneAnswer.{one_answer}
use Rattle.vrl_kindfile.proofs.laws.files_have_one_answer.Goals as goal

pub returns : goal.returns
returns c = one_answer c.equal_tags_are_one_kind.ensures
