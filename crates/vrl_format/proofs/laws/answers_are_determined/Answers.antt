use Rattle.vrl_format.proofs.Answers.{determined}
use Rattle.vrl_format.proofs.laws.answers_are_determined.Goals as goal

pub returns : goal.returns
returns c = determined c.tokens_are_determined.ensures c.scripts_are_determined.ensures c.error_places_are_determined.ensures
