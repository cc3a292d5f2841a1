use Rattle.vrl_token.proofs.Determined.{tokens_determined}
use Rattle.vrl_token.proofs.laws.tokens_are_determined.Goals as goal

pub returns : goal.returns
returns c = tokens_determined c.moments_read_back.ensures
