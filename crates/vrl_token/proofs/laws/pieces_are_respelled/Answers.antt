use Rattle.vrl_token.proofs.Respelled.{respelled}
use Rattle.vrl_token.proofs.laws.pieces_are_respelled.Goals as goal

pub returns : goal.returns
returns c = respelled
