use Rattle.vrl_format.proofs.laws.layouts_stay.Goals as goal
use Rattle.vrl_format.proofs.Together.{layouts_stay}

pub returns : goal.returns
returns c = layouts_stay c.tokens_are_determined.ensures c.pieces_are_respelled.ensures
