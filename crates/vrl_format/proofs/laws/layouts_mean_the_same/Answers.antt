use Rattle.vrl_format.proofs.laws.layouts_mean_the_same.Goals as goal
use Rattle.vrl_format.proofs.Together.{layouts_mean_the_same}

pub returns : goal.returns
returns c = layouts_mean_the_same c.tokens_are_determined.ensures c.pieces_are_respelled.ensures
