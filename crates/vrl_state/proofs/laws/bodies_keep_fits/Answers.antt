use Rattle.vrl_state.proofs.Bodies.{bodies_fit}
use Rattle.vrl_state.proofs.laws.bodies_keep_fits.Goals as goal

pub returns : goal.returns
returns c = bodies_fit
