use Rattle.std.proofs.Common.{refl}
use Rattle.vrl_generate.specs.Made.{drawn}
use Rattle.vrl_generate.proofs.made.drawn.Goals as goal

pub returns : goal.returns
unfolding drawn
returns c = refl
