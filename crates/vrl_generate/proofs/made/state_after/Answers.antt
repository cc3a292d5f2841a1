use Rattle.std.proofs.Common.{◌*◌}
use Rattle.vrl_generate.specs.Made.{state_after}
use Rattle.vrl_generate.proofs.Coming.{mod_sum}
use Rattle.vrl_generate.proofs.made.state_after.Goals as goal

pub returns : goal.returns
unfolding state_after
returns c = mod_sum (c.args.state * 6364136223846793005) 1442695040888963407 18446744073709551616
