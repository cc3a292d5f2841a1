use Rattle.std.proofs.Common.{length}
use Rattle.vrl_path.proofs.build.+built.Given as goal

abbrev pub decreases-built : goal.decreases-built
decreases-built l = length l.steps.now
