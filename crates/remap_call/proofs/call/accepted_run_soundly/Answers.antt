use Rattle.remap_call.proofs.RunSound.{runs_soundly}
use Rattle.remap_call.proofs.call.accepted_run_soundly.Goals as goal

pub returns : goal.returns
returns c = runs_soundly c.laws.ensures
