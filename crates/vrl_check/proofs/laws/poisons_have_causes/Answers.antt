use Rattle.vrl_check.proofs.Causes as causes
use Rattle.vrl_check.proofs.laws.poisons_have_causes.Goals as goal

pub returns : goal.returns
returns c = causes.poisons_have_causes
