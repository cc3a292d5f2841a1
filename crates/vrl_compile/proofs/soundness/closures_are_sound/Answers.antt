use Rattle.vrl_compile.proofs.SoundAll.{closures_sound}
use Rattle.vrl_compile.proofs.soundness.closures_are_sound.Goals as goal

pub returns : goal.returns
returns c = closures_sound c.lower_laws.ensures
