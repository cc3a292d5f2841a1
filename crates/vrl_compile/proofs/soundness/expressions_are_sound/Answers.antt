use Rattle.vrl_compile.proofs.SoundAll.{expressions_sound}
use Rattle.vrl_compile.proofs.soundness.expressions_are_sound.Goals as goal

pub returns : goal.returns
returns c = expressions_sound c.lower_laws.ensures
