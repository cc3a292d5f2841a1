use Rattle.vrl_compile.proofs.SoundScripts.{script_is_sound}
use Rattle.vrl_compile.proofs.soundness.scripts_are_sound.Goals as goal

pub returns : goal.returns
returns c = script_is_sound c.lower_laws.ensures c.expressions_are_sound.ensures
