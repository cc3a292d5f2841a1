use Rattle.vrl_compile.proofs.SoundAnswers.{accepted_scripts_are_sound}
use Rattle.vrl_compile.proofs.soundness.accepted_scripts_are_sound.Goals as goal

pub returns : goal.returns
returns c = accepted_scripts_are_sound c.scripts_are_sound.ensures c.either_holds_both.ensures c.joins_keep_fits.ensures
