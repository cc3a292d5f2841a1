use Rattle.std.proofs.Common.{sym, subst}
use Rattle.vrl_compile.specs.Answer.{IsRefused}
use Rattle.vrl_compile.proofs.SoundAnswers.{sound_answer}
use Rattle.vrl_compile.proofs.ToldOnce.{alone_once, answer_once}
use Rattle.vrl_compile.proofs.script.compile.Goals as goal

pub returns-in_ok-alone-in-Err-clause-answer : goal.returns-in_ok-alone-in-Err-clause-answer
returns-in_ok-alone-in-Err-clause-answer c =
    subst (IsRefused c.args.declared.now c.args.text.now) (sym c.in_ok-alone-in-Err.ensures) ((rw c.in_ok-diagnostic-in-Err.ensures at c.in-Err.ensures.fault) c.args.declared.now)

pub returns-in-Ok-clause-sound : goal.returns-in-Ok-clause-sound
returns-in-Ok-clause-sound c =
    sound_answer c.accepted_scripts_are_sound.ensures c.args.declared.now c.args.text.now c.compile_parsed.result (c.compile_parsed.ensures c.args.text.now c.in-Ok.ensures.script)

pub returns-in_ok-alone-in-Err-clause-once : goal.returns-in_ok-alone-in-Err-clause-once
returns-in_ok-alone-in-Err-clause-once c = alone_once _ _ c.in_ok-alone-in-Err.ensures

pub returns-in-Ok-clause-once : goal.returns-in-Ok-clause-once
returns-in-Ok-clause-once c =
    answer_once c.diagnostics_stand_once.ensures.diagnostics c.args.text.now c.args.declared.now c.compile_parsed.result (c.compile_parsed.ensures c.args.text.now c.in-Ok.ensures.script)
