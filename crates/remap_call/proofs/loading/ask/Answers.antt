use Rattle.std.proofs.Common.{refl, rules}
use Rattle.remap_words.specs.View.{invocation_of}
use Rattle.remap_call.proofs.Loads.{ready_as, ready_words, script_unloaded, unready_as, wanting}
use Rattle.remap_call.proofs.loading.ask.Goals as goal

pub returns-in-Err-Refused-clause-ready : goal.returns-in-Err-Refused-clause-ready
returns-in-Err-Refused-clause-ready g c = ready_words _ _ _ (search rules)

pub returns-in-Err-Memory-clause-unready : goal.returns-in-Err-Memory-clause-unready
returns-in-Err-Memory-clause-unready g c = wanting _ _ _ _ refl

pub returns-in-Err-clause-unready : goal.returns-in-Err-clause-unready
returns-in-Err-clause-unready g c =
    script_unloaded _ _ (invocation_of c.in-Ok.invocation) _ _ c.in-Err.fault c.in-Ok.ensures.read (search rules)

pub returns-in-Ok-ask_script-clause-ready : goal.returns-in-Ok-ask_script-clause-ready
returns-in-Ok-ask_script-clause-ready g c =
    ready_as _ _ _ (invocation_of c.in-Ok.invocation) _ _ _ _ c.in-Ok.ensures.read c.in-Ok-load.ensures.held
    c.in-Ok-load.ensures.failures c.in-Ok-ask_script.ensures.ready

pub returns-in-Err-ask_script-clause-unready : goal.returns-in-Err-ask_script-clause-unready
returns-in-Err-ask_script-clause-unready g c =
    unready_as _ _ _ (invocation_of c.in-Ok.invocation) _ _ _ _ c.in-Ok.ensures.read c.in-Ok-load.ensures.held
    c.in-Ok-load.ensures.failures c.in-Err-ask_script.ensures.unready
