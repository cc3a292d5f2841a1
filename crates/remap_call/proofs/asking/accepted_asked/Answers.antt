use Rattle.std.proofs.Common.{ap, refl, subst, sym}
use Rattle.remap_words.specs.View.{IsModeInBounds, invocation_of, mode_of_read}
use Rattle.remap_call.specs.Request.{IsRun}
use Rattle.remap_call.proofs.Accepting.{handles_as, run_as, sources_as}
use Rattle.remap_call.proofs.Requests.{kinds_told}
use Rattle.remap_call.proofs.asking.accepted_asked.Goals as goal

pub script_of-requires-clause-sources : goal.script_of-requires-clause-sources
script_of-requires-clause-sources c = sources_as c.requires.accepted

pub script_of-requires-clause-handled : goal.script_of-requires-clause-handled
script_of-requires-clause-handled c = handles_as c.accepted_scripts_are_sound.ensures c.requires.text c.requires.accepted

pub script_of-script-requires-clause-sources : goal.script_of-script-requires-clause-sources
script_of-script-requires-clause-sources c = sources_as c.requires.accepted

pub script_of-script-requires-clause-handled : goal.script_of-script-requires-clause-handled
script_of-script-requires-clause-handled c = handles_as c.accepted_scripts_are_sound.ensures c.requires.text c.requires.accepted

pub returns-in-Lines-clause-asks : goal.returns-in-Lines-clause-asks
returns-in-Lines-clause-asks c file declared =
    let i = invocation_of c.args.invocation.now in (
      ap mode_of_read c.in-Lines.is,
      subst (IsRun i file c.args.script) (sym c.script_of.ensures.run) (run_as i file _ c.requires.text c.requires.accepted declared refl refl refl refl),
    )

pub returns-in-Generate-clause-asks : goal.returns-in-Generate-clause-asks
returns-in-Generate-clause-asks c file declared =
    let i = invocation_of c.args.invocation.now in (
      ap mode_of_read c.in-Generate.is,
      subst (IsRun i file c.args.script) (sym c.script_of-script.ensures.run) (run_as i file _ c.requires.text c.requires.accepted declared refl refl refl refl),
    )

pub returns-in-Generate-clause-ready : goal.returns-in-Generate-clause-ready
returns-in-Generate-clause-ready c =
    let bounds = subst (λ m. IsModeInBounds (mode_of_read m)) c.in-Generate.is c.requires.bounds.mode in
    (c.script_of-script.ensures.ready, bounds.1)

pub returns-in-Check-clause-asks : goal.returns-in-Check-clause-asks
returns-in-Check-clause-asks c = kinds_told _ c.kinds_asked.result c.requires.text c.requires.accepted (ap mode_of_read c.in-Check.is) c.judged_of.ensures c.kinds_asked.ensures.asks
