use Rattle.std.proofs.lemmas.Option.{slice_get_past}
use Rattle.vrl_judge.proofs.Parts.{reported_none}
use Rattle.vrl_check.proofs.calls.report_unknown.Goals as goal

pub returns-in-None : goal.returns-in-None
returns-in-None c = rw (slice_get_past c.args.args.now c.args.place c.in-None.ensures.lookup.3) (reported_none c.args.checker.now c.args.ends.now)
