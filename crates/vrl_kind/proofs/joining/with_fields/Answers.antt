use Rattle.std.proofs.Common.{ap}
use Rattle.vrl_kind.specs.Seen.{seen_object}
use Rattle.vrl_kind.proofs.Gathering.{no_fields_added}
use Rattle.vrl_kind.proofs.joining.with_fields.Goals as goal

pub returns-in-None : goal.returns-in-None
returns-in-None c = no_fields_added _ _ (ap seen_object c.in-None.is)
