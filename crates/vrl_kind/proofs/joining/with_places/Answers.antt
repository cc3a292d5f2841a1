use Rattle.std.proofs.Common.{ap}
use Rattle.vrl_kind.specs.Seen.{seen_list}
use Rattle.vrl_kind.proofs.Gathering.{no_places_added}
use Rattle.vrl_kind.proofs.joining.with_places.Goals as goal

pub returns-in-None : goal.returns-in-None
returns-in-None c = no_places_added _ _ (ap seen_list c.in-None.is)
