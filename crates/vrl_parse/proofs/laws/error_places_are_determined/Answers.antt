use Rattle.vrl_parse.proofs.Places.{one_place}
use Rattle.vrl_parse.proofs.laws.error_places_are_determined.Goals as goal

pub returns : goal.returns
returns c = one_place
