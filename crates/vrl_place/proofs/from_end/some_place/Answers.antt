use Rattle.std.proofs.lemmas.Result.{IfOk-weaker}
use Rattle.vrl_kind.specs.Kinds.{IsParts}
use Rattle.vrl_place.specs.Inner.{spot_sets}
use Rattle.vrl_place.proofs.Reading.{some_parts}
use Rattle.vrl_place.proofs.from_end.some_place.Goals as goal

pub returns : goal.returns
returns c = IfOk-weaker c.parts.result (IsParts c.in_ok-without.field-0) _ (λ kind parts. some_parts (spot_sets c.args.spot) c.in_ok-kind.field-0 c.in_ok-without.field-0 kind c.in_ok-kind.ensures c.in_ok-without.ensures parts) c.parts.ensures
