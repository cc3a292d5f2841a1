use Rattle.vrl_place.proofs.Views.{some_fields_of}
use Rattle.vrl_place.proofs.fields.fields_of.Goals as goal

pub returns-in-Some : goal.returns-in-Some
returns-in-Some c = some_fields_of c.args.kind.now record { known = c.as_slice.result; behind = c.of_rest.result } _ _ c.kind_is_canonical.ensures c.in-Some.ensures c.as_slice.ensures c.of_rest.ensures.tags c.of_rest.ensures.absent
