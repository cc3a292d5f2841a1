use Rattle.vrl_state.specs.States.{json_object}
use Rattle.vrl_state.proofs.kinds.json_object.Goals as goal

pub returns : goal.returns
returns c = c.equal_tags_are_one_kind.ensures c.in_ok-kind.kind json_object c.kind_is_canonical.ensures (tt, (tt, tt, tt)) (rw c.new.ensures.items at c.in_ok-kind.ensures)
