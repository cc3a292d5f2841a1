use Rattle.std.proofs.Common.{refl}
use Rattle.vrl_kind.proofs.Ahead.{fields_sorted}
use Rattle.vrl_kind.proofs.Placing.{gap_left, remove_at}
use Rattle.vrl_kind.proofs.fields.leave_out.Goals as goal

pub field_index-requires : goal.field_index-requires
field_index-requires c = rw c.as_slice.ensures.value (fields_sorted _ c.requires)

pub returns-in-Ok : goal.returns-in-Ok
returns-in-Ok c = remove_at c.args.name.now c.args.fields.now.items _ c.in-Ok.at c.remove.result c.requires (rw c.as_slice.ensures.value at c.in-Ok.ensures.found) c.remove.ensures.value c.remove.ensures.items

pub returns-in-Err : goal.returns-in-Err
returns-in-Err c = gap_left c.args.name.now c.args.fields.now.items c.args.fields.now.items c.in-Err._at c.requires (rw c.as_slice.ensures.value at c.in-Err.ensures.lacking) refl
