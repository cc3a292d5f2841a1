use Rattle.std.proofs.Common.{◌≡◌, get_or, set, refl, rules, ◌∙◌}
use Rattle.vrl_kind.proofs.Ahead.{fields_sorted}
use Rattle.vrl_kind.proofs.Placing.{gap_unknown, take_at}
use Rattle.vrl_kind.proofs.fields.take_known.Goals as goal

pub field_index-requires : goal.field_index-requires
field_index-requires c = rw c.as_slice.ensures.value (fields_sorted _ c.requires)

pub returns-in-Ok : goal.returns-in-Ok
returns-in-Ok c =
    let items = c.args.fields.now.items in
    let f = c.index_mut.result.now in
    let here : f ≡ get_or items c.in-Ok.at f = search rules in
    take_at c.args.name.now items (set items c.in-Ok.at c.set_kind.new.field) c.in-Ok.at f c.set_kind.new.field c.set_kind.result c.requires (rw c.as_slice.ensures.value at c.in-Ok.ensures.found) here refl
    c.set_kind.ensures.name (c.set_kind.ensures.kind ∙ c.no_value.ensures) c.set_kind.ensures.given

pub returns-in-Err : goal.returns-in-Err
returns-in-Err c = (refl, gap_unknown c.args.name.now c.args.fields.now.items c.in-Err._at (rw c.as_slice.ensures.value at c.in-Err.ensures.lacking))
