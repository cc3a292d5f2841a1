use Rattle.std.proofs.Common.{◌≡◌, get_or, set, refl, rules, sym, ◌∙◌}
use Rattle.std.proofs.lemmas.Bool.{true≢false}
use Rattle.vrl_kind.proofs.Ahead.{fields_sorted}
use Rattle.vrl_kind.proofs.Placing.{gap_unknown, insert_at, set_at}
use Rattle.vrl_kind.proofs.fields.put_known.Goals as goal

pub field_index-requires : goal.field_index-requires
field_index-requires c = rw c.as_slice.ensures.value (fields_sorted _ c.requires.fields)

pub returns-in-Ok-clause-put : goal.returns-in-Ok-clause-put
returns-in-Ok-clause-put c =
    let items = c.args.fields.now.items in
    let f = c.index_mut.result.now in
    let here : f ≡ get_or items c.in-Ok.at f = search rules in
    set_at c.args.name.now c.args.kind items (set items c.in-Ok.at c.set_kind.new.field) c.in-Ok.at f c.set_kind.new.field c.requires.fields c.requires.kind (rw c.as_slice.ensures.value at c.in-Ok.ensures.found) here refl
    c.set_kind.ensures.name c.set_kind.ensures.kind

pub returns-in_ok-insert-in-Err-clause-put : goal.returns-in_ok-insert-in-Err-clause-put
returns-in_ok-insert-in-Err-clause-put c =
    insert_at c.args.name.now c.args.fields.now.items _ c.in-Err.at (record { name = c.in_ok-copy-in-Err.copy; kind = c.args.kind }) c.requires.fields c.requires.kind (rw c.as_slice.ensures.value at c.in-Err.ensures.lacking)
    c.in_ok-insert-in-Err.ensures.items c.in_ok-copy-in-Err.ensures

pub returns-in_err-copy-in-Err-clause-known : goal.returns-in_err-copy-in-Err-clause-known
returns-in_err-copy-in-Err-clause-known c known = absurd (true≢false (sym known ∙ gap_unknown c.args.name.now c.args.fields.now.items c.in-Err.at (rw c.as_slice.ensures.value at c.in-Err.ensures.lacking)))

pub returns-in_err-insert-in-Err-clause-known : goal.returns-in_err-insert-in-Err-clause-known
returns-in_err-insert-in-Err-clause-known c known = absurd (true≢false (sym known ∙ gap_unknown c.args.name.now c.args.fields.now.items c.in-Err.at (rw c.as_slice.ensures.value at c.in-Err.ensures.lacking)))
