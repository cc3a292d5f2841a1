use Rattle.std.proofs.Common.{sym, ap, ◌∙◌, subst, ◌<◌, ◌≤◌, option_map}
use Rattle.std.proofs.lemmas.Option.{slice_get_read, slice_get_past}
use Rattle.vrl_value.specs.Look.{item_at}
use Rattle.vrl_value.specs.Parts.{without_item}
use Rattle.vrl_value.specs.View.{items_view, tree_of}
use Rattle.vrl_value.specs.declared.value.Items.{out-Items}
use Rattle.vrl_value.proofs.Copies.{items_of-out}
use Rattle.vrl_value.proofs.Places.{item_at-view, items_of-roll, items_view-remove, without_item-past, vec_len_items}
use Rattle.vrl_value.proofs.value.Items.remove.Goals as goal

pub returns-then-place-len-clause-value : goal.returns-then-place-len-clause-value
returns-then-place-len-clause-value c =
    let vs = (out-Items c.args.self.now).items.items in
    ap (option_map tree_of) (sym (slice_get_read vs c.len.result c.args.place c.remove.result (c.len.ensures ∙ vec_len_items (out-Items c.args.self.now).items) c.if-place-len.true c.remove.ensures.value))
    ∙ item_at-view c.args.place vs
    ∙ ap (item_at c.args.place) (items_of-out c.args.self.now)

pub returns-then-place-len-clause-rest : goal.returns-then-place-len-clause-rest
returns-then-place-len-clause-rest c =
    items_of-roll c.remove.new.self
    ∙ ap items_view c.remove.ensures.items
    ∙ items_view-remove c.args.place (out-Items c.args.self.now).items.items (subst (λ n. c.args.place < n) (c.len.ensures ∙ vec_len_items (out-Items c.args.self.now).items) c.if-place-len.true)
    ∙ ap (without_item c.args.place) (items_of-out c.args.self.now)

pub returns-else-place-len-clause-value : goal.returns-else-place-len-clause-value
returns-else-place-len-clause-value c =
    let vs = (out-Items c.args.self.now).items.items in
    ap (option_map tree_of) (sym (slice_get_past vs c.args.place (subst (λ n. n ≤ c.args.place) (c.len.ensures ∙ vec_len_items (out-Items c.args.self.now).items) c.if-place-len.false)))
    ∙ item_at-view c.args.place vs
    ∙ ap (item_at c.args.place) (items_of-out c.args.self.now)

pub returns-else-place-len-clause-rest : goal.returns-else-place-len-clause-rest
returns-else-place-len-clause-rest c =
    let vs = (out-Items c.args.self.now).items.items in
    sym (items_of-out c.args.self.now)
    ∙ sym (without_item-past c.args.place vs (subst (λ n. n ≤ c.args.place) (c.len.ensures ∙ vec_len_items (out-Items c.args.self.now).items) c.if-place-len.false))
    ∙ ap (without_item c.args.place) (items_of-out c.args.self.now)
