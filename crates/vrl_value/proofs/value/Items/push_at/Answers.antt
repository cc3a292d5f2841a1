use Rattle.std.proofs.Common.{◌≡◌, ◌+◌, ◌-◌, ap, sym, ◌∙◌, subst, ◌≤◌, length, vec_len, arith}
use Rattle.vrl_value.specs.Parts.{put_item}
use Rattle.vrl_value.specs.View.{items_view, tree_of}
use Rattle.vrl_value.specs.declared.value.Items.{out-Items}
use Rattle.vrl_value.proofs.Copies.{items_of-out}
use Rattle.vrl_value.proofs.Places.{items_of-roll, items_view-push_at, vec_len_items, vec_len_view, on_ok}
use Rattle.vrl_value.proofs.value.Items.push_at.Goals as goal

pub push_at-requires : goal.push_at-requires
push_at-requires c = subst (λ n. n ≤ c.args.place) (sym (vec_len_view c.args.self.now)) c.requires

pub returns-clause-ok : goal.returns-clause-ok
returns-clause-ok c =
    let before = (out-Items c.args.self.now).items in
    let short : vec_len before ≤ c.args.place = subst (λ n. n ≤ c.args.place) (sym (vec_len_view c.args.self.now)) c.requires in
    let fits : length before.items + (c.args.place - vec_len before) ≡ c.args.place = omega (arith, vec_len_items before) in
    on_ok c.push_at.result _ _ (λ items. items_of-roll c.push_at.new.values ∙ ap items_view items ∙ items_view-push_at before.items c.args.place (c.args.place - vec_len before) c.args.value fits ∙ ap (put_item c.args.place (tree_of c.args.value)) (items_of-out c.args.self.now)) c.push_at.ensures.ok
