use Rattle.std.proofs.Common.{refl, ap, ◌∙◌}
use Rattle.std.specs.Vec.{with_item}
use Rattle.vrl_value.specs.Look.{item_at}
use Rattle.vrl_value.specs.Parts.{replace_item}
use Rattle.vrl_value.specs.View.{tree_of}
use Rattle.vrl_value.specs.declared.value.Items.{out-Items}
use Rattle.vrl_value.proofs.Changes.{on_some}
use Rattle.vrl_value.proofs.Copies.{items_of-out}
use Rattle.vrl_value.proofs.Places.{item_read, items_of-roll, items_view-set}
use Rattle.vrl_value.proofs.value.Items.get_mut.Goals as goal

pub returns : goal.returns
returns c =
    let before = (out-Items c.args.self.now).items in (
      (
        refl,
        λ w. on_some c.get_mut.result _ (items_of-roll (with_item before c.args.place w) ∙ items_view-set c.args.place before.items w ∙ ap (replace_item c.args.place (tree_of w)) (items_of-out c.args.self.now)),
        items_of-roll before ∙ items_of-out c.args.self.now,
      ),
      record { writes_back = tt; value = item_read (λ value. value.now) c.args.place before.items c.get_mut.result c.get_mut.ensures.item ∙ ap (item_at c.args.place) (items_of-out c.args.self.now) },
    )
