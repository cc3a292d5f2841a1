use Rattle.std.proofs.Common.{ap, ◌∙◌}
use Rattle.vrl_value.specs.Look.{item_at}
use Rattle.vrl_value.specs.View.{items_view}
use Rattle.vrl_value.proofs.Copies.{items_of-out}
use Rattle.vrl_value.proofs.Places.{item_read}
use Rattle.vrl_value.proofs.value.Items.get.Goals as goal

pub returns : goal.returns
returns c =
    item_read (λ value. value.now) c.args.place c.deref.result.now c.get.result c.get.ensures.lookup
    ∙ ap (λ vs. item_at c.args.place (items_view vs)) c.deref.ensures.value
    ∙ ap (item_at c.args.place) (items_of-out c.args.self.now)
