use Rattle.std.proofs.Common.{◌&&◌, sym, ap, ◌∙◌}
use Rattle.vrl_kind.specs.View.{places_view}
use Rattle.fn_list.specs.Sure.{all_sure}
use Rattle.fn_list.proofs.Widening.{all_there}
use Rattle.fn_list.proofs.places.is_known.Goals as goal

pub returns-then-is_nothing : goal.returns-then-is_nothing
returns-then-is_nothing c = c.all_there.ensures ∙ all_there c.args.places.now ∙ ap (λ b. b && all_sure (places_view c.args.places.now)) (sym c.if-is_nothing.true ∙ c.is_nothing.ensures)
