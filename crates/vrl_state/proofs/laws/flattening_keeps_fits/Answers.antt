use Rattle.vrl_kind.specs.Cut.{flat}
use Rattle.vrl_kind.proofs.Shapes.{within_flat}
use Rattle.vrl_state.proofs.Turning.{turned_fits}
use Rattle.vrl_state.proofs.laws.flattening_keeps_fits.Goals as goal

pub returns : goal.returns
returns c = λ roots known known' store is fits. turned_fits flat (λ v K h. c.wider_kinds_hold_more.ensures v K (flat K) (within_flat K) h) roots known known' store is fits
