use Rattle.vrl_kind.specs.Canonical.{any_kind}
use Rattle.vrl_state.proofs.Turning.{turned_fits}
use Rattle.vrl_state.proofs.laws.forgetting_keeps_fits.Goals as goal

pub returns : goal.returns
returns c = λ roots known known' store is fits. turned_fits (λ K. any_kind) (λ v K h. c.any_holds_all.ensures v) roots known known' store is fits
