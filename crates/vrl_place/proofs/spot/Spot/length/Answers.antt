use Rattle.std.proofs.Common.{ℕ, MatchOption, sym, subst}
use Rattle.vrl_kind.specs.Kinds.{tags_at}
use Rattle.vrl_place.specs.FromEnd.{HasLength}
use Rattle.vrl_place.specs.Inner.{bare_sets}
use Rattle.vrl_place.specs.Sets.{or_absent_if}
use Rattle.vrl_place.proofs.Lengths.{length_beside}
use Rattle.vrl_place.proofs.spot.Spot.length.Goals as goal

pub returns-in-Exact : goal.returns-in-Exact
returns-in-Exact c =
    subst (λ bare. MatchOption c.length_of.result ((count : ℕ) → HasLength (or_absent_if c.args.self.absent (bare_sets bare)) count → ⊥) (λ count. HasLength (or_absent_if c.args.self.absent (bare_sets bare)) count)) (sym c.in-Exact.is)
    (length_beside c.length_of.result c.args.self.absent (tags_at c.in-Exact.kind.now) c.length_of.ensures)
