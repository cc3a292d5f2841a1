use Rattle.std.proofs.Common.{take}
use Rattle.vrl_kind.specs.Canonical.{PlacesAreCanonical}
use Rattle.vrl_kind.specs.View.{places_view}
use Rattle.vrl_kind.proofs.make.all_canonical.Given as goal

abbrev pub invariant-loop-kind : goal.invariant-loop-kind
invariant-loop-kind l = PlacesAreCanonical (places_view (take l.kind-index l.kinds))
