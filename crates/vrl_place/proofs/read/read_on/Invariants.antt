use Rattle.std.proofs.Common.{drop}
use Rattle.vrl_kind.specs.Kinds.{tags_at}
use Rattle.vrl_kind.specs.Sets.{Sets}
use Rattle.vrl_place.specs.Read.{HasJust, allowed, read}
use Rattle.vrl_place.proofs.read.read_on.Given as goal

-- what a read of the steps that are left has from here, the read of all steps has
abbrev pub invariant-loop-step : goal.invariant-loop-step
invariant-loop-step l = (K : Sets) → HasJust K (read (allowed (tags_at l.found)) (drop l.step-index l.steps)) → HasJust K (read (allowed (tags_at l.fn.kind)) l.steps)
