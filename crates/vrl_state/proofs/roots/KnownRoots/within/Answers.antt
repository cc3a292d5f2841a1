use Rattle.std.proofs.Common.{sym, ◌∙◌}
use Rattle.vrl_state.proofs.Limits.{within_seen}
use Rattle.vrl_state.proofs.roots.KnownRoots.within.Goals as goal

pub returns-then-not-within : goal.returns-then-not-within
returns-then-not-within c = (λ never. cc, λ all. sym c.if-not-within.true ∙ c.within.ensures.1 (within_seen _ _ _ _ (sym c.self.view_is) (sym c.other.view_is) all).event)

pub returns : goal.returns
returns c = (
  λ yes. within_seen _ _ _ _ c.self.view_is c.other.view_is (record { event = c.within.ensures.0 c.if-not-within.false; variables = c.within-2.ensures.0 yes }),
  λ all. c.within-2.ensures.1 (within_seen _ _ _ _ (sym c.self.view_is) (sym c.other.view_is) all).variables,
)
