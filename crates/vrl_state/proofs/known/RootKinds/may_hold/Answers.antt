use Rattle.std.proofs.Common.{sym, ◌∙◌}
use Rattle.vrl_state.proofs.known.RootKinds.may_hold.Goals as goal

pub returns-then-not-begin_with_event : goal.returns-then-not-begin_with_event
returns-then-not-begin_with_event c = (λ never. cc, λ list. sym c.if-not-begin_with_event.true ∙ c.begin_with_event.ensures.1 list.event)

pub returns-then-not-are_rising : goal.returns-then-not-are_rising
returns-then-not-are_rising c = (λ never. cc, λ list. sym c.if-not-are_rising.true ∙ c.are_rising.ensures ∙ list.order)

pub returns : goal.returns
returns c = (
  λ yes. record { event = c.begin_with_event.ensures.0 c.if-not-begin_with_event.false; order = sym c.are_rising.ensures ∙ c.if-not-are_rising.false; present = c.are_present.ensures.0 yes },
  λ list. c.are_present.ensures.1 list.present,
)
