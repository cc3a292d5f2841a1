use Rattle.std.proofs.Common.{refl}
use Rattle.vrl_state.proofs.state.State.start.Goals as goal

pub returns-clause-state : goal.returns-clause-state
returns-clause-state c = record { roots = c.in_ok-known.known; known = refl; event = c.in_ok-known.ensures.event; variables = c.in_ok-known.ensures.variables; scopes = c.new.ensures }

pub returns-clause-fits : goal.returns-clause-fits
returns-clause-fits c = λ store h. c.starts_fit.ensures c.args.event.now _ store (returns-clause-state c) h
