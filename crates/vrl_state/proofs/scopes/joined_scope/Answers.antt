use Rattle.std.specs.FinMap as map
use Rattle.vrl_state.proofs.Limits.{either_variable}
use Rattle.vrl_state.proofs.scopes.joined_scope.Goals as goal

pub open-requires : goal.open-requires
open-requires c = λ x. either_variable (map.get c.args.mine.now x) (map.get c.args.others.now x) (map.get c.in_ok-hidden.hidden x) (c.in_ok-hidden.ensures x) (c.requires.first x) (c.requires.second x)

pub returns : goal.returns
returns c = record { hidden = c.in_ok-hidden.hidden; either = c.in_ok-hidden.ensures; is = c.in_ok-scopes.ensures }
