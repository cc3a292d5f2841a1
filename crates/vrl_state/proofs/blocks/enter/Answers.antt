use Rattle.std.proofs.Common.{refl}
use Rattle.vrl_state.specs.View.{scope_of}
use Rattle.vrl_state.proofs.Limits.{none_hidden}
use Rattle.vrl_state.proofs.blocks.enter.Goals as goal

pub open-requires : goal.open-requires
open-requires c = none_hidden c.new.result c.new.ensures

pub returns-clause-entered : goal.returns-clause-entered
returns-clause-entered c = record { scope = scope_of c.in_ok-names.names c.new.result; names = c.in_ok-names.ensures; hidden = c.new.ensures; scopes = c.in_ok-opened.ensures; known = refl }
