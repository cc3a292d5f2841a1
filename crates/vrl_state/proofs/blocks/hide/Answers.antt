use Rattle.vrl_state.proofs.Turning.{is_hidden}
use Rattle.vrl_state.proofs.blocks.hide.Goals as goal

pub returns-clause-hidden : goal.returns-clause-hidden
returns-clause-hidden c =
    let bound = c.in_ok-bind.ensures.bound in
    is_hidden c.args.name.now c.args.new.now bound.0 c.args.known.now c.bind.new.known c.args.scopes.now c.in_ok-inner.inner c.requires.entered c.in_ok-inner.ensures bound.1 bound.2
