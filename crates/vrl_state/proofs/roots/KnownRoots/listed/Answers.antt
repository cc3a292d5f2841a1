use Rattle.std.proofs.lemmas.List.{take_all}
use Rattle.vrl_state.proofs.Replacing.{first_present, next_present, so_far_all, so_far_first, so_far_next}
use Rattle.vrl_state.proofs.roots.KnownRoots.listed.Goals as goal

pub start-requires : goal.start-requires
start-requires c = first_present _ _ _ c.parts.ensures c.are_listed.ensures

pub loop-variable-init : goal.loop-variable-init
loop-variable-init c =
    so_far_first c.parts.result.0.now c.parts.result.1.now c.args.list.now c.in_ok-known.known c.parts.ensures
    c.in_ok-known.ensures.event c.in_ok-known.ensures.variables

pub set-requires : goal.set-requires
set-requires c =
    next_present _ c.parts.result.1.now c.args.list.now c.loop-variable.variable-index c.variable-item.result
    c.variable-item.result c.parts.ensures c.are_listed.ensures c.loop-variable-test.true c.variable-item.is

pub loop-variable-preserved : goal.loop-variable-preserved
loop-variable-preserved c =
    so_far_next c.parts.result.1.now c.args.list.now c.loop-variable.variable-index c.variable-item.result
    c.variable-item.result c.loop-variable.known c.set.new.self c.are_listed.ensures c.loop-variable-test.true
    c.variable-item.is c.loop-variable.invariant c.in_ok-set.ensures

pub returns : goal.returns
returns c =
    so_far_all c.parts.result.1.now c.args.list.now c.loop-variable.variable-index c.loop-variable.known
    (take_all _ _ c.loop-variable-test.false) c.loop-variable.invariant
