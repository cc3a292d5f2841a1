use Rattle.std.proofs.Common.{inl, inr, arith}
use Rattle.std.proofs.lemmas.Result.{IfOk-weaker}
use Rattle.vrl_kind.proofs.Stretching.{too_large, within_limits}
use Rattle.vrl_kind.proofs.stretch.stretched_cut.Goals as goal

pub returns-then-stretched_nodes-gt-NODE_LIMIT : goal.returns-then-stretched_nodes-gt-NODE_LIMIT
returns-then-stretched_nodes-gt-NODE_LIMIT c =
    too_large c.args.stretches.now c.args.kind.now _ c.flatten.ensures.tree (inl (omega (arith, c.stretched_nodes.ensures, c.if-stretched_nodes-gt-NODE_LIMIT.true)))

pub returns-then-levels-gt-LEVEL_LIMIT : goal.returns-then-levels-gt-LEVEL_LIMIT
returns-then-levels-gt-LEVEL_LIMIT c =
    too_large c.args.stretches.now c.args.kind.now _ c.flatten-then-levels-gt-LEVEL_LIMIT.ensures.tree (inr (omega (arith, c.levels.ensures, c.if-levels-gt-LEVEL_LIMIT.true)))

pub returns : goal.returns
returns c =
    IfOk-weaker c.stretched.result _ _
    (λ small is. within_limits c.args.stretches.now c.args.kind.now small is (omega (arith, c.stretched_nodes.ensures, c.if-stretched_nodes-gt-NODE_LIMIT.false)) (omega (arith, c.levels.ensures, c.if-levels-gt-LEVEL_LIMIT.false)))
    c.stretched.ensures
