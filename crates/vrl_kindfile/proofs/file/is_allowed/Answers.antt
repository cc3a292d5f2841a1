use Rattle.vrl_kindfile.proofs.Allowed.{allowed}
use Rattle.vrl_kindfile.proofs.file.is_allowed.Goals as goal

pub returns : goal.returns
returns c = allowed _ _ _ _ _ c.within.ensures c.of.ensures c.nodes.ensures c.if-nodes-gt-NODE_LIMIT.false c.levels.ensures c.if-levels-gt-LEVEL_LIMIT.false
