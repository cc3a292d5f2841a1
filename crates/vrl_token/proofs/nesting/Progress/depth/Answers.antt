use Rattle.vrl_token.proofs.Nestings.{depth_is}
use Rattle.vrl_token.proofs.nesting.Progress.depth.Goals as goal

pub returns : goal.returns
returns c = λ all before progress. depth_is all before c.args.self.now c.saturating_add.result progress c.saturating_add.ensures
