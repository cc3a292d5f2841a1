use Rattle.vrl_run.proofs.Unread.{refused_for}
use Rattle.vrl_run.proofs.result.unread.Goals as goal

pub returns : goal.returns
returns c = refused_for c.args.fault c.args.number c.in_ok-reason.reason c.refused.result c.in_ok-reason.ensures c.refused.ensures
