use Rattle.vrl_token.proofs.Readied.{readied_more}
use Rattle.vrl_token.proofs.ahead.with_ahead.Goals as goal

pub loop-lexeme-preserved : goal.loop-lexeme-preserved
loop-lexeme-preserved c = readied_more c.in-Some.lexeme c.loop-lexeme.invariant c.in-Some.ensures.items c.in_ok-push.ensures.items c.before-next.ensures
