use Rattle.vrl_kind.proofs.Texts.{written_string}
use Rattle.vrl_kind.proofs.printing.quote.Goals as goal

pub returns : goal.returns
returns c = written_string _ _ _ _ _ _ _ _ c.in-Ok.ensures c.into_inner.ensures.items c.in_ok-string.ensures.ok c.new-out.ensures.tokens c.in_ok-string.ensures.room.0 c.new-out.ensures.before c.new.ensures.items
