use Rattle.vrl_token.proofs.Quotes.{boundary_behind_quote}
use Rattle.vrl_token.proofs.quoted.split_quoted.Goals as goal

pub split_at-requires-2 : goal.split_at-requires-2
split_at-requires-2 c = boundary_behind_quote c.utf8.text c.in_ok-length.ensures c.split_at.ensures.back c.requires.ascii
