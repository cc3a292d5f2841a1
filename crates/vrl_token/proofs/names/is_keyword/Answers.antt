use Rattle.vrl_token.proofs.Tested.{found_is}
use Rattle.vrl_token.proofs.Keywords.{keyword_contained}
use Rattle.vrl_token.proofs.names.is_keyword.Goals as goal

pub returns : goal.returns
returns c = rw c.is_some.ensures (found_is c.keyword.result (keyword_contained c.args.name.now) c.keyword.ensures)
