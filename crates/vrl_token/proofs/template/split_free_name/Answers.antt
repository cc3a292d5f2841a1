use Rattle.vrl_token.proofs.Parted.{keyword_not_free}
use Rattle.vrl_token.proofs.Tested.{passes}
use Rattle.vrl_token.proofs.template.split_free_name.Goals as goal

pub returns-then-is_keyword : goal.returns-then-is_keyword
returns-then-is_keyword c = keyword_not_free c.split_run.ensures (passes c.is_keyword.ensures c.if-is_keyword.true)
