use Rattle.vrl_kind.proofs.OneKind.{equal_tags_are_one_kind}
use Rattle.vrl_kind.proofs.laws.equal_tags_are_one_kind.Goals as goal

pub returns : goal.returns
returns c = equal_tags_are_one_kind
