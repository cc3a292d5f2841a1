use Rattle.fn_search.proofs.CutUp.{split_is_cut, split_within}
use Rattle.fn_search.proofs.cut.cut.Goals as goal

pub returns-clause-parts : goal.returns-clause-parts
returns-clause-parts c = split_is_cut c.args.part.now c.args.text.now c.split_once.result c.split_once.ensures.cases

pub returns-clause-within : goal.returns-clause-within
returns-clause-within c = split_within c.args.part.now c.args.text.now c.split_once.result c.split_once.ensures.cases
