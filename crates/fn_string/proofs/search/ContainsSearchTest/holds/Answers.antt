use Rattle.fn_string.proofs.Searched.{contains_is}
use Rattle.fn_string.proofs.search.ContainsSearchTest.holds.Goals as goal

pub returns : goal.returns
returns c = contains_is c.contains.result c.args.part.now c.args.text.now c.contains.ensures.cases
