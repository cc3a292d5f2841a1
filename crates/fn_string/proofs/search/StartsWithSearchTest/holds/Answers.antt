use Rattle.fn_string.proofs.Searched.{starts_is}
use Rattle.fn_string.proofs.search.StartsWithSearchTest.holds.Goals as goal

pub returns : goal.returns
returns c = starts_is c.starts_with.result c.args.part.now c.args.text.now c.starts_with.ensures.cases
