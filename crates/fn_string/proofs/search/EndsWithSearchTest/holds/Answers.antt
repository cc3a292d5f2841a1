use Rattle.fn_string.proofs.Searched.{ends_is}
use Rattle.fn_string.proofs.search.EndsWithSearchTest.holds.Goals as goal

pub returns : goal.returns
returns c = ends_is c.ends_with.result c.args.part.now c.args.text.now c.ends_with.ensures.cases
