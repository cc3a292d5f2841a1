use Rattle.std.proofs.Common.{◌∙◌}
use Rattle.fn_string.proofs.Searched.{end_in_any_case}
use Rattle.fn_string.proofs.search.ends_in_any_case.Goals as goal

pub returns : goal.returns
returns c = c.same_in_any_case.ensures ∙ end_in_any_case c.args.part.now c.args.text.now
