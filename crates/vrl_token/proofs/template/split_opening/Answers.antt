use Rattle.vrl_token.proofs.Opened.{behind_opening, boundary_at_opening, boundary_behind_opening, opening_cut}
use Rattle.vrl_token.proofs.template.split_opening.Goals as goal

pub split_at-requires : goal.split_at-requires
split_at-requires c = boundary_at_opening c.in-Some.ensures

pub split_at-requires-2 : goal.split_at-requires-2
split_at-requires-2 c = boundary_behind_opening c.utf8.text c.in-Some.ensures c.split_at.ensures.back

pub returns-clause-parts : goal.returns-clause-parts
returns-clause-parts c = λ characters inner. opening_cut characters c.split_at-2.result.1 c.in-Some.ensures c.split_at.ensures.front c.split_at.ensures.back c.split_at-2.ensures.back inner

pub returns-clause-size : goal.returns-clause-size
returns-clause-size c = behind_opening c.args.text.now _ c.split_at.ensures.back c.split_at-2.ensures.back
