use Rattle.vrl_pattern.proofs.Openings.{names_begun}
use Rattle.vrl_pattern.proofs.groups.behind_bracket.Goals as goal

pub returns-clause-same : goal.returns-clause-same
returns-clause-same c = rw (c.without_front-2.ensures.value, c.without_front.ensures.value) (names_begun c.args.source.now)
