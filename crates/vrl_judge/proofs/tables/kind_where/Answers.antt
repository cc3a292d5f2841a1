use Rattle.std.proofs.Common.{ap, ◌∙◌}
use Rattle.vrl_judge.proofs.Scalars.{given_sets, none_sets}
use Rattle.vrl_judge.proofs.tables.kind_where.Goals as goal

pub returns-then-given : goal.returns-then-given
returns-then-given c = λ p u. ap (λ T. T u) (c.of.ensures p) ∙ given_sets c.args.given c.if-given.true c.args.tag c.requires p u

pub returns-else-given : goal.returns-else-given
returns-else-given c = λ p u. ap (λ T. T u) (c.never.ensures.tags p) ∙ none_sets c.args.given c.if-given.false c.args.tag p u
