use Rattle.std.proofs.Common.{sym, ◌∙◌}
use Rattle.vrl_kind.proofs.Sameness.{scalars_one, scalars_same}
use Rattle.vrl_kind.proofs.scalars.Scalars.same.Goals as goal

pub returns : goal.returns
returns c = (λ is. scalars_one c.args.self c.args.other (sym c.eq.ensures ∙ is), λ e. c.eq.ensures ∙ scalars_same c.args.self c.args.other e)
