use Rattle.std.proofs.Common.{ap, ◌∙◌}
use Rattle.std.proofs.lemmas.Result.{IfOk-weaker}
use Rattle.vrl_kind.specs.Cut.{IsCut}
use Rattle.vrl_judge.proofs.Scalars.{scalar_sets}
use Rattle.vrl_judge.proofs.kinds.scalar.Goals as goal

pub returns : goal.returns
returns c =
    IfOk-weaker c.cut.result (λ M. IsCut c.of-kind.result M) _
    (λ M cut. record { whole = c.of-kind.result; canonical = c.kind_is_canonical.ensures; tags = λ p t. ap (λ T. T t) (c.of-kind.ensures p) ∙ scalar_sets c.args.tag c.requires p t; cut = cut })
    c.cut.ensures.cases
