use Rattle.std.proofs.Common.{ap}
use Rattle.std.proofs.lemmas.Result.{IfOk-weaker}
use Rattle.vrl_kind.specs.Cut.{IsCut}
use Rattle.vrl_judge.proofs.kinds.cut_kind_of.Goals as goal

pub returns : goal.returns
returns c = IfOk-weaker c.cut.result (λ M. IsCut c.in_ok-kind.kind M) _ (λ M cut. record { whole = c.in_ok-kind.kind; canonical = c.kind_is_canonical.ensures; tags = λ p t. ap (λ T. T t) (c.in_ok-kind.ensures.tags p); cut = cut }) c.cut.ensures.cases
