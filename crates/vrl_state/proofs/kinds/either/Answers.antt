use Rattle.std.proofs.lemmas.Result.{IfOk-weaker}
use Rattle.vrl_kind.specs.Cut.{IsCut}
use Rattle.vrl_state.proofs.kinds.either.Goals as goal

pub returns : goal.returns
returns c = IfOk-weaker c.cut.result (λ M. IsCut c.in_ok-joined.joined M.value) _ (λ M cut. record { whole = c.in_ok-joined.joined; canonical = c.kind_is_canonical.ensures; tags = c.in_ok-joined.ensures.union; cut = cut }) c.cut.ensures
