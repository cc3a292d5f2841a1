use Rattle.std.proofs.Common.{refl, subst}
use Rattle.std.proofs.lemmas.Result.{IfOk-weaker}
use Rattle.vrl_kind.specs.Canonical.{IsCanonical}
use Rattle.vrl_kind.specs.Cut.{IsCut}
use Rattle.vrl_state.proofs.kinds.whole.Goals as goal

pub returns : goal.returns
returns c = IfOk-weaker c.cut_shared.result (λ M. IsCut c.args.new.now.value M.value) _ (λ M cut old. record { whole = c.args.new.now.value; canonical = subst IsCanonical c.deref.ensures c.kind_is_canonical.ensures; write = λ p t. refl; cut = cut }) c.cut_shared.ensures
