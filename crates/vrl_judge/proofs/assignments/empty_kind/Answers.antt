use Rattle.std.proofs.Common.{subst}
use Rattle.std.proofs.lemmas.Result.{IfOk-weaker}
use Rattle.vrl_kind.specs.Kinds.{found_at}
use Rattle.vrl_state.specs.States.{IsCutOf}
use Rattle.vrl_judge.proofs.assignments.empty_kind.Goals as goal

pub returns : goal.returns
returns c = IfOk-weaker c.cut_kind_of.result _ _ (λ K cut. subst (λ v. IsCutOf (found_at v) K) c.empty_value-value.ensures cut) c.cut_kind_of.ensures
