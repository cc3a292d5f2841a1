use Rattle.std.proofs.lemmas.Result.{IfOk-weaker}
use Rattle.vrl_value.specs.View.{tree_of}
use Rattle.vrl_kind.specs.Inference.{IsKindOf}
use Rattle.vrl_kind.proofs.Found.{found_inhabits}
use Rattle.vrl_kind.proofs.inference.kind_of.Goals as goal

pub returns-clause-inhabited : goal.returns-clause-inhabited
returns-clause-inhabited c = IfOk-weaker c.kind_of_value.result (λ k. IsKindOf k (tree_of c.args.value.now)) _ (λ k is. found_inhabits k _ is) c.kind_of_value.ensures
