use Rattle.std.proofs.Common.{ap, ◌∙◌, subst}
use Rattle.std.proofs.lemmas.Result.{IfOk-weaker}
use Rattle.vrl_kind.specs.Kinds.{without_at}
use Rattle.vrl_state.specs.States.{IsEither}
use Rattle.vrl_judge.proofs.Between.{or_else_cut}
use Rattle.vrl_value.specs.declared.value.Tag.TheVariants as tag
use Rattle.vrl_judge.proofs.branches.or_else.Goals as goal

pub returns : goal.returns
returns c = IfOk-weaker c.either.result _ _ (λ K is. or_else_cut c.args.first.now c.args.second.now c.in_ok-rest.rest K (λ p. c.in_ok-rest.ensures p ∙ ap (λ L. without_at L tag.Null p) c.as_kind.ensures) (subst (λ R. IsEither c.in_ok-rest.rest R K) c.as_kind-2.ensures is)) c.either.ensures
