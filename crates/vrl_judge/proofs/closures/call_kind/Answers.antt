use Rattle.std.proofs.Common.{[], ◌∙◌}
use Rattle.std.proofs.lemmas.Result.{IfOk-weaker}
use Rattle.vrl_value.specs.declared.value.Tag.TheVariants as tag
use Rattle.vrl_kind.specs.Cut.{IsCut}
use Rattle.vrl_state.proofs.Limits.{cut_root}
use Rattle.vrl_judge.proofs.CollectionKinds.{call_present}
use Rattle.vrl_judge.proofs.closures.call_kind.Goals as goal

pub returns-clause-kind : goal.returns-clause-kind
returns-clause-kind c =
    IfOk-weaker c.cut.result (λ M. IsCut c.in_ok-whole.whole M) _
    (λ M cut. record { whole = c.in_ok-whole.whole; canonical = c.kind_is_canonical.ensures; tags = c.in_ok-whole.ensures; cut = cut }) c.cut.ensures.cases

pub returns-clause-root : goal.returns-clause-root
returns-clause-root c = λ present.
    IfOk-weaker c.cut.result (λ M. IsCut c.in_ok-whole.whole M) _
    (λ M cut. cut_root c.in_ok-whole.whole M c.kind_is_canonical.ensures (c.in_ok-whole.ensures [] tag.Absent ∙ call_present c.args.form c.args.collection.now c.args.body.now present) cut) c.cut.ensures.cases
