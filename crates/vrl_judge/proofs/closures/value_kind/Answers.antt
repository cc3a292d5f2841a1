use Rattle.std.proofs.Common.{[], ◌∙◌}
use Rattle.std.proofs.lemmas.Result.{IfOk-weaker}
use Rattle.vrl_value.specs.declared.value.Tag.TheVariants as tag
use Rattle.vrl_kind.specs.Cut.{IsCut}
use Rattle.vrl_state.proofs.Limits.{cut_root}
use Rattle.vrl_judge.proofs.CollectionKinds.{parts_present, parts_told}
use Rattle.vrl_judge.proofs.closures.value_kind.Goals as goal

pub returns-clause-kind : goal.returns-clause-kind
returns-clause-kind c =
    IfOk-weaker c.cut.result (λ M. IsCut c.in_ok-all.all M) _
    (λ M cut. record { whole = c.in_ok-all.all; canonical = c.kind_is_canonical.ensures; tags = parts_told c.args.collection.now c.in_ok-all.all c.in_ok-all.ensures; cut = cut })
    c.cut.ensures.cases

pub returns-clause-root : goal.returns-clause-root
returns-clause-root c =
    let C = c.args.collection.now in
    IfOk-weaker c.cut.result (λ M. IsCut c.in_ok-all.all M) _
    (λ M cut. cut_root c.in_ok-all.all M c.kind_is_canonical.ensures (parts_told C c.in_ok-all.all c.in_ok-all.ensures [] tag.Absent ∙ parts_present C) cut)
    c.cut.ensures.cases
