use Rattle.std.proofs.lemmas.Result.{IfOk-weaker}
use Rattle.vrl_judge.specs.Closures.{key_tags}
use Rattle.vrl_judge.proofs.CollectionKinds.{keys_cut, keys_present}
use Rattle.vrl_judge.proofs.RootKinds.{scalars_root}
use Rattle.vrl_judge.proofs.closures.key_kind.Goals as goal

pub returns-clause-kind : goal.returns-clause-kind
returns-clause-kind c =
    IfOk-weaker c.either.result _ _
    (λ K is. keys_cut c.args.collection.now c.kind_where-text.result c.kind_where-integer.result K c.has.result c.has-2.result c.has.ensures c.has-2.ensures c.kind_where-text.ensures c.kind_where-integer.ensures is)
    c.either.ensures

pub returns-clause-root : goal.returns-clause-root
returns-clause-root c =
    let C = c.args.collection.now in
    IfOk-weaker c.either.result _ _
    (λ K is. scalars_root (key_tags C) K (keys_cut C c.kind_where-text.result c.kind_where-integer.result K c.has.result c.has-2.result c.has.ensures c.has-2.ensures c.kind_where-text.ensures c.kind_where-integer.ensures is) (keys_present C))
    c.either.ensures
