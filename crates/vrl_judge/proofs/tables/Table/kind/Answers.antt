use Rattle.std.proofs.lemmas.Result.{IfOk-weaker}
use Rattle.vrl_kind.specs.Cut.{IsCut}
use Rattle.vrl_judge.proofs.Scalars.{table_parts}
use Rattle.vrl_judge.proofs.tables.Table.kind.Goals as goal

pub returns : goal.returns
returns c =
    IfOk-weaker c.cut.result (λ M. IsCut c.in_ok-kind.kind M) _
    (λ M cut. record {
      whole = c.in_ok-kind.kind;
      canonical = c.kind_is_canonical.ensures;
      tags = table_parts c.args.self c.args.left.now c.args.right.now
          c.gives.result c.gives-2.result c.gives-3.result
          c.kind_where-text.result c.kind_where-integer.result c.kind_where-boolean.result c.in_ok-first.first c.in_ok-kind.kind
          c.gives.ensures c.gives-2.ensures c.gives-3.ensures
          c.kind_where-text.ensures c.kind_where-integer.ensures c.kind_where-boolean.ensures c.in_ok-first.ensures.union c.in_ok-kind.ensures.union;
      cut = cut;
    })
    c.cut.ensures.cases
