use Rattle.std.proofs.Common.{◌≡◌, List, sym}
use Rattle.std.proofs.lemmas.Result.{IfOk-weaker}
use Rattle.vrl_value.specs.Look.{Step}
use Rattle.vrl_kind.specs.KindTree.{KindTree}
use Rattle.vrl_kind.specs.Kinds.{tags_at, without_at}
use Rattle.vrl_builtin.proofs.Cuts.{cut_by-without}
use Rattle.vrl_builtin.proofs.cutting.cut_at.Goals as goal

pub returns-else-contains : goal.returns-else-contains
returns-else-contains c =
    IfOk-weaker c.without.result (λ (lower : KindTree). (p : List Step) → tags_at lower p ≡ without_at c.args.kind c.args.tag p) _
    (λ lower is. cut_by-without c.args.tags.now c.args.tag c.args.kind lower (sym c.if-contains.ensures) is) c.without.ensures
