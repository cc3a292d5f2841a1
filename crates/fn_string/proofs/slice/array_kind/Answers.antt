use Rattle.std.proofs.Common.{sym}
use Rattle.std.proofs.lemmas.Result.{IfOk-weaker}
use Rattle.vrl_kind.specs.KindTree.{KindTree}
use Rattle.fn_string.proofs.Sliced.{arrays_are_of}
use Rattle.fn_string.proofs.slice.array_kind.Goals as goal

pub returns-in_ok-array_parts : goal.returns-in_ok-array_parts
returns-in_ok-array_parts c =
    IfOk-weaker c.array_of.result _ _ (λ (arrays : KindTree) is. arrays_are_of c.args.kind.now c.in_ok-array_parts.field-0 arrays (sym c.if-has.ensures) c.in_ok-array_parts.ensures is) c.array_of.ensures
