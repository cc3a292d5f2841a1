use Rattle.std.proofs.Common.{arith}
use Rattle.vrl_kindfile.proofs.Allowed.{kind_of_file, whole_refused}
use Rattle.vrl_kindfile.proofs.file.read_kind_file.Goals as goal

pub returns-then-not-is_allowed-clause-refused : goal.returns-then-not-is_allowed-clause-refused
returns-then-not-is_allowed-clause-refused c =
    whole_refused _ _ _ _ _ _ (omega arith) c.in_ok-value.ensures.value (kind_of_file _ _ c.in_ok-kind.ensures.kind c.kind_is_canonical.ensures)
    c.is_allowed.ensures c.if-not-is_allowed.true c.refused_here.ensures c.from.ensures
