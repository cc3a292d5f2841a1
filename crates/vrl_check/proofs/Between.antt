-- What a missing `else` gives.
use Rattle.std.proofs.Common.{refl}
use Rattle.vrl_syntax.specs.Tree.{no_else}
use Rattle.vrl_kind.specs.KindTree.{KindTree}
use Rattle.vrl_judge.specs.Rules.{gives, IsScalar}
use Rattle.vrl_judge.specs.Judging.{no_ends, IsSettledAs}
use Rattle.vrl_check.specs.Walking.{IsElseAs}
use Rattle.vrl_judge.specs.declared.checker.Checker.{Checker}
use Rattle.vrl_judge.specs.declared.finding.Finding.{Finding}
use Rattle.vrl_judge.proofs.RootKinds.{scalar_root}
use Rattle.vrl_judge.proofs.Told.{value_judged}
use Rattle.vrl_value.specs.declared.value.Tag.TheVariants as tag

-- a missing `else`
pub else_missing : (now : Checker) (N : KindTree) (last : Finding) → IsScalar tag.Null N → IsSettledAs (record { kind = N; ends = no_ends }) now last → IsElseAs no_else now now last
else_missing now N last scalar settles = (N, scalar, settles now (gives N now.state.known) (value_judged now N (scalar_root tag.Null N scalar refl)))
