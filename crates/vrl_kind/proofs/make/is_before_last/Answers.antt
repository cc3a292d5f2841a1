use Rattle.std.proofs.Common.{nat_cmp}
use Rattle.std.specs.Cmp.Lexicographic.{slice_cmp}
use Rattle.vrl_kind.proofs.Naming.{before_last, is_less}
use Rattle.vrl_kind.proofs.make.is_before_last.Goals as goal

pub returns-in-Some : goal.returns-in-Some
returns-in-Some c = λ less. before_last _ c.in-Some.last.now _ _ c.in-Some.ensures.cases.0 (is_less _ (slice_cmp nat_cmp c.args.name.now c.in-Some.last.now.0) (cc (c.is_lt.ensures, c.cmp.ensures, c.as_str.ensures, c.as_str-in-Some.ensures)) less)
