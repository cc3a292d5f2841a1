-- What is kept of an argument that was judged, and what the `!` of a call makes of it.
use Rattle.std.specs.Prelude.{Bool}
use Rattle.vrl_diag.specs.declared.diagnostic.Span.{Span}
use Rattle.vrl_judge.specs.Rules.{Argument, Judgement, banged, is_fallible, is_known}
use Rattle.vrl_judge.specs.Judging.{HasJudged}
use Rattle.vrl_judge.specs.declared.calls.Argument.{Argument as CodeArgument}
use Rattle.vrl_judge.specs.declared.checker.Checker.{Checker}
use Rattle.vrl_judge.specs.declared.finding.Finding.{Finding}

-- ---- arguments that were judged

-- what is kept of an argument
abbrev pub part_of : Argument → CodeArgument
part_of g = record { kind = g.judged.kind; fallible = is_fallible g.judged; known = is_known g.judged }

-- ---- what is called

-- a `!` leaves no error
abbrev pub IsBangedAs : Span → Bool → Finding → Checker → Checker → Finding → Type 0
IsBangedAs span bang part now after finding = (before : Checker) (j : Judgement) → HasJudged before now part j
    → HasJudged before after finding (banged span bang j)
