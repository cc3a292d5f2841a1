-- Words of the code for gathering the steps of a path; its segments are those of `Paths`.
use Rattle.std.specs.Prelude.{◌≡◌, ℕ, List, Option, Some, None, MatchOption}
use Rattle.vrl_token.specs.declared.path.Gathering.{Gathering}
use Rattle.vrl_token.specs.declared.segment.Flaw.{Flaw}
use Rattle.vrl_token.specs.declared.segment.Flaw.TheVariants.{Escape, Range}
use Rattle.vrl_token.specs.Paths.{HasFlaw, HasSteps, Segment}

-- the code that tells a flaw
abbrev pub code_of : Flaw → ℕ
code_of Escape = 203
code_of Range = 1002

-- what is wrong with segments
abbrev pub IsFlawOfAll : List Segment → Flaw → Type 0
IsFlawOfAll segments Escape = HasFlaw segments 203
IsFlawOfAll segments Range = HasFlaw segments 1002

-- the steps of these segments, or what is wrong with them
abbrev pub IsGathered : List Segment → Gathering → Type 0
IsGathered segments found = MatchOption found.flaw (HasSteps segments found.steps.items) (IsFlawOfAll segments)

-- what is wrong with segments and one more, which has a flaw
abbrev pub Keeps : Option Flaw → Flaw → Option Flaw → Type 0
Keeps (Some Escape) flaw new = new ≡ Some Escape
Keeps None flaw new = new ≡ Some flaw
Keeps (Some Range) flaw new = new ≡ Some flaw
