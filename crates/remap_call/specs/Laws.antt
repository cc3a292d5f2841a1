-- What the contract of a call rests on: laws of the crates below. No public function cites them.
use Rattle.std.specs.Prelude.{ℕ, IsTrue}
use Rattle.vrl_value.specs.Regexes.{regexes_below}
use Rattle.vrl_value.specs.Tree.{Tree, is_json}
use Rattle.vrl_check.specs.Determined.{JudgementsAreDetermined}
use Rattle.vrl_compile.specs.Answer.{AcceptedScriptsAreSound}
use Rattle.vrl_compile.specs.Once.{DiagnosticsStandOnce}
use Rattle.vrl_compile.specs.Reading.{DiagnosticsAreDetermined, ScriptsHaveOneReading}
use Rattle.vrl_kindfile.specs.Laws.{FilesHaveOneAnswer}
use Rattle.vrl_run.specs.Laws.{LinesStandForJson}

pub record Laws : Type 0 where
  -- a text and its judgement are read in one way
  pub readings : ScriptsHaveOneReading
  pub judgements : JudgementsAreDetermined
  pub diagnostics : DiagnosticsAreDetermined
  -- no diagnostic of a text stands twice
  pub once : DiagnosticsStandOnce
  -- a kind file declares one kind, or has one fault
  pub kind_files : FilesHaveOneAnswer
  -- what the judgement says holds
  pub sound : AcceptedScriptsAreSound
  -- a line stands for JSON, which has no regex
  pub lines : LinesStandForJson
  pub below : (count : ℕ) (tree : Tree) → IsTrue (is_json tree) → IsTrue (regexes_below count tree)
