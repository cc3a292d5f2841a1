-- What soundness rests on: laws of the crates below. No public function cites them.
use Rattle.vrl_value.specs.Laws.{MembersAreMaps}
use Rattle.vrl_path.specs.Laws.{RemovedTreesAreRemovals, SetTreesAreSets}
use Rattle.vrl_kind.specs.PartSets.{PartsAreAllowed}
use Rattle.vrl_place.specs.Laws.{ReadsAreOfTheirCut}
use Rattle.vrl_state.specs.Laws.{BodiesKeepFits, CutsHoldTheAllowed, EitherHoldsBoth, FlatteningKeepsFits, ForgettingKeepsFits, JoinsKeepFits, NamesKeepFits, RemovalsKeepFits, WithinKeepsFits, WritesKeepFits}
use Rattle.vrl_check.specs.Determined.{EmptiesAreCounted, PoisonsHaveCauses}
use Rattle.vrl_check.specs.Starts.{ScriptStartsFit}
use Rattle.vrl_table.specs.Table.{FunctionsAreFound, FunctionsKeepLaw}
use Rattle.vrl_resolve.specs.Laws.{EvaluationsStayWellFormed}

pub record Laws : Type 0 where
  -- values and paths
  pub members : MembersAreMaps
  pub sets : SetTreesAreSets
  pub removed : RemovedTreesAreRemovals
  -- kinds, places and states
  pub reads : ReadsAreOfTheirCut
  pub cuts : CutsHoldTheAllowed
  pub either : EitherHoldsBoth
  pub writes : WritesKeepFits
  pub removals : RemovalsKeepFits
  pub joins : JoinsKeepFits
  -- closures
  pub parts : PartsAreAllowed
  pub within : WithinKeepsFits
  pub flattening : FlatteningKeepsFits
  pub forgetting : ForgettingKeepsFits
  pub names : NamesKeepFits
  pub bodies : BodiesKeepFits
  -- functions
  pub found : FunctionsAreFound
  pub lawful : FunctionsKeepLaw
  -- the judgement
  pub starts : ScriptStartsFit
  pub counted : EmptiesAreCounted
  pub causes : PoisonsHaveCauses
  -- the meaning
  pub kept : EvaluationsStayWellFormed
