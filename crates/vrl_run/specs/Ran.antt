-- What a run in memory left.
use Rattle.std.specs.Prelude.{◌≡◌, ℕ, Bool, List, Option, Some, None, length}
use Rattle.std.specs.List.{flat_map}
use Rattle.vrl_value.specs.Tree.{Tree, null}
use Rattle.vrl_value.specs.View.{tree_of}
use Rattle.vrl_resolve.specs.Meaning.{End, ended, ended_aborted, ended_banged, ended_deep}
use Rattle.vrl_resolve.specs.declared.ran.Ended.{Ended}
use Rattle.vrl_resolve.specs.declared.ran.Ended.TheVariants as code
use Rattle.vrl_resolve.specs.declared.ran.Produced.{Produced}
use Rattle.vrl_resolve.specs.declared.ran.Ran.{Ran}
use Rattle.vrl_run.specs.LineResult.{event_line}
use Rattle.vrl_run.specs.declared.kept.Kept.{Kept}

-- the value that it gave; null where it told none
abbrev pub value_in : Option Produced → Tree
value_in (Some produced) = tree_of produced.value
value_in None = null

-- how it ended
abbrev pub end_in : Ended → End
end_in (code.Value produced) = ended (value_in produced)
end_in (code.Aborted message) = ended_aborted message
end_in (code.Banged text) = ended_banged text
end_in code.Deep = ended_deep

-- the event and the metadata that it left
abbrev pub left_in : Ran → Tree × Tree
left_in ran = (tree_of ran.event, tree_of ran.metadata)

-- the lines of events, and their number
pub record AreLinesOf (envelope : Bool) (sources : List (List ℕ)) (events : List (Tree × Tree)) (kept : Kept)
    : Type 0 where
  pub lines : kept.lines ≡ flat_map (event_line envelope sources) events
  pub count : kept.count ≡ length events
