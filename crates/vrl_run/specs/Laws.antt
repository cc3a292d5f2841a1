-- What a line stands for is JSON.
use Rattle.std.specs.Prelude.{◌≤◌, ℕ, Bool, List, IsTrue}
use Rattle.vrl_value.specs.Depth.{depth_of}
use Rattle.vrl_value.specs.Tree.{Tree, IsOrdered, is_json}
use Rattle.vrl_kind.specs.Kinds.{Inhabits}
use Rattle.vrl_state.specs.States.{json_object}
use Rattle.vrl_run.specs.LineResult.{StandsFor}

-- what a line is read as, and each part of it
pub record IsOfLine (t : Tree) : Type 0 where
  pub json : IsTrue (is_json t)
  pub ordered : IsOrdered t
  pub shallow : depth_of t ≤ 127

-- an event and its metadata, as a line stands for them
pub record AreOfLine (parts : Tree × Tree) : Type 0 where
  pub event : IsOfLine parts.0
  pub metadata : IsOfLine parts.1
  pub object : Inhabits parts.1 json_object

abbrev pub LinesStandForJson : Type 0
LinesStandForJson = (envelope : Bool) (line : List ℕ) (parts : Tree × Tree) → StandsFor envelope line parts
    → AreOfLine parts
