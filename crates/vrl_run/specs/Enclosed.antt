-- What a line stands for, as the code holds it, and what is written for an event, put together of
-- texts.
use Rattle.std.specs.Prelude.{◌≡◌, ℕ, Bool, true, false, List, [], ◌∷◌, ◌++◌, length, Option, Some, None, codes}
use Rattle.std.specs.List.{flat_map}
use Rattle.vrl_value.specs.Tree.{Tree}
use Rattle.vrl_value.specs.View.{tree_of}
use Rattle.vrl_json.specs.Line.{line_text}
use Rattle.vrl_run.specs.declared.envelope.Parts.{Parts}
use Rattle.vrl_run.specs.declared.kept.Kept.{Kept}

-- the event and the metadata
abbrev pub parts_in : Parts → Tree × Tree
parts_in parts = (tree_of parts.event, tree_of parts.metadata)

-- with envelopes the text of the metadata is written beside an event's
abbrev pub metadata_text : Bool → List (List ℕ) → Tree → Option (List ℕ)
metadata_text true sources beside = Some (line_text sources beside)
metadata_text false sources beside = None

-- the text of an event, with that of the metadata where there is one
abbrev pub enclosed_text : Option (List ℕ) → List ℕ → List ℕ
enclosed_text None event = event
enclosed_text (Some beside) event =
    codes "{\"event\":" ++ (event ++ (codes ",\"metadata\":" ++ (beside ++ codes "}")))

-- this and a newline
abbrev pub text_line : Option (List ℕ) → List (List ℕ) → Tree → List ℕ
text_line beside sources event = enclosed_text beside (line_text sources event) ++ 10 ∷ []

-- the lines of events, and their number
pub record AreTextLines (beside : Option (List ℕ)) (sources : List (List ℕ)) (events : List Tree) (kept : Kept)
    : Type 0 where
  pub lines : kept.lines ≡ flat_map (text_line beside sources) events
  pub count : kept.count ≡ length events
