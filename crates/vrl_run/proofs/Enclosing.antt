-- What is written for an event and its metadata.
use Rattle.std.proofs.Common.{◌≡◌, ℕ, Bool, true, false, List, [], ◌∷◌, ◌++◌, length, None, refl, sym, ap, ◌∙◌, arith}
use Rattle.std.specs.List.{flat_map}
use Rattle.json.specs.Print.{escape_byte}
use Rattle.vrl_value.specs.Tree.{Tree}
use Rattle.vrl_json.specs.Line.{line_text, reading_of, whole}
use Rattle.vrl_run.specs.Enclosed.{AreTextLines, enclosed_text, metadata_text, text_line}
use Rattle.vrl_run.specs.LineResult.{each_with, enclosed, event_line, StandsFor}
use Rattle.vrl_run.specs.Ran.{AreLinesOf}
use Rattle.vrl_run.specs.declared.kept.Kept.{Kept}
use Rattle.vrl_run.proofs.Opening.{enclosed_again}

-- the texts of both make that of the object of both
enclosed_is : (envelope : Bool) (sources : List (List ℕ)) (event beside : Tree)
    → enclosed_text (metadata_text envelope sources beside) (line_text sources event) ≡ line_text sources (enclosed envelope (event, beside))
unfolding escape_byte
enclosed_is true sources event beside = refl
enclosed_is false sources event beside = refl

each_line : (envelope : Bool) (sources : List (List ℕ)) (beside : Tree) (events : List Tree)
    → flat_map (text_line (metadata_text envelope sources beside) sources) events ≡ flat_map (event_line envelope sources) (each_with beside events)
each_line envelope sources beside [] = refl
each_line envelope sources beside (event ∷ events) = λ i. (enclosed_is envelope sources event beside i ++ 10 ∷ []) ++ each_line envelope sources beside events i

each_counted : (beside : Tree) (events : List Tree) → length events ≡ length (each_with beside events)
each_counted beside [] = refl
each_counted beside (event ∷ events) = grind (arith, each_counted beside events)

-- so the lines of events are those of events with their metadata
pub lines_with : (envelope : Bool) (sources : List (List ℕ)) (beside : Tree) (events : List Tree) (kept : Kept)
    → AreTextLines (metadata_text envelope sources beside) sources events kept → AreLinesOf envelope sources (each_with beside events) kept
lines_with envelope sources beside events kept are = record {
  lines = are.lines ∙ each_line envelope sources beside events;
  count = are.count ∙ each_counted beside events;
}

-- and the line of what was read is that of its event and its metadata
pub line_as_read : (sources : List (List ℕ)) (bytes : List ℕ) (t : Tree) (kept : Kept) → reading_of bytes ≡ whole t → AreTextLines None sources (t ∷ []) kept
    → (envelope : Bool) (read : Tree × Tree) → StandsFor envelope bytes read → AreLinesOf envelope sources (read ∷ []) kept
line_as_read sources bytes t kept reading are envelope read stands =
    let told : whole stands.tree ≡ whole t = sym stands.reading ∙ reading in
    let same : stands.tree ≡ t = cc in
    let again : enclosed envelope read ≡ t = enclosed_again envelope stands.tree read stands.parts_are ∙ same in
    record { lines = are.lines ∙ ap (λ v. (line_text sources v ++ 10 ∷ []) ++ []) (sym again); count = are.count }
