-- The result of a line: what it stands for, the events that are kept, and what is reported.
use Rattle.std.specs.Prelude.{◌≡◌, ℕ, ℤ, Bool, true, false, ◌&&◌, not, List, [], ◌∷◌, ◌++◌, length, map, Option, Some, None, unwrap_or, bytes_eq, codes, decimal, if◌then◌else◌}
use Rattle.std.specs.List.{flat_map}
use Rattle.vrl_value.specs.Tree.{Tree, string, array, object, Items, no_items, item, no_members, member}
use Rattle.vrl_json.specs.Line.{Reading, not_json, not_whole, whole, reading_of, line_text}
use Rattle.vrl_syntax.specs.Stores.{Store, metadata, value_of}
use Rattle.vrl_kind.specs.KindTree.{KindTree}
use Rattle.vrl_kind.specs.Kinds.{Inhabits}
use Rattle.vrl_kind.specs.TreeTest.{inhabits_tree}
use Rattle.vrl_state.specs.States.{json_object}
use Rattle.vrl_store.specs.Outcomes.{Ended}
use Rattle.vrl_store.specs.WellFormed.{IsWellFormed}
use Rattle.vrl_resolve.specs.Meaning.{End, ended, ended_aborted, ended_banged, ended_deep, unhandled, end_of, IsUnhandled}
use Rattle.vrl_resolve.specs.Program.{ended_over, ProgramTree}
use Rattle.vrl_batch.specs.declared.line.Line.{Line}
use Rattle.vrl_batch.specs.declared.work.LineOut.{LineOut}
use Rattle.vrl_batch.specs.declared.work.Outcome.{Outcome}
use Rattle.vrl_batch.specs.declared.work.Outcome.TheVariants as outcome
use Rattle.vrl_run.specs.declared.options.Options.{Options}
use Rattle.vrl_run.specs.declared.reason.Reason.{Reason}
use Rattle.vrl_run.specs.declared.reason.Reason.TheVariants.{TooLong, NotJson, NotWhole, NotEnvelope, NotDeclared}

-- ---- what a line stands for

-- the event and the metadata of an envelope: it is an object with exactly the members `event` and
-- `metadata`, of which the latter is an object
abbrev pub opened : Tree → Option (Tree × Tree)
opened (object (member k event (member l (object ms) no_members))) =
    if bytes_eq k (codes "event") && bytes_eq l (codes "metadata") then Some (event, object ms) else None
opened t = None

-- The event that a line stands for, and its metadata. With envelopes the line is one, and without
-- them it is the event, whose metadata is empty. None: it is no envelope, and has to be one.
abbrev pub parts_of : Bool → Tree → Option (Tree × Tree)
parts_of true t = opened t
parts_of false t = Some (t, object no_members)

-- these bytes stand for this event and this metadata
pub record StandsFor (envelope : Bool) (line : List ℕ) (parts : Tree × Tree) : Type 0 where
  pub tree : Tree
  pub reading : reading_of line ≡ whole tree
  pub parts_are : parts_of envelope tree ≡ Some parts

-- what an event and its metadata are written as: with envelopes the object of both, and else the
-- event
abbrev pub enclosed : Bool → Tree × Tree → Tree
enclosed true parts = object (member (codes "event") parts.0 (member (codes "metadata") parts.1 no_members))
enclosed false parts = parts.0

-- ---- the events that are kept

abbrev pub trees_in : Items → List Tree
trees_in no_items = []
trees_in (item t ts) = t ∷ trees_in ts

-- an event that is an array is one for each of its elements
abbrev pub events_of : Tree → List Tree
events_of (array ts) = trees_in ts
events_of t = t ∷ []

-- each of these events with this metadata
abbrev pub each_with : Tree → List Tree → List (Tree × Tree)
each_with beside events = map (λ event. (event, beside)) events

abbrev pub kept_if : Bool → Tree × Tree → List (Tree × Tree)
kept_if true parts = parts ∷ []
kept_if false parts = []

-- After a value, that of a `return` too, the event that the run left, with the metadata that it
-- left. Else both as they were read, or nothing: an `abort` drops them, and an error of a call with
-- a `!` and the limit of depth keep them, unless the options say otherwise.
abbrev pub kept_events : Options → Tree × Tree → End → Tree × Tree → List (Tree × Tree)
kept_events options read (ended v) left = each_with left.1 (events_of left.0)
kept_events options read (ended_aborted message) left = kept_if options.keep_on_abort read
kept_events options read (ended_banged text) left = kept_if (not options.drop_on_error) read
kept_events options read ended_deep left = kept_if (not options.drop_on_error) read
-- no accepted script ends so
kept_events options read (unhandled text) left = []

-- what is written for an event, with its metadata where envelopes are asked for, is JSON text and a
-- newline
abbrev pub event_line : Bool → List (List ℕ) → Tree × Tree → List ℕ
event_line envelope sources parts = line_text sources (enclosed envelope parts) ++ 10 ∷ []

-- ---- reports

-- a line of the report: of which line, and what
abbrev pub report_line : ℕ → List ℕ → List ℕ
report_line number text = codes "line " ++ (decimal number ++ (codes ": " ++ (text ++ 10 ∷ [])))

-- a text as a JSON string
abbrev pub quoted : List ℕ → List ℕ
quoted text = line_text [] (string text)

-- what a run reports, if anything
abbrev pub end_report : ℕ → End → List ℕ
end_report number (ended v) = []
end_report number (ended_aborted None) = report_line number (codes "aborted")
end_report number (ended_aborted (Some message)) = report_line number (codes "aborted: " ++ quoted message)
end_report number (ended_banged text) = report_line number (codes "error: " ++ quoted text)
end_report number ended_deep = report_line number (codes "error: nested deeper than 128")
end_report number (unhandled text) = []

abbrev pub reason_text : Reason → List ℕ
reason_text TooLong = codes "longer than 1048576 bytes"
reason_text NotJson = codes "not JSON"
reason_text NotWhole = codes "not whole numbers"
reason_text NotEnvelope = codes "not an envelope"
reason_text NotDeclared = codes "not of the declared kind"

-- ---- the result

abbrev pub refused_line : Reason → ℕ → LineOut
refused_line reason number = record {
  output = [];
  report = report_line number
      (codes "refused: " ++ reason_text reason);
  kept = 0;
  outcome = outcome.Refused;
}

abbrev pub outcome_of : End → Outcome
outcome_of (ended v) = outcome.Fine
outcome_of (ended_aborted message) = outcome.Aborted
outcome_of (ended_banged text) = outcome.Errored
outcome_of ended_deep = outcome.Errored
outcome_of (unhandled text) = outcome.Fine

-- what comes of an event and its metadata as they were read, by how the script ends over them, and
-- by both as it leaves them
abbrev pub end_result : List (List ℕ) → Options → ℕ → Tree × Tree → End → Tree × Tree → LineOut
end_result sources options number read end left = let kept = kept_events options read end left in record {
  output = flat_map (event_line options.envelope sources) kept;
  report = end_report number end;
  kept = length kept;
  outcome = outcome_of end;
}

-- the event and the metadata that a run leaves, which is always there
abbrev pub left_of : Store → Tree × Tree
left_of store = (store.event, unwrap_or (value_of metadata store) (object no_members))

abbrev pub event_result : List (List ℕ) → Options → ℕ → Tree × Tree → Ended → LineOut
event_result sources options number read meant =
    end_result sources options number read (end_of meant.outcome) (left_of meant.store)

-- the result of a line that stands for this event and its metadata: the program runs over an event
-- of the declared kind, and any other is refused
abbrev pub result_of_parts : ProgramTree → KindTree → Options → Line → Option (Tree × Tree) → LineOut
result_of_parts program declared options line None = refused_line NotEnvelope line.number
result_of_parts program declared options line (Some parts) =
    if inhabits_tree parts.0 declared then event_result program.sources options line.number parts
    (ended_over program line.moment parts.0 parts.1) else refused_line NotDeclared line.number

-- the result of a line that is short enough
abbrev pub result_of_reading : ProgramTree → KindTree → Options → Line → Reading → LineOut
result_of_reading program declared options line not_json = refused_line NotJson line.number
result_of_reading program declared options line not_whole = refused_line NotWhole line.number
result_of_reading program declared options line (whole t) =
    result_of_parts program declared options line (parts_of options.envelope t)

-- the result of a line, by the first of these that holds: it is too long; it is no JSON text; a
-- number in it isn't whole; it is no envelope where one is asked for; its event is not of the
-- declared kind; the program ends over it
abbrev pub result_of_line : ProgramTree → KindTree → Options → Line → LineOut
result_of_line program declared options line = if line.long then refused_line TooLong line.number
    else result_of_reading program declared options line (reading_of line.bytes)

-- over no event of the declared kind with an object of JSON as its metadata, at no moment, the
-- program ends with an error that it doesn't handle
abbrev pub HandlesErrors : KindTree → ProgramTree → Type 0
HandlesErrors declared program = (moment : ℤ) (event beside : Tree) → Inhabits event declared
    → Inhabits beside json_object → IsWellFormed (length program.sources) event
    → IsWellFormed (length program.sources) beside → ¬ IsUnhandled (ended_over program moment event beside).outcome
