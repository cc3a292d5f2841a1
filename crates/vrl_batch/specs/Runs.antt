-- What a reader of lines has read since it was made, over any number of calls.
use Rattle.std.specs.Prelude.{◌≡◌, ℕ, ◌+◌, ◌<◌, ◌⊎◌, ◌↔◌, ℤ, IsTrue, List, [], ◌++◌, length, IfSome}
use Rattle.vrl_value.specs.Moment.{IsInRange}
use Rattle.vrl_batch.specs.Batches.{lines_in_whole}
use Rattle.vrl_batch.specs.Lines.{AreWholeLines, ended_of, event_lines, event_lines_from, lines_of}
use Rattle.vrl_batch.specs.Moments.{MovesAtMost, MovesOn, Tells, lines_at, lines_by}
use Rattle.vrl_batch.specs.Reads.{AsksAtMost, HasEnded, ReadsBatch, StopsReading, Stream, Takes}
use Rattle.vrl_batch.specs.declared.line.Line.{Line}

-- whole lines that are whole batches, whatever follows
abbrev pub AreWholeBatches : List ℕ → Type 0
AreWholeBatches front = AreWholeLines front
    × ((rest : List (ℕ × List ℕ))
    → lines_in_whole (event_lines front ++ rest) ≡ event_lines front ++ lines_in_whole rest)

-- The lines of all batches so far are those of a front of the bytes taken, at the clock's moments.
-- They were whole batches, or the source has ended.
pub record HasRead (begin now : Stream) (lines : List Line) : Type 0 where
  pub input : List ℕ
  pub takes : Takes input begin now
  pub front : List ℕ
  pub divides : input ≡ front ++ now.reader.held
  pub next_is : now.reader.next ≡ 1 + length (lines_of front)
  pub moments : List ℤ
  pub one_each : length moments ≡ length (event_lines front)
  pub tells : Tells begin.ahead moments now.ahead
  pub lines_are : lines ≡ lines_at moments (event_lines front)
  pub stands : AreWholeBatches front ⊎ HasEnded now

-- a batch is empty exactly where the source has ended, and no line that isn't blank was held before
-- or taken
abbrev pub BatchesEnd : Type 0
BatchesEnd = (before after : Stream) (batch : List Line) (reads : ReadsBatch before after batch)
    → (batch ≡ []) ↔
    (IsTrue after.ended × (event_lines_from before.reader.next (before.reader.held ++ reads.bytes) ≡ []))

-- a reader that was just made has read nothing
abbrev pub RunsBegin : Type 0
RunsBegin = (begin : Stream) → begin.reader.held ≡ [] → begin.reader.next ≡ 1 → HasRead begin begin []

-- and with each batch it has read the lines of one more
abbrev pub RunsGoOn : Type 0
RunsGoOn = (begin now after : Stream) (lines batch : List Line) → HasRead begin now lines → ReadsBatch now after batch
    → HasRead begin after (lines ++ batch)

-- Moments for the lines of an input, of which these are run: those that the clock tells, as far as
-- it tells them.
pub record IsTimed (begin : Stream) (run : List (ℕ × List ℕ)) (lines : List Line) (moments : ℕ → ℤ) : Type 0 where
  pub are_ahead : IfSome begin.ahead (λ told. (i : ℕ) → told i ≡ moments i)
  pub in_range : (i : ℕ) → i < length run → IsInRange (moments i)
  pub lines_are : lines ≡ lines_by moments run

-- the lines are those of all that was left at the beginning
pub record HasReadAll (begin after : Stream) (lines : List Line) : Type 0 where
  pub input : List ℕ
  pub is_left : IfSome begin.left (λ left. left ≡ input)
  pub takes : Takes input begin after
  pub moments : ℕ → ℤ
  pub timed : IsTimed begin (event_lines input) lines moments
  pub moved : MovesOn begin.ahead (length (event_lines input)) after.ahead

-- an empty batch is the end of the input
abbrev pub RunsEnd : Type 0
RunsEnd = (begin now after : Stream) (lines : List Line) → HasRead begin now lines → ReadsBatch now after []
    → HasReadAll begin after lines

-- the lines are those of the whole batches among the lines that have ended in the bytes taken, but
-- for so many bytes behind them
pub record HasReadWhole (more : ℕ) (begin after : Stream) (lines : List Line) : Type 0 where
  pub input : List ℕ
  pub behind : List ℕ
  pub takes : Takes (input ++ behind) begin after
  pub more_is : length behind ≡ more
  pub moments : ℕ → ℤ
  pub timed : IsTimed begin (lines_in_whole (event_lines (ended_of input))) lines moments
  -- the clock told a moment for each line that has ended and isn't blank
  pub moved : MovesOn begin.ahead (length (event_lines (ended_of input))) after.ahead

-- at a fault of the source, or at the limit, the batches so far are the whole ones
abbrev pub RunsStop : Type 0
RunsStop = (more : ℕ) (begin now after : Stream) (lines : List Line) → HasRead begin now lines
    → StopsReading more now after → HasReadWhole more begin after lines

-- the lines are the first of an input, which begins with the bytes taken, and is all that was left
-- at the beginning
pub record HasReadFront (begin : Stream) (lines : List Line) : Type 0 where
  pub input : List ℕ
  pub is_left : IfSome begin.left (λ left. left ≡ input)
  pub run : List (ℕ × List ℕ)
  pub rest : List (ℕ × List ℕ)
  pub begins : event_lines input ≡ run ++ rest
  pub moments : ℕ → ℤ
  pub timed : IsTimed begin run lines moments

-- at any time the lines so far are the first of the input
abbrev pub RunsFront : Type 0
RunsFront = (begin now : Stream) (lines : List Line) → HasRead begin now lines → HasReadFront begin lines

-- bytes were taken, and the clock told at most one moment for each line of them that isn't blank
pub record HasAskedAtMost (begin now : Stream) : Type 0 where
  pub input : List ℕ
  pub takes : Takes input begin now
  pub clock : MovesAtMost begin.ahead (length (event_lines input)) now.ahead

-- so it is after any number of calls that read batches and one more, whatever comes of that
abbrev pub RunsAskAtMost : Type 0
RunsAskAtMost = (begin now after : Stream) (lines : List Line) → HasRead begin now lines → AsksAtMost now after
    → HasAskedAtMost begin after
