-- What a reader of lines does in one call.
use Rattle.std.specs.Prelude.{◌≡◌, ℕ, ◌+◌, ◌≤◌, ◌⊎◌, ℤ, Bool, true, false, IsTrue, List, [], ◌++◌, length, Option, option_map, IfSome}
use Rattle.vrl_batch.specs.Batches.{IsAtMostBatch, is_whole}
use Rattle.vrl_batch.specs.Limits.{input_limit}
use Rattle.vrl_batch.specs.Lines.{AreWholeLines, ended_of, event_lines_from, lines_of}
use Rattle.vrl_batch.specs.Moments.{MovesAtMost, MovesOn, Tells, lines_at}
use Rattle.vrl_batch.specs.declared.fault.BatchFault.{BatchFault}
use Rattle.vrl_batch.specs.declared.fault.BatchFault.TheVariants.{ReadFault, TooMuch, Memory}
use Rattle.vrl_batch.specs.declared.line.Line.{Line}

-- the bytes that a reader holds, the number of the line with which they begin, and how many bytes
-- it has taken
pub record BytesHeld : Type 0 where
  pub held : List ℕ
  pub next : ℕ
  pub taken : ℕ

-- what a contract sees of a reader: its bytes, and the fault that each further call answers
pub record Reader : Type 0 where
  pub bytes : BytesHeld
  pub fault : Option BatchFault

-- What a reader and its devices tell at a time: of the source what is left, how much was taken and
-- whether it has ended, and of the clock the moments to come.
pub record Stream : Type 0 where
  pub reader : BytesHeld
  pub left : Option (List ℕ)
  pub taken : ℕ
  pub ended : Bool
  pub ahead : Option (ℕ → ℤ)

abbrev pub stream : BytesHeld → Option (List ℕ) → ℕ → Bool → Option (ℕ → ℤ) → Stream
stream reader left taken ended ahead =
    record { reader = reader; left = left; taken = taken; ended = ended; ahead = ahead }

-- these bytes were taken from the front of those left, and each was counted, by the reader too
pub record Takes (bytes : List ℕ) (before after : Stream) : Type 0 where
  pub is_left : before.left ≡ option_map (λ rest. bytes ++ rest) after.left
  pub counted : after.taken ≡ before.taken + length bytes
  pub counted_too : after.reader.taken ≡ before.reader.taken + length bytes

-- how many bytes one take asks for at most
abbrev pub most_taken : ℕ
most_taken = 65536

-- of these bytes, taken behind those that were held, the last take was needed: without it no whole
-- batch was there
abbrev pub IsNeeded : (next : ℕ) (held bytes : List ℕ) → Type 0
IsNeeded next held bytes = (bytes ≡ [])
    ⊎ ((before : List ℕ) × (last : List ℕ) × (bytes ≡ before ++ last) × (length last ≤ most_taken)
    × (is_whole (event_lines_from next (ended_of (held ++ before))) ≡ false))

-- the source has ended, and nothing is left of it or held
pub record HasEnded (now : Stream) : Type 0 where
  pub ended : IsTrue now.ended
  pub none_left : IfSome now.left (λ left. left ≡ [])
  pub none_held : now.reader.held ≡ []

-- A call reads this batch. It takes bytes, of which, behind those that were held, a front is read.
-- Of this front, these are the lines that aren't blank, each with its number and at the next
-- moment. They make a whole batch, behind a newline, or the source has ended.
pub record ReadsBatch (before after : Stream) (batch : List Line) : Type 0 where
  pub bytes : List ℕ
  pub takes : Takes bytes before after
  pub front : List ℕ
  pub divides : before.reader.held ++ bytes ≡ front ++ after.reader.held
  pub next_is : after.reader.next ≡ before.reader.next + length (lines_of front)
  pub moments : List ℤ
  pub one_each : length moments ≡ length (event_lines_from before.reader.next front)
  pub tells : Tells before.ahead moments after.ahead
  pub batch_is : batch ≡ lines_at moments (event_lines_from before.reader.next front)
  pub at_most : IsAtMostBatch (event_lines_from before.reader.next front)
  pub stops : ((is_whole (event_lines_from before.reader.next front) ≡ true) × AreWholeLines front) ⊎ HasEnded after
  pub needed : IsNeeded before.reader.next before.reader.held bytes
  pub past_end : IsTrue before.ended → bytes ≡ []

-- A call stops at this fault of its source, or at the limit, where more bytes follow: one more was
-- taken then. No whole batch was held or taken, each line that has ended and isn't blank had its
-- moment, and nothing is held any more. The source had not ended.
pub record StopsReading (more : ℕ) (before after : Stream) : Type 0 where
  pub bytes : List ℕ
  pub behind : List ℕ
  pub takes : Takes (bytes ++ behind) before after
  pub more_is : length behind ≡ more
  pub not_whole : is_whole (event_lines_from before.reader.next (ended_of (before.reader.held ++ bytes))) ≡ false
  pub moved : MovesOn before.ahead
      (length (event_lines_from before.reader.next (ended_of (before.reader.held ++ bytes)))) after.ahead
  pub none_held : after.reader.held ≡ []
  pub not_ended : ¬ IsTrue before.ended

-- Whatever comes of a call, it takes bytes, and the clock tells at most one moment for each line
-- that isn't blank of those that were held and taken. Once the source has ended nothing more is
-- taken.
pub record AsksAtMost (before after : Stream) : Type 0 where
  pub bytes : List ℕ
  pub takes : Takes bytes before after
  pub clock : MovesAtMost before.ahead
      (length (event_lines_from before.reader.next (before.reader.held ++ bytes))) after.ahead
  pub past_end : IsTrue before.ended → bytes ≡ []

-- what a call leaves that stops at this fault; where it is out of memory, all that was taken is
-- counted
abbrev pub StopsAt : (before after : Stream) → BatchFault → Type 0
StopsAt before after ReadFault = StopsReading 0 before after × (after.reader.taken ≤ input_limit)
StopsAt before after TooMuch = StopsReading 1 before after × (after.reader.taken ≡ input_limit + 1)
StopsAt before after Memory = AsksAtMost before after × (after.reader.taken ≤ input_limit)

-- but where the source failed, its count of faults stands where it stood
abbrev pub KeepsCount : (faults faults_after : ℕ) → BatchFault → Type 0
KeepsCount faults faults_after ReadFault = faults ≤ faults_after
KeepsCount faults faults_after TooMuch = faults_after ≡ faults
KeepsCount faults faults_after Memory = faults_after ≡ faults
