-- What a source over bytes in memory does.
use Rattle.std.specs.Prelude.{ℕ, ◌+◌, min, max, List, [], ◌∷◌, length, drop, Bool, not, ◌&&◌, ◌==◌, if◌then◌else◌, Option, Some, None}
use Rattle.vrl_io.specs.Calls.{CallNumbers, next_fails, after_call}
use Rattle.vrl_io.specs.Faults.{raised}

-- the bytes and the piece sizes that are left, and what has happened so far
pub record BytesLeft : Type 0 where
  pub left : List ℕ
  pub pieces : List ℕ
  pub calls : CallNumbers
  pub taken : ℕ
  pub faults : ℕ
  pub ended : Bool

-- how much the next piece may have: its size, of which 0 counts as 1, where there is one, within
-- the buffer
abbrev pub piece_size : List ℕ → ℕ → ℕ
piece_size [] room = room
piece_size (piece ∷ pieces) room = min (max piece 1) room

-- whether a take into this much room is a call
abbrev pub is_call : BytesLeft → ℕ → Bool
is_call source room = not source.ended && not (room == 0)

-- how many bytes a call gives that doesn't fail
abbrev pub bytes_given : BytesLeft → ℕ → ℕ
bytes_given source room = min (piece_size source.pieces room) (length source.left)

-- what a take into this much room answers; None: it fails
abbrev pub answer_of : BytesLeft → ℕ → Option ℕ
answer_of source room = if is_call source room
    then (if next_fails source.calls then None else Some (bytes_given source room))
    else Some 0

-- a failing call uses up neither a byte nor a piece size
abbrev pub after_failure : BytesLeft → BytesLeft
after_failure source = record source { calls = after_call source.calls; faults = raised source.faults }

-- any other uses up the bytes that it gives, and a piece size; one that gives none is the end
abbrev pub after_piece : BytesLeft → ℕ → BytesLeft
after_piece source count =
    record source {
      left = drop count source.left;
      pieces = drop 1 source.pieces;
      calls = after_call source.calls;
      taken = source.taken + count;
      ended = count == 0;
    }

-- the source after a take into this much room
abbrev pub after_take : BytesLeft → ℕ → BytesLeft
after_take source room = if is_call source room
    then (if next_fails source.calls then after_failure source else after_piece source (bytes_given source room))
    else source
