-- What a sink that keeps bytes in memory does.
use Rattle.std.specs.Prelude.{ℕ, min, max, List, ◌++◌, Option, Some, None}
use Rattle.vrl_io.specs.Calls.{CallNumbers, after_call}
use Rattle.vrl_io.specs.Faults.{raised}

-- the bytes that were written, how many a call takes at most, where it doesn't take its whole
-- piece, and what has happened so far
pub record BytesWritten : Type 0 where
  pub written : List ℕ
  pub most : Option ℕ
  pub calls : CallNumbers
  pub faults : ℕ

-- how many bytes a call takes of a piece of this size: all, or no more than so many, of which 0
-- counts as 1
abbrev pub count_taken : Option ℕ → ℕ → ℕ
count_taken None size = size
count_taken (Some most) size = min (max most 1) size

-- the sink after a call that wrote these bytes
abbrev pub after_write : BytesWritten → List ℕ → BytesWritten
after_write sink bytes = record sink { written = sink.written ++ bytes; calls = after_call sink.calls }

-- the sink after a call that failed
abbrev pub after_fault : BytesWritten → BytesWritten
after_fault sink = record sink { calls = after_call sink.calls; faults = raised sink.faults }
