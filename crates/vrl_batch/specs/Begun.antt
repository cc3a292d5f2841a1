-- A batch that is begun.
use Rattle.std.specs.Prelude.{◌≡◌, ℕ, ◌+◌, ℤ, Bool, true, false, List, [], ◌∷◌, ◌++◌, length, ◌||◌, nat_le, Option}
use Rattle.std.specs.List.{sum_by}
use Rattle.vrl_value.specs.Moment.{IsInRange}
use Rattle.vrl_io.specs.Moments.{Advances}
use Rattle.vrl_batch.specs.Batches.{IsAtMostBatch, batch_bytes, batch_lines, is_whole, kept_bytes}
use Rattle.vrl_batch.specs.Lines.{AreWholeLines, IsUnbroken, event_lines_from, is_blank, line_at, lines_of}
use Rattle.vrl_batch.specs.Moments.{Tells, lines_at}
use Rattle.vrl_batch.specs.Parts.{part_of}
use Rattle.vrl_batch.specs.declared.begun.Begun.{Begun}
use Rattle.vrl_batch.specs.declared.line.Line.{Line}

-- whether it ends here, by its lines or by the bytes that it keeps
abbrev pub is_filled : Begun → Bool
is_filled begun = nat_le batch_lines (length begun.lines.items) || nat_le batch_bytes begun.kept

-- a line more
pub record AddsLine (before after : Begun) (line : Line) : Type 0 where
  pub lines_are : after.lines.items ≡ before.lines.items ++ line ∷ []
  pub kept_is : after.kept ≡ before.kept + length line.bytes
  pub number_is : after.number ≡ before.number
  pub part_is : after.part ≡ before.part

-- what a line adds that has ended, by whether it is blank: nothing, or itself at the next moment
abbrev pub AddsEvent : (blank : Bool) (line : List ℕ) (before after : Begun) (ahead ahead_after : Option (ℕ → ℤ))
    → Type 0
AddsEvent true line before after ahead ahead_after =
    (after.lines.items ≡ before.lines.items) × (after.kept ≡ before.kept) × (ahead_after ≡ ahead)
AddsEvent false line before after ahead ahead_after = (moment : ℤ) × IsInRange moment
    × Advances ahead moment ahead_after
    × (after.lines.items ≡ before.lines.items ++ line_at moment (after.number, line) ∷ [])
    × (after.kept ≡ before.kept + length (line_at moment (after.number, line)).bytes)

-- a line has ended, and the next one is begun
pub record EndsLine (line : List ℕ) (before after : Begun) (ahead ahead_after : Option (ℕ → ℤ)) : Type 0 where
  pub number_is : after.number ≡ before.number + 1
  pub part_is : after.part ≡ part_of []
  pub added : AddsEvent (is_blank line) line before after ahead ahead_after

-- it has the lines of these bytes, the first of which has this number, at the moments of the clock
pub record HoldsLines (first : ℕ) (ahead : Option (ℕ → ℤ)) (bytes : List ℕ) (begun : Begun)
    (ahead_after : Option (ℕ → ℤ)) : Type 0 where
  pub number_is : begun.number + 1 ≡ first + length (lines_of bytes)
  pub moments : List ℤ
  pub one_each : length moments ≡ length (event_lines_from first bytes)
  pub tells : Tells ahead moments ahead_after
  pub lines_are : begun.lines.items ≡ lines_at moments (event_lines_from first bytes)
  pub kept_is : begun.kept ≡ sum_by kept_bytes (event_lines_from first bytes)
  pub at_most : IsAtMostBatch (event_lines_from first bytes)

-- it has the lines of a front that have ended, and the begin of the next one
pub record IsBegun (first : ℕ) (ahead : Option (ℕ → ℤ)) (front part : List ℕ) (begun : Begun)
    (ahead_after : Option (ℕ → ℤ)) : Type 0 where
  pub holds : HoldsLines first ahead front begun ahead_after
  pub ended : AreWholeLines front
  pub unbroken : IsUnbroken part
  pub part_is : begun.part ≡ part_of part
  pub between : is_whole (event_lines_from first front) ≡ true → part ≡ []

-- these bytes are the lines that it has, the begin of the next one, and a rest
pub record DividesAt (first : ℕ) (ahead : Option (ℕ → ℤ)) (bytes rest : List ℕ) (begun : Begun)
    (ahead_after : Option (ℕ → ℤ)) : Type 0 where
  pub front : List ℕ
  pub part : List ℕ
  pub divides : bytes ≡ front ++ (part ++ rest)
  pub is_begun : IsBegun first ahead front part begun ahead_after
