-- What is kept of a line that is begun.
use Rattle.std.specs.Prelude.{ℕ, Bool, List, [], length, if◌then◌else◌, nat_lt}
use Rattle.vrl_batch.specs.Lines.{is_blank, line_limit}

-- its bytes, none where it is too long; whether it is; and whether it is blank so far
pub record PartSeen : Type 0 where
  pub bytes : List ℕ
  pub long : Bool
  pub blank : Bool

-- what is kept of the bytes of a line so far
abbrev pub part_of : List ℕ → PartSeen
part_of line = record {
  bytes = if nat_lt line_limit (length line) then []
      else line;
  long = nat_lt line_limit (length line);
  blank = is_blank line;
}
