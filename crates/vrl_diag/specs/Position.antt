-- Words for counting lines and characters up to a place.
use Rattle.std.specs.Prelude.{◌≡◌, ℕ, ◌≤◌, List, length, take}
use Rattle.vrl_diag.specs.Rendering.{line_number, column_number}
use Rattle.vrl_diag.specs.declared.position.Position.{Position}

-- the position is the end of this text
pub record IsEnd (text : List ℕ) (position : Position) : Type 0 where
  pub offset : position.offset ≡ length text
  pub line : position.line ≡ line_number text
  pub column : position.column ≡ column_number text

-- the position is in the text
pub record IsIn (text : List ℕ) (position : Position) : Type 0 where
  pub within : position.offset ≤ length text
  pub is_end : IsEnd (take position.offset text) position
