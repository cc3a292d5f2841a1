-- What a source over a reader tells.
use Rattle.std.specs.Prelude.{ℕ, Bool}

-- the reader, how many bytes were taken, how many takes failed, and whether the end has come
pub record BytesTaken (R : Type 0) : Type 0 where
  pub reader : R
  pub taken : ℕ
  pub faults : ℕ
  pub ended : Bool
