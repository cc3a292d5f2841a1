-- What a sink over a writer tells.
use Rattle.std.specs.Prelude.{ℕ}

-- the writer, and how many gives failed
pub record BytesGiven (W : Type 0) : Type 0 where
  pub writer : W
  pub faults : ℕ
