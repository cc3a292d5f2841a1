-- What is made of the lines of a batch, chunk by chunk.
use Rattle.std.specs.Prelude.{◌≡◌, List, ◌++◌, map, Result, Ok}
use Rattle.std.specs.List.{flat_map}
use Rattle.vrl_value.specs.declared.memory.Memory.{Memory}
use Rattle.vrl_batch.specs.declared.work.LineOut.{LineOut}

-- of these parts the first ones gave results, which are these one after another, and the rest is
-- left
pub record Joins (parts rest : List (Result (List LineOut) Memory)) (outs : List LineOut) : Type 0 where
  pub given : List (List LineOut)
  pub parts_are : parts ≡ map Ok given ++ rest
  pub outs_are : outs ≡ flat_map (λ part. part) given
