-- What the code tells of a source by how the crate `regex` read it.
use Rattle.std.specs.Prelude.{◌≡◌, Option, Some, None, Result, Ok, Err}
use Rattle.regex.specs.declared.string.regex.Regex.{Regex}
use Rattle.regex.specs.declared.error.Error.{Error}
use Rattle.regex.specs.declared.error.Error.TheVariants as error
use Rattle.vrl_value.specs.declared.memory.Memory.{Memory}

-- nothing is built where its syntax is refused; nothing is told of one that is over the budget of
-- the crate, or for which memory was wanted
abbrev pub IsVerdict : Result Regex Error → Result (Option Regex) Memory → Type 0
IsVerdict (Ok regex) verdict = verdict ≡ Ok (Some regex)
IsVerdict (Err (error.Syntax e)) verdict = verdict ≡ Ok None
IsVerdict (Err other) verdict = verdict ≡ Err (record {})
