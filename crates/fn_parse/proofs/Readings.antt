-- A text was read as its reading tells.
use Rattle.std.specs.Prelude.{◌≡◌, Ok, Err, Result, IfOk, refl}
use Rattle.vrl_value.specs.View.{tree_of}
use Rattle.vrl_value.specs.declared.value.Value.{Value}
use Rattle.vrl_json.specs.Line.{Reading, not_json, not_whole, whole}
use Rattle.vrl_json.specs.declared.fault.JsonFault.{JsonFault}
use Rattle.vrl_json.specs.declared.fault.JsonFault.TheVariants.{NotJson, NotWhole, Memory}
use Rattle.fn_parse.specs.Found.{IsRead}

pub is_read : (told : Reading) (read : Result Value JsonFault) → IfOk read (λ v. told ≡ whole (tree_of v)) →
    (read ≡ Err NotJson → told ≡ not_json) → (read ≡ Err NotWhole → told ≡ not_whole) → IsRead told read
is_read told (Ok v) value none part = value
is_read told (Err NotJson) value none part = none refl
is_read told (Err NotWhole) value none part = part refl
is_read told (Err Memory) value none part = tt
