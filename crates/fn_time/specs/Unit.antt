-- The units in which moments are counted from 1970-01-01T00:00:00Z on.
use Rattle.std.specs.Prelude.{ℕ, Bool, List, [], ◌∷◌, bytes_eq, codes, if◌then◌else◌}
use Rattle.std.specs.List.{list_any}

abbrev pub units : List (List ℕ)
units = codes "seconds" ∷ codes "milliseconds" ∷ codes "microseconds" ∷ codes "nanoseconds" ∷ []

abbrev pub is_unit : List ℕ → Bool
is_unit name = list_any (bytes_eq name) units

abbrev pub is_nanoseconds : List ℕ → Bool
is_nanoseconds name = bytes_eq name (codes "nanoseconds")

-- how many nanoseconds the unit of a name has; those of a second under every other name
abbrev pub nanos_in : List ℕ → ℕ
nanos_in name =
    if bytes_eq name (codes "nanoseconds") then 1
    else (if bytes_eq name (codes "microseconds") then 1_000
    else (if bytes_eq name (codes "milliseconds") then 1_000_000 else 1_000_000_000))
