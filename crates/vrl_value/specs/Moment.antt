-- The range of moments, in nanoseconds since 1970-01-01T00:00:00Z.
use Rattle.std.specs.Prelude.{ℕ, ℤ, pos, negsuc, ◌≤ℤ◌}

-- the last nanosecond of 9999-12-29
abbrev pub last_nanos : ℕ
last_nanos = 253402127999999999999

-- from 0000-01-01T00:00:00Z to the last moment
abbrev pub IsInRange : ℤ → Type 0
IsInRange nanos = (negsuc 62167219199999999999 ≤ℤ nanos) × (nanos ≤ℤ pos last_nanos)
