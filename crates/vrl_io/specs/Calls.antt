-- The numbers of a device's calls, from 0, and which of the calls fail.
use Rattle.std.specs.Prelude.{ℕ, ◌+◌, min, List, Bool, ◌==◌}
use Rattle.std.specs.List.{list_any}

-- the numbers of the calls that fail, and that of the next call
pub record CallNumbers : Type 0 where
  pub failing : List ℕ
  pub next : ℕ

-- none was made yet, and those with these numbers will fail
abbrev pub first_call : List ℕ → CallNumbers
first_call failing = record { failing = failing; next = 0 }

-- whether the next call fails
abbrev pub next_fails : CallNumbers → Bool
next_fails calls = list_any (λ number. number == calls.next) calls.failing

-- the last number, at which the numbers stand still: it is far above those that can be told to fail
abbrev pub last_number : ℕ
last_number = 340282366920938463463374607431768211455

-- the numbers after one more call
abbrev pub after_call : CallNumbers → CallNumbers
after_call calls = record { failing = calls.failing; next = min (calls.next + 1) last_number }
