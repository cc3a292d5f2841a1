-- What a store in memory does.
use Rattle.std.specs.Prelude.{ℕ, List, take, if◌then◌else◌, Option, None, option_map}
use Rattle.std.specs.List.{find}
use Rattle.std.specs.Str.{bytes_eq}
use Rattle.vrl_io.specs.Calls.{CallNumbers, next_fails}

-- names with what they hold, and what has happened so far
pub record NamesHeld : Type 0 where
  pub entries : List (List ℕ × List ℕ)
  pub calls : CallNumbers
  pub failures : List (List ℕ)

-- what the name holds: the bytes of the first entry with that name
abbrev pub held_under : List (List ℕ × List ℕ) → List ℕ → Option (List ℕ)
held_under entries name = option_map (λ entry. entry.1) (find (λ entry. bytes_eq entry.0 name) entries)

-- what a load gives where there is memory; None: it fails
abbrev pub bytes_loaded : NamesHeld → List ℕ → ℕ → Option (List ℕ)
bytes_loaded store name limit =
    if next_fails store.calls then None else option_map (take limit) (held_under store.entries name)
