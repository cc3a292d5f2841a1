-- Counts of faults, and lists of failures.
use Rattle.std.specs.Prelude.{ℕ, ◌+◌, ◌<◌, ◌≤◌, ◌⊎◌, min, List, [], ◌∷◌, ◌++◌, codes}
use Rattle.vrl_io.specs.declared.fault.LoadFault.{LoadFault}
use Rattle.vrl_io.specs.declared.fault.LoadFault.TheVariants.{Failed, Memory}

-- the last value of a count, at which it stands still
abbrev pub last_count : ℕ
last_count = 18446744073709551615

-- the count rose between the two moments, or stands at its last value, where it can't be seen to
-- rise
abbrev pub HasRisen : ℕ → ℕ → Type 0
HasRisen old new = (old < new) ⊎ (last_count ≤ new)

-- the count after one more fault
abbrev pub raised : ℕ → ℕ
raised count = min (count + 1) last_count

-- the failures after a load of the name ended with this fault
abbrev pub failures_after : LoadFault → List ℕ → List (List ℕ) → List (List ℕ)
failures_after Failed name failures = failures ++ name ∷ []
failures_after Memory name failures = failures

-- what a fault of a load is printed as
abbrev pub text_of : LoadFault → List ℕ
text_of Failed = codes "the store failed"
text_of Memory = codes "out of memory"
