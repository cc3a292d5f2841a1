-- What is read at a place of a list, in the code and as it is seen.
use Rattle.std.proofs.Common.{◌≡◌, ℕ, List, Option, Some, None, option_map, slice_get, length, refl, sym}
use Rattle.std.proofs.lemmas.Option.{slice_get_read, slice_get_past}
use Rattle.std.specs.List.{ItemBy}

-- what was read is what stands there
pub item_read : {R A : Type 0} (now : R → A) (i : ℕ) (xs : List A) (r : Option R) → ItemBy now xs i i r → option_map now r ≡ slice_get xs i
item_read now i xs None found = sym (slice_get_past xs i found.3)
item_read now i xs (Some x) found = sym (slice_get_read xs (length xs) i (now x) refl found.3.0 found.1)
