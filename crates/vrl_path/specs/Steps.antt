-- The places of paths: which count from the end, and which may be written.
use Rattle.std.specs.Prelude.{ℕ, suc, pos, negsuc, Bool, true, false, List, All, ◌≤◌, ⊤}
use Rattle.std.specs.List.{list_any}
use Rattle.vrl_path.specs.declared.path.Step.{Step}
use Rattle.vrl_path.specs.declared.path.Step.TheVariants.{Field, Place}

-- the step is a negative place, which counts from the end of an array
abbrev pub is_negative : Step → Bool
is_negative (Field k) = false
is_negative (Place (pos i)) = false
is_negative (Place (negsuc i)) = true

abbrev pub has_negative : List Step → Bool
has_negative = list_any is_negative

-- the greatest place that can be written
abbrev pub last_place : ℕ
last_place = 65535

-- how far from the end of an array a place that can be written is at most: the last one is 1
abbrev pub farthest_from_end : ℕ
farthest_from_end = 65536

-- the step is no place outside of -65,536 to 65,535
abbrev pub IsWritableStep : Step → Type 0
IsWritableStep (Field k) = ⊤
IsWritableStep (Place (pos i)) = i ≤ last_place
IsWritableStep (Place (negsuc i)) = suc i ≤ farthest_from_end

-- each place is from -65,536 to 65,535
abbrev pub IsWritable : List Step → Type 0
IsWritable = All IsWritableStep
