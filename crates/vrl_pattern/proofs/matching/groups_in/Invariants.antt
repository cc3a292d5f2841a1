use Rattle.std.proofs.Common.{◌≡◌, map}
use Rattle.std.specs.List.{range_with_len}
use Rattle.regex.specs.Locations.{location}
use Rattle.vrl_pattern.specs.Places.{place_spans}
use Rattle.vrl_pattern.proofs.matching.groups_in.Given as goal

abbrev pub invariant-loop-number : goal.invariant-loop-number
invariant-loop-number l = place_spans l.places.items ≡ map (location l.locations) (range_with_len 0 l.number)
