use Rattle.std.proofs.Common.{◌≡◌, ◌≤◌, ◌++◌, List, String, Global}
use Rattle.vrl_value.specs.Depth.{members_depth}
use Rattle.vrl_value.specs.Parts.{without}
use Rattle.vrl_value.specs.View.{members_view}
use Rattle.vrl_value.specs.declared.value.Value.{Value}
use Rattle.vrl_path.proofs.depth.are_within.Given as goal

-- the entries that were passed are within the limit but for the one of the name
abbrev pub invariant-loop-key : goal.invariant-loop-key
invariant-loop-key l = (done : List (String Global × Value)) × (l.map.entries ≡ done ++ l.key-iterator) × (members_depth (without l.name (members_view done)) ≤ l.limit)
