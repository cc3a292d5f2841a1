use Rattle.std.proofs.Common.{◌≡◌, ◌++◌, [], drop, take}
use Rattle.vrl_pattern.specs.Built.{AreBuilt}
use Rattle.vrl_pattern.specs.Malformed.{malformed_from}
use Rattle.vrl_pattern.proofs.building.Building.of.Given as goal

abbrev pub invariant-loop-number : goal.invariant-loop-number
invariant-loop-number l =
    (l.all.malformed.items ++ malformed_from l.number (drop l.number l.sources) ≡ malformed_from 0 l.sources)
    × (l.all.malformed.items ≡ [] → AreBuilt (take l.number l.sources) l.all.regexes.items)
