use Rattle.std.proofs.Common.{◌≡◌, drop}
use Rattle.std.specs.Str.{chars, IsUtf8}
use Rattle.std.specs.Str.Iter.{chars_rest}
use Rattle.fn_string.proofs.characters.from_character.Given as goal

abbrev pub invariant-loop-count : goal.invariant-loop-count
invariant-loop-count l = IsUtf8 (chars_rest l.left) × (drop l.place (chars l.text) ≡ drop l.count (chars (chars_rest l.left)))

abbrev pub decreases-loop-count : goal.decreases-loop-count
decreases-loop-count l = l.count
