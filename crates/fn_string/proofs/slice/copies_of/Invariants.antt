use Rattle.std.proofs.Common.{◌≡◌, map, take}
use Rattle.vrl_value.specs.View.{tree_of}
use Rattle.fn_string.proofs.slice.copies_of.Given as goal

abbrev pub invariant-loop-item : goal.invariant-loop-item
invariant-loop-item l = map tree_of l.copies.items ≡ map tree_of (take l.item-index l.items)
