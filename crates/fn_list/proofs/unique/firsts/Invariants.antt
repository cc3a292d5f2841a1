use Rattle.std.proofs.Common.{◌≡◌, ◌++◌, drop, map}
use Rattle.vrl_value.specs.View.{tree_of}
use Rattle.fn_list.specs.Seen.{Finds}
use Rattle.fn_list.specs.Unique.{firsts}
use Rattle.fn_list.proofs.Firsts.{unseen}
use Rattle.fn_list.proofs.unique.firsts.Given as goal

-- those that stay, with those among the rest that equal none of them
abbrev pub invariant-loop-item : goal.invariant-loop-item
invariant-loop-item l = record {
  whole : map tree_of l.kept.items ++ unseen (map tree_of l.kept.items) (firsts (map tree_of (drop l.item-index l.items))) ≡ firsts (map tree_of l.items);
  seen : Finds l.seen (map tree_of l.kept.items);
}
