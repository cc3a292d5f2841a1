use Rattle.std.proofs.Common.{◌≡◌, List, ◌++◌, String, Global, string_cmp, take, drop, map}
use Rattle.std.specs.List.Sorted.{IsStrictlySortedBy}
use Rattle.std.specs.Map.{keys_of}
use Rattle.vrl_value.specs.Tree.{ItemsAreOrdered, MembersAreOrdered}
use Rattle.vrl_value.specs.View.{tree_of, items_view, members_view}
use Rattle.vrl_value.specs.declared.value.Value.{Value}
use Rattle.vrl_value.proofs.value.+copy.Given as goal

-- the copies have the trees of the entries that were taken; all are in order where those that are left are
abbrev pub invariant-Fields::copy-loop-name : goal.invariant-Fields::copy-loop-name
invariant-Fields::copy-loop-name l =
    (done : List (String Global × Value)) × (l.self.map.entries ≡ done ++ l.name-iterator) × (members_view l.copies.entries ≡ members_view done)
    × IsStrictlySortedBy string_cmp (keys_of l.name-iterator) × (MembersAreOrdered (members_view l.name-iterator) → MembersAreOrdered (members_view l.self.map.entries))

abbrev pub invariant-Items::copy-loop-item : goal.invariant-Items::copy-loop-item
invariant-Items::copy-loop-item l =
    (map tree_of l.copies.items ≡ map tree_of (take l.item-index l.item-items))
    × (ItemsAreOrdered (items_view (drop l.item-index l.item-items)) → ItemsAreOrdered (items_view l.item-items))
