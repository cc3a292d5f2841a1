use Rattle.std.proofs.Common.{◌≡◌, ◌≤◌, ◌-◌, ◌^◌, min, max, drop, string_cmp}
use Rattle.std.specs.List.Sorted.{IsStrictlySortedBy}
use Rattle.std.specs.Map.{keys_of}
use Rattle.vrl_value.specs.Depth.{items_depth, members_depth}
use Rattle.vrl_value.specs.Tree.{ItemsAreOrdered, MembersAreOrdered}
use Rattle.vrl_value.specs.View.{items_view, members_view}
use Rattle.vrl_value.proofs.value.+depth.Given as goal

-- the deepest part so far, with those that are left, is the deepest of all; all are in order where those that are left are
abbrev pub invariant-Items::deepest-loop-item : goal.invariant-Items::deepest-loop-item
invariant-Items::deepest-loop-item l = record {
  all : min (max l.deepest (items_depth (items_view (drop l.item-index l.item-items)))) (2 ^ 64 - 1) ≡ min (items_depth (items_view l.item-items)) (2 ^ 64 - 1);
  bound : l.deepest ≤ 2 ^ 64 - 1;
  ordered : ItemsAreOrdered (items_view (drop l.item-index l.item-items)) → ItemsAreOrdered (items_view l.item-items);
}

abbrev pub invariant-Fields::deepest-loop-name : goal.invariant-Fields::deepest-loop-name
invariant-Fields::deepest-loop-name l = record {
  all : min (max l.deepest (members_depth (members_view l._name-iterator))) (2 ^ 64 - 1) ≡ min (members_depth (members_view l.self.map.entries)) (2 ^ 64 - 1);
  bound : l.deepest ≤ 2 ^ 64 - 1;
  sorted : IsStrictlySortedBy string_cmp (keys_of l._name-iterator);
  ordered : MembersAreOrdered (members_view l._name-iterator) → MembersAreOrdered (members_view l.self.map.entries);
}
