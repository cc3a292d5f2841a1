use Rattle.std.proofs.Common.{◌≡◌, ◌↔◌, drop}
use Rattle.vrl_value.specs.View.{items_view, members_view}
use Rattle.vrl_value.proofs.value.+same.Given as goal

-- all are equal exactly where those that are left are
abbrev pub invariant-Items::same-loop-i : goal.invariant-Items::same-loop-i
invariant-Items::same-loop-i l =
    (items_view (drop l.i l.self.items.items) ≡ items_view (drop l.i l.other.items.items)) ↔ (items_view l.self.items.items ≡ items_view l.other.items.items)

abbrev pub invariant-Fields::same-loop-name : goal.invariant-Fields::same-loop-name
invariant-Fields::same-loop-name l =
    (members_view l.name-iterator ≡ members_view l.others) ↔ (members_view l.self.map.entries ≡ members_view l.other.map.entries)
