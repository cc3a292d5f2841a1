use Rattle.std.proofs.Common.{◌≡◌, ◌++◌, ◌≤◌, string_cmp, drop, length, IsTrue}
use Rattle.std.specs.List.Sorted.{IsStrictlySortedBy}
use Rattle.std.specs.Map.{keys_of}
use Rattle.vrl_value.specs.Regexes.{items_regexes_below, members_regexes_below}
use Rattle.vrl_value.specs.View.{tree_of, items_of, members_of, items_view, members_view}
use Rattle.vrl_json.specs.Held.{ItemsAreHeld, MembersAreHeld}
use Rattle.vrl_json.specs.Tokens.{items_tokens, members_tokens}
use Rattle.vrl_json.proofs.Sizes.{size_of, items_size, members_size}
use Rattle.vrl_json.proofs.write.+write.Given as goal

abbrev pub decreases-write_value : goal.decreases-write_value
decreases-write_value l = size_of (tree_of l.value.now)

abbrev pub decreases-write_items : goal.decreases-write_items
decreases-write_items l = items_size (items_of l.items.now)

abbrev pub decreases-write_members : goal.decreases-write_members
decreases-write_members l = members_size (members_of l.fields.now)

-- what ends with what is left, behind what was written, is the whole
abbrev pub invariant-write_items-loop-item : goal.invariant-write_items-loop-item
invariant-write_items-loop-item l =
    let left = items_view (drop l.item-index l.item-items) in record {
      before : l.out.before ≡ l.initial.out.before;
      whole : l.out.tokens ++ items_tokens l.sources left ≡ l.initial.out.tokens ++ items_tokens l.sources (items_of l.items);
      below : IsTrue (items_regexes_below (length l.sources) left);
      held : ItemsAreHeld left → ItemsAreHeld (items_of l.items);
      fewer : items_size left ≤ items_size (items_of l.items);
    }

abbrev pub invariant-write_members-loop-name : goal.invariant-write_members-loop-name
invariant-write_members-loop-name l =
    let left = members_view l.name-iterator in record {
      before : l.out.before ≡ l.initial.out.before;
      whole : l.out.tokens ++ members_tokens l.sources left ≡ l.initial.out.tokens ++ members_tokens l.sources (members_of l.fields);
      below : IsTrue (members_regexes_below (length l.sources) left);
      sorted : IsStrictlySortedBy string_cmp (keys_of l.name-iterator);
      held : MembersAreHeld left → MembersAreHeld (members_of l.fields);
      fewer : members_size left ≤ members_size (members_of l.fields);
    }
