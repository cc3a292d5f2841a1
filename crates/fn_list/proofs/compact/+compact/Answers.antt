use Rattle.std.proofs.Common.{rules, ◌≡◌, ◌++◌, [], drop, map, ap, ◌∙◌, subst, arith, String, Global, List, string_cmp}
use Rattle.std.proofs.Math.ListN.{drop_of_length-le}
use Rattle.std.specs.List.Sorted.{IsStrictlySortedBy}
use Rattle.std.specs.Map.{keys_of}
use Rattle.vrl_value.specs.Tree.{no_members, array, object}
use Rattle.vrl_value.specs.View.{items_of, items_view, members_of, members_view, tree_of}
use Rattle.vrl_value.specs.declared.value.Value.{Value, the_lemmas}
use Rattle.vrl_value.specs.declared.value.Value.TheVariants as value
use Rattle.fn_list.specs.Compact.{compact_items, compact_members, compacted, full, is_hollow}
use Rattle.fn_list.proofs.Compacting.{begun, by_item, ended, items_ended, no_more, one_fewer, step, IsPartway}
use Rattle.fn_list.proofs.Itemwise.{fewer_left, walked}
use Rattle.vrl_builtin.specs.Listed.{trees_in}
use Rattle.vrl_builtin.proofs.Sizes.{items_size, members_size}
use Rattle.fn_list.proofs.compact.+compact.Goals as goal

pub compact_fields-loop-name-init : goal.compact_fields-loop-name-init
compact_fields-loop-name-init t c =
    let es = c.into_iter-name-iterator.result in
    let sorted : IsStrictlySortedBy string_cmp (keys_of es) = search rules in
    let none : members_of c.new-kept.result ≡ no_members = search rules in
    let same : members_view es ≡ members_of c.args.fields.now = search rules in
    record { partway = begun (members_of c.new-kept.result) es (members_of c.args.fields.now) none sorted same; fewer = no_more (members_view es) (members_of c.args.fields.now) same }

pub compact_fields-loop-name-preserved : goal.compact_fields-loop-name-preserved
compact_fields-loop-name-preserved t c =
    let l = c.loop-name in
    let left = c.next.new.self in
    let e : String Global × Value = (c.in-Some.name.now, c.in-Some.value.now) in
    let whole = compact_members (members_of c.args.fields.now) in record {
      partway = step (members_of l.kept) (members_of c.put_full.new.kept) _ (tree_of c.in-Some.value.now) (tree_of c.in_ok-part.part) (members_view left) whole c.in_ok-part.ensures
          (rw c.as_str.ensures.value at c.in_ok-put_full.ensures.fields)
          (subst (λ (es : List (String Global × Value)). IsPartway (members_of l.kept) (members_view es) whole) c.in-Some.ensures.steps l.invariant.partway);
      fewer = one_fewer l.name-iterator left e (members_size (members_of c.args.fields.now)) c.in-Some.ensures.steps l.invariant.fewer;
    }

pub compact_fields-returns : goal.compact_fields-returns
compact_fields-returns t c =
    let l = c.loop-name in
    let whole = compact_members (members_of c.args.fields.now) in
    let seen : tree_of (value.Object l.kept) ≡ object (members_of l.kept) = search (rules, the_lemmas) in
    let none : l.name-iterator ≡ [] = search rules in
    seen ∙ ap object (ended (members_of l.kept) whole (subst (λ (es : List (String Global × Value)). IsPartway (members_of l.kept) (members_view es) whole) none l.invariant.partway))

pub compact_items-returns : goal.compact_items-returns
compact_items-returns t c =
    let l = c.loop-item in
    let seen : tree_of (value.List c.new.result) ≡ array (items_of c.new.result) = search (rules, the_lemmas) in
    let none : drop l.item-index c.args.items.now ≡ [] = drop_of_length-le c.args.items.now (omega (arith, c.loop-item-test.false)) in
    seen ∙ ap array (c.new.ensures ∙ items_ended (map tree_of l.kept.items) (drop l.item-index c.args.items.now) (compact_items (items_view c.args.items.now)) none l.invariant.whole)

pub compact_items-compacted-requires : goal.compact_items-compacted-requires
compact_items-compacted-requires t c =
    let fewer = fewer_left c.args.items.now c.loop-item.item-index c.item-item.result (items_size (items_view c.args.items.now)) c.loop-item-test.true c.item-item.is c.loop-item.invariant.fewer in
    (omega (arith, fewer), tt)

pub compact_items-loop-item-preserved : goal.compact_items-loop-item-preserved
compact_items-loop-item-preserved t c =
    let l = c.loop-item in
    let u = compacted (tree_of c.item-item.result) in record {
      whole = walked (λ ts. trees_in (compact_items ts)) c.args.items.now c.loop-item.item-index c.item-item.result (full u) (map tree_of l.kept.items) (map tree_of c.push_full.new.kept.items) _ c.loop-item-test.true c.item-item.is
          (λ ts. by_item (is_hollow u) u (compact_items ts)) (c.in_ok-push_full.ensures.parts ∙ ap (λ w. map tree_of l.kept.items ++ full w) c.in_ok-part.ensures) l.invariant.whole;
      fewer = (fewer_left c.args.items.now c.loop-item.item-index c.item-item.result _ c.loop-item-test.true c.item-item.is l.invariant.fewer).1;
    }
