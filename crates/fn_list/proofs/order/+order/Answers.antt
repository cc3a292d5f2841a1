use Rattle.std.proofs.Common.{rules, ◌≡◌, ◌<◌, ◌∷◌, [], length, arith}
use Rattle.std.proofs.lemmas.Grind.{common_steps}
use Rattle.std.specs.declared.cmp.Ordering.TheVariants.{Less, Equal, Greater}
use Rattle.vrl_value.specs.View.{items_view, tree_of}
use Rattle.fn_list.specs.Order.{order}
use Rattle.fn_list.proofs.Compared.{decided, ended, longer, shorter}
use Rattle.fn_list.proofs.Itemwise.{fewer_left}
use Rattle.vrl_builtin.proofs.Sizes.{items_size}
use Rattle.fn_list.proofs.order.+order.Goals as goal

pub order_items-returns-in_default : goal.order_items-returns-in_default
order_items-returns-in_default t c =
    let none : c.loop-item.right.now ≡ [] = grind (arith, common_steps) in
    longer c.args.items.now c.loop-item.right.now c.loop-item.item-index c.item-item.result _ c.loop-item-test.true c.item-item.is none c.loop-item.invariant.whole

pub order_items-order-requires : goal.order_items-order-requires
order_items-order-requires t c =
    let fewer = fewer_left c.args.items.now c.loop-item.item-index c.item-item.result (items_size (items_view c.args.items.now)) c.loop-item-test.true c.item-item.is c.loop-item.invariant.fewer in
    (omega (arith, fewer), tt)

pub order_items-returns-in-Less : goal.order_items-returns-in-Less
order_items-returns-in-Less t c =
    let some : c.loop-item.right.now ≡ c.in-Some.other.now ∷ c.in-Some.rest.now = search rules in
    let told : Less ≡ order (tree_of c.item-item.result) (tree_of c.in-Some.other.now) = search rules in
    decided c.args.items.now c.loop-item.right.now c.in-Some.rest.now c.loop-item.item-index c.item-item.result c.in-Some.other.now Less _ c.loop-item-test.true c.item-item.is some told
    c.loop-item.invariant.whole

pub order_items-returns-in-Greater : goal.order_items-returns-in-Greater
order_items-returns-in-Greater t c =
    let some : c.loop-item.right.now ≡ c.in-Some.other.now ∷ c.in-Some.rest.now = search rules in
    let told : Greater ≡ order (tree_of c.item-item.result) (tree_of c.in-Some.other.now) = search rules in
    decided c.args.items.now c.loop-item.right.now c.in-Some.rest.now c.loop-item.item-index c.item-item.result c.in-Some.other.now Greater _ c.loop-item-test.true c.item-item.is some told
    c.loop-item.invariant.whole

pub order_items-loop-item-preserved : goal.order_items-loop-item-preserved
order_items-loop-item-preserved t c =
    let some : c.loop-item.right.now ≡ c.in-Some.other.now ∷ c.in-Some.rest.now = search rules in
    let told : Equal ≡ order (tree_of c.item-item.result) (tree_of c.in-Some.other.now) = search rules in
    record {
      whole = decided c.args.items.now c.loop-item.right.now c.in-Some.rest.now c.loop-item.item-index c.item-item.result c.in-Some.other.now Equal _ c.loop-item-test.true c.item-item.is some told c.loop-item.invariant.whole;
      fewer = (fewer_left c.args.items.now c.loop-item.item-index c.item-item.result _ c.loop-item-test.true c.item-item.is c.loop-item.invariant.fewer).1;
    }

pub order_items-returns-in-Some-first : goal.order_items-returns-in-Some-first
order_items-returns-in-Some-first t c =
    let some : 0 < length c.loop-item.right.now = grind (arith, common_steps) in
    shorter c.args.items.now c.loop-item.right.now c.loop-item.item-index _ c.loop-item-test.false some c.loop-item.invariant.whole

pub order_items-returns-in-None : goal.order_items-returns-in-None
order_items-returns-in-None t c =
    let none : c.loop-item.right.now ≡ [] = grind (arith, common_steps) in
    ended c.args.items.now c.loop-item.right.now [] c.loop-item.item-index _ c.loop-item-test.false none c.loop-item.invariant.whole
