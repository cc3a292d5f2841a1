use Rattle.std.proofs.Common.{String, Global, sym, ◌∙◌, subst, arith}
use Rattle.std.specs.List.Sorted.{IsStrictlySortedBy}
use Rattle.std.specs.Map.{keys_of}
use Rattle.std.specs.String.{string_cmp}
use Rattle.vrl_value.specs.Tree.{MembersAreOrdered}
use Rattle.vrl_value.specs.View.{members_view}
use Rattle.vrl_value.specs.declared.value.Value.{Value}
use Rattle.vrl_value.proofs.Copies.{items_from, ordered_from, ordered_end}
use Rattle.vrl_value.proofs.Nested.{met_below}
use Rattle.vrl_value.proofs.Ordered.{members_ordered, sorted_behind}
use Rattle.vrl_value.proofs.value.+depth.Goals as goal

pub Fields::deepest-loop-name-preserved : goal.Fields::deepest-loop-name-preserved
Fields::deepest-loop-name-preserved t c =
    let l = c.loop-name in
    let e : String Global × Value = (c.in-Some._name.now, c.in-Some.value.now) in
    let left = c.next.new.self in
    let all = rw c.in-Some.ensures.steps at l.invariant.all in
    let sorted = subst (λ es. IsStrictlySortedBy string_cmp (keys_of es)) c.in-Some.ensures.steps l.invariant.sorted in
    record {
      all = omega (arith, all, c.max-deepest.ensures, c.depth.ensures.depth);
      bound = omega (arith, l.invariant.bound, c.max-deepest.ensures, c.depth.ensures.depth);
      sorted = sorted_behind e left sorted;
      ordered = λ rest. l.invariant.ordered (subst (λ es. MembersAreOrdered (members_view es)) (sym c.in-Some.ensures.steps) (members_ordered e left sorted c.depth.ensures.ordered rest));
    }

pub Fields::deepest-depth-requires : goal.Fields::deepest-depth-requires
Fields::deepest-depth-requires t c =
    let start = c.into_iter-name-iterator.ensures.into_iter_gives ∙ c.iter-name-items.ensures.rest in
    let below = met_below c.args.self.now _ _ _ _ _ _ start c.loop-name.yielded_by c.in-Some.is c.next.ensures.steps in
    (omega (arith, c.decreases), tt)

pub Items::deepest-loop-item-preserved : goal.Items::deepest-loop-item-preserved
Items::deepest-loop-item-preserved t c =
    let l = c.loop-item in
    let vs = c.deref-item-items.result.now in
    let all = rw (items_from vs l.item-index c.item-item.result c.loop-item-test.true c.item-item.is) at l.invariant.all in
    record {
      all = omega (arith, all, c.max-deepest.ensures, c.depth.ensures.depth);
      bound = omega (arith, l.invariant.bound, c.max-deepest.ensures, c.depth.ensures.depth);
      ordered = ordered_from vs l.item-index c.item-item.result c.loop-item-test.true c.item-item.is c.depth.ensures.ordered l.invariant.ordered;
    }

pub Items::deepest-returns-clause-ordered : goal.Items::deepest-returns-clause-ordered
Items::deepest-returns-clause-ordered t c = ordered_end c.args.self.now c.loop-item.item-index (omega arith) (rw c.deref-item-items.ensures.value at c.loop-item.invariant.ordered)
