use Rattle.std.proofs.Common.{◌≡◌, [], ◌∷◌, ◌++◌, String, Global, string_bytes, sym, ap, ◌∙◌, subst, append_assoc, map, rules, arith}
use Rattle.std.proofs.lemmas.List.{take_all}
use Rattle.std.specs.List.Sorted.{IsStrictlySortedBy}
use Rattle.std.specs.Map.{keys_of}
use Rattle.std.specs.String.{string_cmp}
use Rattle.vrl_value.specs.Tree.{MembersAreOrdered}
use Rattle.vrl_value.specs.View.{items_of_trees, items_view, members_view, tree_of}
use Rattle.vrl_value.specs.declared.value.Value.{Value, the_lemmas}
use Rattle.vrl_value.proofs.Copies.{items_of-out, one_copied, ordered_from, ordered_end}
use Rattle.vrl_value.proofs.Nested.{met_below}
use Rattle.vrl_value.proofs.Ordered.{members_ordered, sorted_behind}
use Rattle.vrl_value.proofs.Put.{members_view-insert_entry, put_last}
use Rattle.vrl_value.proofs.value.+copy.Goals as goal

pub Fields::copy-loop-name-preserved : goal.Fields::copy-loop-name-preserved
Fields::copy-loop-name-preserved t c =
    let l = c.loop-name in
    let done = l.invariant.0 in
    let e : String Global × Value = (c.in-Some.name.now, c.in-Some.value.now) in
    let left = c.next.new.self in
    let all : c.args.self.now.map.entries ≡ done ++ e ∷ left = l.invariant.1 ∙ ap (λ es. done ++ es) c.in-Some.ensures.steps in
    let last = put_last done e left (subst (λ es. IsStrictlySortedBy string_cmp (keys_of es)) all c.iter-name-items.ensures.ordered) in
    let sorted = subst (λ es. IsStrictlySortedBy string_cmp (keys_of es)) c.in-Some.ensures.steps l.invariant.3 in
    let named : string_bytes c.in_ok-key.key ≡ string_bytes e.0 = c.in_ok-key.ensures.ok ∙ c.as_str.ensures.value in (
      done ++ e ∷ [],
      all ∙ sym (append_assoc done (e ∷ []) left),
      ap members_view c.in_ok-insert.ensures.entries ∙ members_view-insert_entry l.copies.entries c.in_ok-key.key c.in_ok-copy.field-0 ∙ rw (named, c.in_ok-copy.ensures.equal, l.invariant.2) last,
      sorted_behind e left sorted,
      λ rest. l.invariant.4 (subst (λ es. MembersAreOrdered (members_view es)) (sym c.in-Some.ensures.steps) (members_ordered e left sorted c.in_ok-copy.ensures.ordered rest)),
    )

pub Fields::copy-copy-requires : goal.Fields::copy-copy-requires
Fields::copy-copy-requires t c =
    let start = c.into_iter-name-iterator.ensures.into_iter_gives ∙ c.iter-name-items.ensures.rest in
    let below = met_below c.args.self.now _ _ _ _ _ _ start c.loop-name.yielded_by c.in-Some.is c.next.ensures.steps in
    (omega (arith, c.decreases), tt)

pub Fields::copy-returns-clause-equal : goal.Fields::copy-returns-clause-equal
Fields::copy-returns-clause-equal t c = search (rules, the_lemmas)

pub Fields::copy-returns-clause-ordered : goal.Fields::copy-returns-clause-ordered
Fields::copy-returns-clause-ordered t c = search (rules, the_lemmas)

pub Items::copy-returns-clause-equal : goal.Items::copy-returns-clause-equal
Items::copy-returns-clause-equal t c =
    c.new.ensures
    ∙ ap items_of_trees c.loop-item.invariant.0
    ∙ ap items_view (take_all c.loop-item.item-index c.deref-item-items.result.now c.loop-item-test.false ∙ c.deref-item-items.ensures.value)
    ∙ items_of-out c.args.self.now

pub Items::copy-loop-item-preserved : goal.Items::copy-loop-item-preserved
Items::copy-loop-item-preserved t c =
    let l = c.loop-item in
    let vs = c.deref-item-items.result.now in (
      ap (map tree_of) c.in_ok-push.ensures.items ∙ one_copied l.copies.items vs l.item-index c.item-item.result c.in_ok-copy.field-0 c.loop-item-test.true c.item-item.is l.invariant.0 c.in_ok-copy.ensures.equal,
      ordered_from vs l.item-index c.item-item.result c.loop-item-test.true c.item-item.is c.in_ok-copy.ensures.ordered l.invariant.1,
    )

pub Items::copy-returns-clause-ordered : goal.Items::copy-returns-clause-ordered
Items::copy-returns-clause-ordered t c = ordered_end c.args.self.now c.loop-item.item-index (omega arith) (rw c.deref-item-items.ensures.value at c.loop-item.invariant.1)

pub Value::copy-returns-in_ok-copy-in-Text-clause-equal : goal.Value::copy-returns-in_ok-copy-in-Text-clause-equal
Value::copy-returns-in_ok-copy-in-Text-clause-equal t c = search (rules, the_lemmas)

pub Value::copy-returns-in_ok-copy-in-Text-clause-ordered : goal.Value::copy-returns-in_ok-copy-in-Text-clause-ordered
Value::copy-returns-in_ok-copy-in-Text-clause-ordered t c = search (rules, the_lemmas)

pub Value::copy-returns-in-Int-clause-equal : goal.Value::copy-returns-in-Int-clause-equal
Value::copy-returns-in-Int-clause-equal t c = search (rules, the_lemmas)

pub Value::copy-returns-in-Int-clause-ordered : goal.Value::copy-returns-in-Int-clause-ordered
Value::copy-returns-in-Int-clause-ordered t c = search (rules, the_lemmas)

pub Value::copy-returns-in-Bool-clause-equal : goal.Value::copy-returns-in-Bool-clause-equal
Value::copy-returns-in-Bool-clause-equal t c = search (rules, the_lemmas)

pub Value::copy-returns-in-Bool-clause-ordered : goal.Value::copy-returns-in-Bool-clause-ordered
Value::copy-returns-in-Bool-clause-ordered t c = search (rules, the_lemmas)

pub Value::copy-returns-in-Null-clause-equal : goal.Value::copy-returns-in-Null-clause-equal
Value::copy-returns-in-Null-clause-equal t c = search (rules, the_lemmas)

pub Value::copy-returns-in-Null-clause-ordered : goal.Value::copy-returns-in-Null-clause-ordered
Value::copy-returns-in-Null-clause-ordered t c = search (rules, the_lemmas)

pub Value::copy-returns-in-Time-clause-equal : goal.Value::copy-returns-in-Time-clause-equal
Value::copy-returns-in-Time-clause-equal t c = search (rules, the_lemmas)

pub Value::copy-returns-in-Time-clause-ordered : goal.Value::copy-returns-in-Time-clause-ordered
Value::copy-returns-in-Time-clause-ordered t c = search (rules, the_lemmas)

pub Value::copy-returns-in-Pattern-clause-equal : goal.Value::copy-returns-in-Pattern-clause-equal
Value::copy-returns-in-Pattern-clause-equal t c = search (rules, the_lemmas)

pub Value::copy-returns-in-Pattern-clause-ordered : goal.Value::copy-returns-in-Pattern-clause-ordered
Value::copy-returns-in-Pattern-clause-ordered t c = search (rules, the_lemmas)

pub Value::copy-returns-in_ok-copy-in-List-clause-equal : goal.Value::copy-returns-in_ok-copy-in-List-clause-equal
Value::copy-returns-in_ok-copy-in-List-clause-equal t c = search (rules, the_lemmas)

pub Value::copy-returns-in_ok-copy-in-List-clause-ordered : goal.Value::copy-returns-in_ok-copy-in-List-clause-ordered
Value::copy-returns-in_ok-copy-in-List-clause-ordered t c = search (rules, the_lemmas)

pub Value::copy-returns-in_ok-copy-in-Object-clause-equal : goal.Value::copy-returns-in_ok-copy-in-Object-clause-equal
Value::copy-returns-in_ok-copy-in-Object-clause-equal t c = search (rules, the_lemmas)

pub Value::copy-returns-in_ok-copy-in-Object-clause-ordered : goal.Value::copy-returns-in_ok-copy-in-Object-clause-ordered
Value::copy-returns-in_ok-copy-in-Object-clause-ordered t c = search (rules, the_lemmas)
