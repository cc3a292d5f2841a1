use Rattle.std.proofs.Common.{true≢false, sym, ◌∙◌, rules, arith}
use Rattle.vrl_value.specs.declared.value.Value.{the_lemmas}
use Rattle.vrl_value.proofs.Copies.{items_of-out}
use Rattle.vrl_value.proofs.Nested.{met_below}
use Rattle.vrl_value.proofs.Same.{same_end, same_behind, other_part, other_end, not_same}
use Rattle.vrl_value.proofs.value.+same.Goals as goal

pub Fields::same-same-requires : goal.Fields::same-same-requires
Fields::same-same-requires t c =
    let start = c.into_iter-name-iterator.ensures.into_iter_gives ∙ c.iter-name-items.ensures.rest in
    let below = met_below c.args.self.now _ _ _ _ _ _ start c.loop-name.yielded_by c.in-Some.is c.next.ensures.steps in
    (omega (arith, c.decreases), tt)

pub Fields::same-returns-in_default : goal.Fields::same-returns-in_default
Fields::same-returns-in_default t c = search (rules, the_lemmas)

pub Fields::same-returns-then-ne : goal.Fields::same-returns-then-ne
Fields::same-returns-then-ne t c = search (rules, the_lemmas)

pub Fields::same-loop-name-preserved : goal.Fields::same-loop-name-preserved
Fields::same-loop-name-preserved t c = search (rules, the_lemmas)

pub Fields::same-returns : goal.Fields::same-returns
Fields::same-returns t c = search (rules, the_lemmas)

pub Items::same-returns : goal.Items::same-returns
Items::same-returns t c =
    let a = c.args.self.now in
    let b = c.args.other.now in
    let same = same_end a.items.items b.items.items c.loop-i.i c.len.result c.len-2.result (omega arith) (omega arith) (omega arith) (omega arith) c.loop-i.invariant in
    (λ e. sym (items_of-out a) ∙ same.0 e ∙ items_of-out b, λ e. same.1 (items_of-out a ∙ e ∙ sym (items_of-out b)))

pub Items::same-returns-in_default : goal.Items::same-returns-in_default
Items::same-returns-in_default t c =
    let a = c.args.self.now in
    let b = c.args.other.now in
    not_same a b (other_end a.items.items b.items.items c.loop-i.i (omega arith) (omega (arith, c.in_default.ensures.lookup)))

pub Items::same-returns-then-not-same : goal.Items::same-returns-then-not-same
Items::same-returns-then-not-same t c =
    let a = c.args.self.now in
    let b = c.args.other.now in
    let part = c.in-Some.ensures.lookup in
    not_same a b (other_part a.items.items b.items.items c.loop-i.i c.item-item.result c.in-Some.part.now (omega arith) (cc) (omega arith) (cc) (λ e. true≢false (sym (c.same.ensures.1 e) ∙ c.if-not-same.true)) c.loop-i.invariant)

pub Items::same-loop-i-preserved : goal.Items::same-loop-i-preserved
Items::same-loop-i-preserved t c =
    let part = c.in-Some.ensures.lookup in
    same_behind c.args.self.now.items.items c.args.other.now.items.items c.loop-i.i c.item-item.result c.in-Some.part.now (omega arith) (cc) (omega arith) (cc) (c.same.ensures.0 c.if-not-same.false) c.loop-i.invariant

pub Value::same-returns-in-Text-Text : goal.Value::same-returns-in-Text-Text
Value::same-returns-in-Text-Text t c = search (rules, the_lemmas)

pub Value::same-returns-in-Int-Int : goal.Value::same-returns-in-Int-Int
Value::same-returns-in-Int-Int t c = search (rules, the_lemmas)

pub Value::same-returns-in-Bool-Bool : goal.Value::same-returns-in-Bool-Bool
Value::same-returns-in-Bool-Bool t c = search (rules, the_lemmas)

pub Value::same-returns-in-Null-Null : goal.Value::same-returns-in-Null-Null
Value::same-returns-in-Null-Null t c = search (rules, the_lemmas)

pub Value::same-returns-in-Time-Time : goal.Value::same-returns-in-Time-Time
Value::same-returns-in-Time-Time t c = search (rules, the_lemmas)

pub Value::same-returns-in-Pattern-Pattern : goal.Value::same-returns-in-Pattern-Pattern
Value::same-returns-in-Pattern-Pattern t c = search (rules, the_lemmas)

pub Value::same-returns-in-List-List : goal.Value::same-returns-in-List-List
Value::same-returns-in-List-List t c = search (rules, the_lemmas)

pub Value::same-returns-in-Object-Object : goal.Value::same-returns-in-Object-Object
Value::same-returns-in-Object-Object t c = search (rules, the_lemmas)

pub Value::same-returns-in_default : goal.Value::same-returns-in_default
Value::same-returns-in_default t c = search (rules, the_lemmas)

pub Value::same-returns-in_default-2 : goal.Value::same-returns-in_default-2
Value::same-returns-in_default-2 t c = search (rules, the_lemmas)

pub Value::same-returns-in_default-3 : goal.Value::same-returns-in_default-3
Value::same-returns-in_default-3 t c = search (rules, the_lemmas)

pub Value::same-returns-in_default-4 : goal.Value::same-returns-in_default-4
Value::same-returns-in_default-4 t c = search (rules, the_lemmas)

pub Value::same-returns-in_default-5 : goal.Value::same-returns-in_default-5
Value::same-returns-in_default-5 t c = search (rules, the_lemmas)

pub Value::same-returns-in_default-6 : goal.Value::same-returns-in_default-6
Value::same-returns-in_default-6 t c = search (rules, the_lemmas)

pub Value::same-returns-in_default-7 : goal.Value::same-returns-in_default-7
Value::same-returns-in_default-7 t c = search (rules, the_lemmas)

pub Value::same-returns-in_default-8 : goal.Value::same-returns-in_default-8
Value::same-returns-in_default-8 t c = search (rules, the_lemmas)
