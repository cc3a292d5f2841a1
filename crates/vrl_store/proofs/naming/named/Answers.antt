use Rattle.std.proofs.Common.{◌≡◌, ℕ, List, ◌∷◌, Some, arith, refl, rules, sym, subst}
use Rattle.std.proofs.lemmas.Grind.{common_steps}
use Rattle.std.specs.FinMap as finite
use Rattle.std.specs.Prelude.{IfSome}
use Rattle.std.specs.Vec.Iter.{into_iter_items}
use Rattle.vrl_value.specs.Tree.{object, no_members}
use Rattle.vrl_value.specs.View.{members_of}
use Rattle.vrl_store.specs.Kept.{trees_of}
use Rattle.vrl_store.specs.StoreView.{map_of, variables_of, AreDistinct}
use Rattle.vrl_store.specs.WellFormed.{IsWellFormed}
use Rattle.vrl_store.proofs.MapsOf.{formed_next, told_first, told_next}
use Rattle.vrl_store.proofs.naming.named.Goals as goal

pub loop-variable-init : goal.loop-variable-init
loop-variable-init c =
    let rest : into_iter_items c.into_iter-variable-iterator.result ≡ c.args.variables.items = search rules in
    let none : members_of c.new-fields.result ≡ no_members = search rules in
    record {
      rest = told_first c.args.names.now c.as_slice-left.result.now c.args.variables.items (into_iter_items c.into_iter-variable-iterator.result) (members_of c.new-fields.result)
          c.requires c.as_slice-left.ensures rest none;
      distinct = subst AreDistinct (sym c.as_slice-left.ensures) c.requires;
      formed = λ count all. subst (λ ms. IsWellFormed count (object ms)) (sym none) (record { ordered = tt; below = refl });
      as_many = search rules;
    }

pub loop-variable-preserved-in_ok-insert : goal.loop-variable-preserved-in_ok-insert
loop-variable-preserved-in_ok-insert c =
    let next : into_iter_items c.loop-variable.variable-iterator ≡ Some c.in-Some-variable.value ∷ into_iter_items c.next.new.self = search rules in
    record {
      rest = told_next c.loop-variable.left.now c.in-Some-split_first.others.now c.in-Some-split_first.name.now c.in_ok-copy.field-0 (into_iter_items c.loop-variable.variable-iterator)
          (into_iter_items c.next.new.self) c.in-Some-variable.value (members_of c.loop-variable.fields) (members_of c.insert.new.self) (variables_of c.args.names.now (trees_of c.args.variables.items))
          c.in-Some-split_first.ensures.cases.0 next c.in_ok-copy.ensures c.in_ok-insert.ensures.ok c.loop-variable.invariant.rest;
      distinct = (subst AreDistinct c.in-Some-split_first.ensures.cases.0 c.loop-variable.invariant.distinct).1;
      formed = λ count all. formed_next c.trees_stay_in_order.ensures c.regexes_stay_below.ensures c.loop-variable.left.now c.in-Some-split_first.others.now c.in-Some-split_first.name.now
          c.in_ok-copy.field-0 (into_iter_items c.loop-variable.variable-iterator) (into_iter_items c.next.new.self) c.in-Some-variable.value (members_of c.loop-variable.fields)
          (members_of c.insert.new.self) (variables_of c.args.names.now (trees_of c.args.variables.items)) c.loop-variable.invariant.distinct c.in-Some-split_first.ensures.cases.0 next
          c.in_ok-copy.ensures c.in_ok-insert.ensures.ok c.loop-variable.invariant.rest count all (c.loop-variable.invariant.formed count all);
      as_many = search rules;
    }

pub returns-in_default-clause-told : goal.returns-in_default-clause-told
returns-in_default-clause-told c =
    let one : map_of (members_of c.loop-variable.fields) ≡ variables_of c.args.names.now (trees_of c.args.variables.items) = search rules in
    λ count all. c.loop-variable.invariant.formed count (subst (λ m. (x : List ℕ) → IfSome (finite.get m x) (IsWellFormed count)) one all)

pub returns-clause-told : goal.returns-clause-told
returns-clause-told c =
    let one : map_of (members_of c.loop-variable.fields) ≡ variables_of c.args.names.now (trees_of c.args.variables.items) = grind (arith, common_steps) in
    λ count all. c.loop-variable.invariant.formed count (subst (λ m. (x : List ℕ) → IfSome (finite.get m x) (IsWellFormed count)) one all)

pub returns-clause-variables : goal.returns-clause-variables
returns-clause-variables c = grind (arith, common_steps)
