use Rattle.std.proofs.Common.{◌≡◌, [], ◌∷◌, ◌++◌, ◌≤◌, String, Global, string_cmp, rules, sym, ap, ◌∙◌, subst, append_assoc, arith}
use Rattle.std.proofs.lemmas.List.{take_all, append-nil}
use Rattle.std.specs.List.Sorted.{IsStrictlySortedBy}
use Rattle.std.specs.Map.{keys_of}
use Rattle.vrl_value.specs.Tree.{object}
use Rattle.vrl_value.specs.View.{members_of, members_view}
use Rattle.vrl_value.specs.declared.value.Value.{Value}
use Rattle.vrl_kind.specs.KindTree.{object_part, nothing}
use Rattle.vrl_kind.specs.Inference.{IsObjectOfValue}
use Rattle.vrl_kind.specs.View.{fields_view}
use Rattle.vrl_kind.proofs.Found.{AreKindsOf, kinds_pushed, fields_pushed, list_found, object_found}
use Rattle.vrl_kind.proofs.Sizes.{members_size, value_size}
use Rattle.vrl_kind.proofs.inference.+kind_of.Goals as goal

pub kinds_of_items-loop-item-init : goal.kinds_of_items-loop-item-init
kinds_of_items-loop-item-init t c = rw c.in_ok-kinds.ensures.items tt

pub kinds_of_items-kind_of_value-requires : goal.kinds_of_items-kind_of_value-requires
kinds_of_items-kind_of_value-requires t c = (omega (arith, c.decreases, value_size _ _ _ c.loop-item-test.true c.item-item.is), tt)

pub kinds_of_items-loop-item-preserved : goal.kinds_of_items-loop-item-preserved
kinds_of_items-loop-item-preserved t c =
    rw c.in_ok-push.ensures.items (kinds_pushed _ _ _ _ _ _ (omega arith) c.loop-item-test.true c.item-item.is c.loop-item.invariant c.in_ok-kind_of_value.ensures)

pub kinds_of_items-returns : goal.kinds_of_items-returns
kinds_of_items-returns t c =
    let all = take_all c.loop-item.item-index c.args.items.now c.loop-item-test.false in
    list_found c.loop-item.kinds.items c.args.items.now (subst (AreKindsOf c.loop-item.kinds.items) all c.loop-item.invariant)

pub kinds_of_fields-loop-name-init : goal.kinds_of_fields-loop-name-init
kinds_of_fields-loop-name-init t c =
    let all : c.into_iter-name-iterator.result ≡ c.as_map.result.now.entries = search rules in
    let same : members_view c.into_iter-name-iterator.result ≡ members_of c.args.fields.now = ap members_view all ∙ c.as_map.ensures in (
      [],
      same,
      rw all c.iter-name-items.ensures.ordered,
      rw c.new-kinds.ensures.items tt,
      rw same (omega arith),
    )

pub kinds_of_fields-loop-name-preserved : goal.kinds_of_fields-loop-name-preserved
kinds_of_fields-loop-name-preserved t c =
    let l = c.loop-name in
    let done = l.invariant.0 in
    let e : String Global × Value = (c.in-Some.name.now, c.in-Some.value.now) in
    let left = c.next.new.self in
    let steps = c.in-Some.ensures.steps in
    let all = ap (λ es. done ++ es) steps ∙ sym (append_assoc done (e ∷ []) left) in
    let most = subst (λ es. members_size (members_view es) ≤ members_size (members_of c.args.fields.now)) steps l.invariant.4 in (
      done ++ e ∷ [],
      ap members_view (sym all) ∙ l.invariant.1,
      subst (λ es. IsStrictlySortedBy string_cmp (keys_of es)) all l.invariant.2,
      rw c.in_ok-push.ensures.items (fields_pushed _ _ _ e l.invariant.3 (c.in_ok-name.ensures ∙ c.as_str.ensures.value) c.in_ok-kind_of_value.ensures),
      omega (arith, most),
    )

pub kinds_of_fields-returns : goal.kinds_of_fields-returns
kinds_of_fields-returns t c =
    let l = c.loop-name in
    let all = ap (λ es. l.invariant.0 ++ es) c.in-None.ensures.steps.0 ∙ append-nil l.invariant.0 in
    let sorted = subst (λ es. IsStrictlySortedBy string_cmp (keys_of es)) all l.invariant.2 in
    subst (λ ms. IsObjectOfValue (object_part (fields_view l.kinds.items) nothing) (object ms)) (ap members_view (sym all) ∙ l.invariant.1) (object_found l.kinds.items l.invariant.0 sorted l.invariant.3)
