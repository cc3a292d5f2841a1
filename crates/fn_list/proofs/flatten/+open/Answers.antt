use Rattle.std.proofs.Common.{rules, ◌≡◌, ◌∷◌, ◌++◌, [], map, refl, sym, ap, ◌∙◌, arith}
use Rattle.std.proofs.lemmas.List.{map-append}
use Rattle.vrl_value.specs.View.{items_view, tree_of}
use Rattle.fn_list.specs.Flatten.{opened, opened_part}
use Rattle.fn_list.proofs.Itemwise.{all_walked, fewer_left, walked}
use Rattle.vrl_builtin.proofs.Sizes.{items_size}
use Rattle.vrl_value.specs.declared.value.Value.{the_lemmas}
use Rattle.fn_list.proofs.flatten.+open.Goals as goal

pub push_opened-push_part-requires : goal.push_opened-push_part-requires
push_opened-push_part-requires t c =
    let fewer = fewer_left c.args.items.now c.loop-item.item-index c.item-item.result (items_size (items_view c.args.items.now)) c.loop-item-test.true c.item-item.is c.loop-item.invariant.fewer in
    (omega (arith, fewer), tt)

pub push_opened-loop-item-preserved : goal.push_opened-loop-item-preserved
push_opened-loop-item-preserved t c =
    let l = c.loop-item in record {
      whole = walked opened c.args.items.now c.loop-item.item-index c.item-item.result (opened_part (tree_of c.item-item.result)) (map tree_of l.out.items) (map tree_of c.push_part.new.out.items) _ c.loop-item-test.true c.item-item.is (λ ts. refl)
          c.in_ok-push_part.ensures l.invariant.whole;
      fewer = (fewer_left c.args.items.now c.loop-item.item-index c.item-item.result _ c.loop-item-test.true c.item-item.is l.invariant.fewer).1;
    }

pub push_opened-returns : goal.push_opened-returns
push_opened-returns t c =
    all_walked opened c.args.items.now c.loop-item.item-index (map tree_of c.loop-item.out.items) _ refl c.loop-item-test.false c.loop-item.invariant.whole

pub push_part-returns-in_ok-push-in_default : goal.push_part-returns-in_ok-push-in_default
push_part-returns-in_ok-push-in_default t c =
    let v = c.args.item.now in
    let one : opened_part (tree_of v) ≡ tree_of v ∷ [] = search (rules, the_lemmas, c.in_default.not-List) in
    ap (map tree_of) c.in_ok-push-in_default.ensures.items ∙ map-append tree_of c.args.out.now.items (c.in_ok-copy-in_default.field-0 ∷ []) ∙
    ap (λ ts. map tree_of c.args.out.now.items ++ ts) (ap (λ w. w ∷ []) c.in_ok-copy-in_default.ensures.equal ∙ sym one)
