use Rattle.std.proofs.Common.{◌≡◌, Some, None, refl, sym, ap, ◌∙◌, subst, ◌≤◌, IsSome, rules, arith}
use Rattle.std.proofs.lemmas.Grind.{common_steps}
use Rattle.vrl_value.specs.declared.value.Value.{the_lemmas}
use Rattle.vrl_value.specs.Parts.{count_of}
use Rattle.vrl_value.specs.Tree.{array}
use Rattle.vrl_value.specs.View.{items_of, members_of, tree_of}
use Rattle.vrl_path.proofs.Changes.{set_found_field, set_found_item, same_item, same_member, count_of-missing}
use Rattle.vrl_path.specs.Read.{place_of}
use Rattle.vrl_path.specs.Trees.{items_if_array}
use Rattle.vrl_path.proofs.Places.{before_first, front_set, no_array_set, no_read, read_at_place, set_at_place}
use Rattle.vrl_path.proofs.Options.{on_ok, on_err, from_some}
use Rattle.vrl_path.proofs.write.+put.Goals as goal

pub put_in_fields-returns-in-Some-clause-ok : goal.put_in_fields-returns-in-Some-clause-ok
put_in_fields-returns-in-Some-clause-ok t c =
    let w = c.put_at.new.value in
    let lent = from_some c.get_mut.result c.in-Some.part _ c.in-Some.is (c.get_mut.follows.holds w) in
    on_ok c.put_at.result _ _ (λ set. lent ∙ rw c.as_str.ensures (set_found_field c.args.name.now (members_of c.args.fields.now) c.args.steps.now (tree_of c.args.new) (tree_of c.in-Some.part.now) (tree_of w) (rw c.as_str.ensures at c.in-Some.ensures.value) set)) c.put_at.ensures.ok

pub put_in_fields-returns-in-Some-clause-err : goal.put_in_fields-returns-in-Some-clause-err
put_in_fields-returns-in-Some-clause-err t c =
    let w = c.put_at.new.value in
    let lent = from_some c.get_mut.result c.in-Some.part _ c.in-Some.is (c.get_mut.follows.holds w) in
    on_err c.put_at.result _ _ (λ same. lent ∙ same_member c.as_str.result.now (members_of c.args.fields.now) (tree_of c.in-Some.part.now) (tree_of w) c.in-Some.ensures.value same) c.put_at.ensures.err

pub put_in_items-push_at-requires : goal.put_in_items-push_at-requires
put_in_items-push_at-requires t c =
    subst (λ ts. count_of ts ≤ c.args.place) (sym c.get_mut.follows.holds-at-none) (count_of-missing c.args.place (items_of c.args.items.now) c.in-None.ensures.value)

pub put_in_items-returns-in-Some-clause-ok : goal.put_in_items-returns-in-Some-clause-ok
put_in_items-returns-in-Some-clause-ok t c =
    let w = c.put_at.new.value in
    let lent = from_some c.get_mut.result c.in-Some.part _ c.in-Some.is (c.get_mut.follows.holds w) in
    on_ok c.put_at.result _ _ (λ set. lent ∙ set_found_item c.args.place (items_of c.args.items.now) c.args.steps.now (tree_of c.args.new) (tree_of c.in-Some.part.now) (tree_of w) c.in-Some.ensures.value set) c.put_at.ensures.ok

pub put_in_items-returns-in-Some-clause-err : goal.put_in_items-returns-in-Some-clause-err
put_in_items-returns-in-Some-clause-err t c =
    let w = c.put_at.new.value in
    let lent = from_some c.get_mut.result c.in-Some.part _ c.in-Some.is (c.get_mut.follows.holds w) in
    on_err c.put_at.result _ _ (λ same. lent ∙ same_item c.args.place (items_of c.args.items.now) (tree_of c.in-Some.part.now) (tree_of w) c.in-Some.ensures.value same) c.put_at.ensures.err

pub put_at-returns-in_default-clause-ok : goal.put_at-returns-in_default-clause-ok
put_at-returns-in_default-clause-ok t c = grind (arith, common_steps)

pub put_at-returns-in-Object-clause-ok : goal.put_at-returns-in-Object-clause-ok
put_at-returns-in-Object-clause-ok t c = grind (the_lemmas, arith, common_steps)

pub put_at-returns-in-Object-clause-there : goal.put_at-returns-in-Object-clause-there
put_at-returns-in-Object-clause-there t c = grind (the_lemmas, arith, common_steps)

pub put_at-returns-in-List-clause-ok : goal.put_at-returns-in-List-clause-ok
put_at-returns-in-List-clause-ok t c = grind (the_lemmas, arith, common_steps)

pub put_at-returns-in-List-clause-there : goal.put_at-returns-in-List-clause-there
put_at-returns-in-List-clause-there t c = grind (the_lemmas, arith, common_steps)

pub put_at-returns-in_ok-value-in-Place : goal.put_at-returns-in_ok-value-in-Place
put_at-returns-in_ok-value-in-Place t c =
    let none : None ≡ items_if_array (tree_of c.args.value.now) = grind (the_lemmas, arith, common_steps) in
    let same = no_array_set (tree_of c.args.value.now) c.args.steps.now c.step-item.result c.in-Place.place (tree_of c.args.new) c.step-item.is c.in-Place.is c.in-len1-up.len_at_least none in
    record { ok = c.in_ok-value-in-Place.ensures ∙ same; there = λ found. refl; err = tt }

pub put_at_place-overflow_sub-unsigned_abs : goal.put_at_place-overflow_sub-unsigned_abs
put_at_place-overflow_sub-unsigned_abs t c =
    let none : place_of (count_of (items_of c.args.items.now)) c.args.place ≡ None = search rules in
    let h = before_first (count_of (items_of c.args.items.now)) c.args.place none in
    search rules

pub put_at_place-put_in_front-requires : goal.put_at_place-put_in_front-requires
put_at_place-put_in_front-requires t c =
    let none : place_of (count_of (items_of c.args.items.now)) c.args.place ≡ None = search rules in
    let h = before_first (count_of (items_of c.args.items.now)) c.args.place none in
    search rules

pub put_at_place-returns-in-Some-clause-ok : goal.put_at_place-returns-in-Some-clause-ok
put_at_place-returns-in-Some-clause-ok t c =
    let ts = items_of c.args.items.now in
    let is : place_of (count_of ts) c.args.place ≡ Some c.in-Some.index = search rules in
    on_ok c.put_in_items.result _ _ (λ set. ap array set ∙ set_at_place ts c.args.place c.in-Some.index c.args.steps.now (tree_of c.args.new) is) c.put_in_items.ensures.ok

pub put_at_place-returns-in-Some-clause-there : goal.put_at_place-returns-in-Some-clause-there
put_at_place-returns-in-Some-clause-there t c = λ found.
    let ts = items_of c.args.items.now in
    let is : place_of (count_of ts) c.args.place ≡ Some c.in-Some.index = search rules in
    c.put_in_items.ensures.there (subst IsSome (read_at_place ts c.args.place c.in-Some.index c.args.steps.now is) found)

pub put_at_place-returns-in_err-part-in-None-clause-there : goal.put_at_place-returns-in_err-part-in-None-clause-there
put_at_place-returns-in_err-part-in-None-clause-there t c = λ found.
    let ts = items_of c.args.items.now in
    let none : place_of (count_of ts) c.args.place ≡ None = search rules in
    no_read ts c.args.place c.args.steps.now none found

pub put_at_place-returns-in_ok-part-in-None-clause-ok : goal.put_at_place-returns-in_ok-part-in-None-clause-ok
put_at_place-returns-in_ok-part-in-None-clause-ok t c =
    let ts = items_of c.args.items.now in
    let none : place_of (count_of ts) c.args.place ≡ None = search rules in
    front_set c.put_in_front.result ts c.args.place c.args.steps.now (tree_of c.args.new) _ _ _ c.put_in_front.ensures.ok c.in_ok-part-in-None.ensures none (search rules)

pub put_at_place-returns-in_ok-part-in-None-clause-there : goal.put_at_place-returns-in_ok-part-in-None-clause-there
put_at_place-returns-in_ok-part-in-None-clause-there t c = λ found.
    let ts = items_of c.args.items.now in
    let none : place_of (count_of ts) c.args.place ≡ None = search rules in
    no_read ts c.args.place c.args.steps.now none found
