use Rattle.std.proofs.Common.{◌≡◌, ◌≤◌, Some, None, rules, sym, ap, subst, arith, refl}
use Rattle.std.proofs.lemmas.Grind.{common_steps}
use Rattle.vrl_value.specs.Parts.{count_of}
use Rattle.vrl_value.specs.Tree.{null}
use Rattle.vrl_value.specs.Depth.{depth_of, items_depth, members_depth}
use Rattle.vrl_value.specs.View.{items_of, members_of, tree_of}
use Rattle.vrl_path.specs.Read.{place_of}
use Rattle.vrl_path.specs.Trees.{set_in_fields, set_in_items, set_tree}
use Rattle.vrl_path.proofs.Depths.{below_put_item}
use Rattle.vrl_path.proofs.Fits.{front_fits, new_shallow, over_whole, part_of_fields, set_in_fields-new, set_in_fields-part, set_in_items-new, set_in_items-part, no_array_fits, no_object_fits, place_fits}
use Rattle.vrl_path.proofs.depth.+fits.Goals as goal

pub field_fits-returns-else-fits_at : goal.field_fits-returns-else-fits_at
field_fits-returns-else-fits_at t c = λ n room.
    let p = c.args.steps.now in
    let ms = members_of c.args.fields.now in
    let part = set_tree (tree_of c.in-Some.part.now) p n in
    let e = ap members_depth (set_in_fields-part c.args.name.now ms p n (tree_of c.in-Some.part.now) c.in-Some.ensures) in
    let below = subst (λ d. depth_of part ≤ d) (sym e) (part_of_fields c.args.name.now part ms) in
    over_whole c.fits_at.result (depth_of part) (members_depth (set_in_fields c.args.name.now ms p n)) c.args.limit (c.fits_at.ensures n room) c.if-fits_at.false below

pub field_fits-returns-in-None : goal.field_fits-returns-in-None
field_fits-returns-in-None t c = λ n room.
    let p = c.args.steps.now in
    let ms = members_of c.args.fields.now in
    let e = ap members_depth (set_in_fields-new c.args.name.now ms p n c.in-None.ensures) in
    let fits : depth_of (set_tree null p n) ≤ c.args.limit = let h = new_shallow p n in omega arith in
    rw e (c.fields_fit-in-None.ensures (set_tree null p n) fits)

pub item_fits-returns-then-fits_at : goal.item_fits-returns-then-fits_at
item_fits-returns-then-fits_at t c = λ n room.
    let p = c.args.steps.now in
    let ts = items_of c.args.items.now in
    let part = set_tree (tree_of c.in-Some.part.now) p n in
    let e = ap items_depth (set_in_items-part c.args.place ts p n (tree_of c.in-Some.part.now) c.in-Some.ensures) in
    rw e (c.items_fit.ensures part ((c.fits_at.ensures n room).0 c.if-fits_at.true))

pub item_fits-returns-else-fits_at : goal.item_fits-returns-else-fits_at
item_fits-returns-else-fits_at t c = λ n room.
    let p = c.args.steps.now in
    let ts = items_of c.args.items.now in
    let part = set_tree (tree_of c.in-Some.part.now) p n in
    let e = ap items_depth (set_in_items-part c.args.place ts p n (tree_of c.in-Some.part.now) c.in-Some.ensures) in
    let below = subst (λ d. depth_of part ≤ d) (sym e) (below_put_item c.args.place part ts) in
    over_whole c.fits_at.result (depth_of part) (items_depth (set_in_items c.args.place ts p n)) c.args.limit (c.fits_at.ensures n room) c.if-fits_at.false below

pub item_fits-returns-in-None : goal.item_fits-returns-in-None
item_fits-returns-in-None t c = λ n room.
    let p = c.args.steps.now in
    let ts = items_of c.args.items.now in
    let e = ap items_depth (set_in_items-new c.args.place ts p n c.in-None.ensures) in
    let fits : depth_of (set_tree null p n) ≤ c.args.limit = let h = new_shallow p n in omega arith in
    rw e (c.items_fit-in-None.ensures (set_tree null p n) fits)

pub fits_at-returns-in-None : goal.fits_at-returns-in-None
fits_at-returns-in-None t c = λ n room.
    (λ yes. no_object_fits (tree_of c.args.value.now) c.args.steps.now c.step-item.result c.in-Field.name n c.args.limit c.step-item.is c.in-Field.is c.in-len1-up.len_at_least c.in-None.ensures room, λ fits. refl)

pub fits_at-returns-in-None-items_of : goal.fits_at-returns-in-None-items_of
fits_at-returns-in-None-items_of t c = λ n room.
    (λ yes. no_array_fits (tree_of c.args.value.now) c.args.steps.now c.step-item.result c.in-Place.place n c.args.limit c.step-item.is c.in-Place.is c.in-len1-up.len_at_least c.in-None-items_of.ensures room, λ fits. refl)

pub place_fits-returns-in-Some : goal.place_fits-returns-in-Some
place_fits-returns-in-Some t c = λ n room.
    let ts = items_of c.args.items.now in
    let is : place_of (count_of ts) c.args.place ≡ Some c.in-Some.index = search rules in
    place_fits c.item_fits.result ts c.args.place c.in-Some.index c.args.steps.now n c.args.limit is (omega arith) (c.item_fits.ensures n (omega arith))

pub place_fits-returns-in-None : goal.place_fits-returns-in-None
place_fits-returns-in-None t c = λ n room.
    let ts = items_of c.args.items.now in
    let none : place_of (count_of ts) c.args.place ≡ None = search rules in
    front_fits c.items_fit.result ts c.args.place c.args.steps.now n c.args.limit none room (rw c.len-count.ensures at (c.items_fit.ensures null (omega arith)))

pub fits_at-returns-in_default : goal.fits_at-returns-in_default
fits_at-returns-in_default t c = grind (arith, common_steps)

pub fits_at-returns-in-Some : goal.fits_at-returns-in-Some
fits_at-returns-in-Some t c = grind (arith, common_steps)

pub fits_at-returns-in-Some-items_of : goal.fits_at-returns-in-Some-items_of
fits_at-returns-in-Some-items_of t c = grind (arith, common_steps)
