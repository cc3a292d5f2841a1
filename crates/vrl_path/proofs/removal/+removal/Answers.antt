use Rattle.std.proofs.Common.{◌≡◌, Some, None, rules, sym, ap, ◌∙◌, arith}
use Rattle.std.proofs.lemmas.Grind.{common_steps}
use Rattle.vrl_value.specs.declared.value.Value.{the_lemmas}
use Rattle.vrl_value.specs.View.{items_of, members_of, tree_of}
use Rattle.vrl_path.proofs.Changes.{removed_in_field, removed_in_item}
use Rattle.vrl_value.specs.Parts.{count_of}
use Rattle.vrl_value.specs.Tree.{array}
use Rattle.vrl_path.specs.Read.{place_of}
use Rattle.vrl_path.proofs.Places.{read_before_first, removable_at_place, removed_at_place, removed_before_first}
use Rattle.vrl_path.proofs.Options.{from_some}
use Rattle.vrl_path.proofs.removal.+removal.Goals as goal

pub remove_in_fields-returns-in-Some-clause-rest : goal.remove_in_fields-returns-in-Some-clause-rest
remove_in_fields-returns-in-Some-clause-rest t c =
    let w = c.remove_at.new.value in
    let lent = from_some c.get_mut.result c.in-Some.part _ c.in-Some.is (c.get_mut.follows.holds w) in
    lent ∙ removed_in_field c.args.name.now (members_of c.args.fields.now) c.args.steps.now (tree_of c.in-Some.part.now) (tree_of w) c.in-Some.ensures.value c.remove_at.ensures.rest

pub remove_in_items-returns-in-Some-clause-rest : goal.remove_in_items-returns-in-Some-clause-rest
remove_in_items-returns-in-Some-clause-rest t c =
    let w = c.remove_at.new.value in
    let lent = from_some c.get_mut.result c.in-Some.part _ c.in-Some.is (c.get_mut.follows.holds w) in
    lent ∙ removed_in_item c.args.place (items_of c.args.items.now) c.args.steps.now (tree_of c.in-Some.part.now) (tree_of w) c.in-Some.ensures.value c.remove_at.ensures.rest

pub remove_at-returns-in_default-clause-value : goal.remove_at-returns-in_default-clause-value
remove_at-returns-in_default-clause-value t c = grind (arith, common_steps)

pub remove_at-returns-in_default-clause-rest : goal.remove_at-returns-in_default-clause-rest
remove_at-returns-in_default-clause-rest t c = grind (arith, common_steps)

pub remove_at-returns-then-is_empty-clause-value : goal.remove_at-returns-then-is_empty-clause-value
remove_at-returns-then-is_empty-clause-value t c = grind (arith, common_steps)

pub remove_at-returns-then-is_empty-clause-rest : goal.remove_at-returns-then-is_empty-clause-rest
remove_at-returns-then-is_empty-clause-rest t c = grind (arith, common_steps)

pub remove_at-returns-in-Object-clause-value : goal.remove_at-returns-in-Object-clause-value
remove_at-returns-in-Object-clause-value t c = grind (the_lemmas, arith, common_steps)

pub remove_at-returns-in-Object-clause-rest : goal.remove_at-returns-in-Object-clause-rest
remove_at-returns-in-Object-clause-rest t c = grind (the_lemmas, arith, common_steps)

pub remove_at-returns-in-List-clause-value : goal.remove_at-returns-in-List-clause-value
remove_at-returns-in-List-clause-value t c = grind (the_lemmas, arith, common_steps)

pub remove_at-returns-in-List-clause-rest : goal.remove_at-returns-in-List-clause-rest
remove_at-returns-in-List-clause-rest t c = grind (the_lemmas, arith, common_steps)

pub remove_at_place-returns-in_default-clause-value : goal.remove_at_place-returns-in_default-clause-value
remove_at_place-returns-in_default-clause-value t c =
    let ts = items_of c.args.items.now in
    let none : place_of (count_of ts) c.args.place ≡ None = search rules in
    sym (read_before_first ts c.args.place c.args.steps.now none)

pub remove_at_place-returns-in_default-clause-rest : goal.remove_at_place-returns-in_default-clause-rest
remove_at_place-returns-in_default-clause-rest t c =
    let ts = items_of c.args.items.now in
    let none : place_of (count_of ts) c.args.place ≡ None = search rules in
    removed_before_first ts c.args.place c.args.steps.now none

pub remove_at_place-returns-clause-value : goal.remove_at_place-returns-clause-value
remove_at_place-returns-clause-value t c =
    let ts = items_of c.args.items.now in
    let is : place_of (count_of ts) c.args.place ≡ Some c.in-Some.index = search rules in
    c.remove_in_items.ensures.value ∙ removable_at_place ts c.args.place c.in-Some.index c.args.steps.now c.requires is

pub remove_at_place-returns-clause-rest : goal.remove_at_place-returns-clause-rest
remove_at_place-returns-clause-rest t c =
    let ts = items_of c.args.items.now in
    let is : place_of (count_of ts) c.args.place ≡ Some c.in-Some.index = search rules in
    ap array c.remove_in_items.ensures.rest ∙ removed_at_place ts c.args.place c.in-Some.index c.args.steps.now c.requires is
