use Rattle.std.proofs.Common.{◌≡◌, ◌≤◌, String, Global, string_cmp, Bor, option_map, rules, refl, sym, ap, ◌∙◌, subst, length, arith}
use Rattle.std.proofs.lemmas.Bool.{ltb-true}
use Rattle.std.proofs.lemmas.Bool.Decides.{nat_tests}
use Rattle.std.specs.List.Sorted.{IsStrictlySortedBy}
use Rattle.std.specs.Map.{keys_of}
use Rattle.vrl_value.specs.Look.{item_at}
use Rattle.vrl_value.specs.Tree.{string, integer, boolean, null, timestamp, regex, array, object}
use Rattle.vrl_value.specs.View.{tree_of, items_of, items_view, members_of, members_view}
use Rattle.vrl_value.specs.declared.value.Value.{Value, the_lemmas}
use Rattle.vrl_kind.specs.KindTree.{KindTree}
use Rattle.vrl_kind.specs.Canonical.{place_or, rest_kind, bare_rest, with_absent}
use Rattle.vrl_kind.specs.Kinds.{Inhabits}
use Rattle.vrl_kind.specs.Membership.{PartInhabits, MembersInhabit, IsFound, IsLacking}
use Rattle.vrl_kind.specs.Seen.{part_rest, seen_tree}
use Rattle.vrl_kind.specs.View.{places_view, fields_view}
use Rattle.vrl_kind.proofs.Ahead.{fields_sorted}
use Rattle.vrl_kind.proofs.Inclusion.{none}
use Rattle.vrl_kind.proofs.Inhabiting.{any_inhabits, part_moved, both_moved, value_moved, lacking_inhabits, item_there, item_beyond, items_well, string_inhabits, integer_inhabits, boolean_inhabits, null_inhabits, timestamp_inhabits, regex_inhabits, array_inhabits, no_array_inhabits, object_inhabits, no_object_inhabits, first_before, sorted_behind, left_out}
use Rattle.vrl_kind.proofs.Sizes.{value_size, size_of, members_size}
use Rattle.vrl_kind.proofs.membership.+inhabits.Goals as goal
use borrow.Author.Count.{below_more}

pub item_inhabits-seen_inhabits-requires : goal.item_inhabits-seen_inhabits-requires
item_inhabits-seen_inhabits-requires t c = (omega (arith, c.decreases, value_size _ _ _ (ltb-true _ _ (sym c.in-Some.ensures.lookup.0)) c.in-Some.ensures.lookup.1), tt)

pub item_inhabits-returns-in-Some : goal.item_inhabits-returns-in-Some
item_inhabits-returns-in-Some t c = both_moved _ _ _ _ _ (item_there _ _ _ (ltb-true _ _ (sym c.in-Some.ensures.lookup.0)) c.in-Some.ensures.lookup.1) refl c.seen_inhabits.ensures

pub item_inhabits-returns-in-None : goal.item_inhabits-returns-in-None
item_inhabits-returns-in-None t c =
    let above : length {A = Value} c.args.items.now ≤ c.args.at = grind (arith, nat_tests, c.in-None.ensures.lookup.0) in
    both_moved _ _ _ _ _ (item_beyond _ _ above) refl (lacking_inhabits c.args.place.absent (bare_rest (part_rest c.args.place.part)))

pub items_inhabit-returns-then-not-item_inhabits : goal.items_inhabit-returns-then-not-item_inhabits
items_inhabit-returns-then-not-item_inhabits t c = (λ is. none _ is, λ all. c.if-not-item_inhabits.ensures.1 (part_moved _ _ _ _ refl (sym c.place.ensures.kind) (all c.loop-at.at)))

pub items_inhabit-loop-at-preserved : goal.items_inhabit-loop-at-preserved
items_inhabit-loop-at-preserved t c =
    below_more (λ i. PartInhabits (item_at i (items_view c.args.items.now)) (place_or (places_view c.args.list.places.now) (rest_kind (part_rest c.args.list.rest)) i)) c.loop-at.at c.loop-at.invariant (part_moved _ _ _ _ refl c.place.ensures.kind (c.if-not-item_inhabits.ensures.0 refl))

pub items_inhabit-returns : goal.items_inhabit-returns
items_inhabit-returns t c =
    let a : length {A = Value} c.args.items.now ≤ c.loop-at.at = omega (arith, c.max-at-end.ensures) in
    let b : length {A = KindTree} c.args.list.places.now ≤ c.loop-at.at = omega (arith, c.max-at-end.ensures) in
    (λ is. items_well c.args.items.now c.args.list.places.now (part_rest c.args.list.rest) c.loop-at.at a b c.loop-at.invariant, λ all. refl)

pub seen_inhabits-returns-in-Any : goal.seen_inhabits-returns-in-Any
seen_inhabits-returns-in-Any t c =
    (λ is. subst (λ q. Inhabits (tree_of c.args.value.now) (with_absent c.args.seen.absent (bare_rest (part_rest q)))) (sym c.in-Any.is) (any_inhabits c.args.seen.absent (tree_of c.args.value.now)), λ h. refl)

pub seen_inhabits-fields_inhabit-requires : goal.seen_inhabits-fields_inhabit-requires
seen_inhabits-fields_inhabit-requires t c =
    let e : tree_of c.args.value.now ≡ object (members_of c.in-Object.fields) = ap tree_of c.in-Object.is ∙ search (rules, the_lemmas) in
    (omega (arith, c.decreases, ap size_of e), fields_sorted _ c.in-Some-object.ensures.canonical.0)

pub seen_inhabits-returns-in-Text : goal.seen_inhabits-returns-in-Text
seen_inhabits-returns-in-Text t c =
    let e : tree_of c.args.value.now ≡ string c.in-Text.field-0 = ap tree_of c.in-Text.is ∙ search (rules, the_lemmas) in
    value_moved _ _ _ _ e (string_inhabits _ _ _ c.scalars.ensures)

pub seen_inhabits-returns-in-Int : goal.seen_inhabits-returns-in-Int
seen_inhabits-returns-in-Int t c =
    let e : tree_of c.args.value.now ≡ integer c.in-Int.field-0 = ap tree_of c.in-Int.is ∙ search (rules, the_lemmas) in
    value_moved _ _ _ _ e (integer_inhabits _ _ _ c.scalars-in-Int.ensures)

pub seen_inhabits-returns-in-Bool : goal.seen_inhabits-returns-in-Bool
seen_inhabits-returns-in-Bool t c =
    let e : tree_of c.args.value.now ≡ boolean c.in-Bool.field-0 = ap tree_of c.in-Bool.is ∙ search (rules, the_lemmas) in
    value_moved _ _ _ _ e (boolean_inhabits _ _ _ c.scalars-in-Bool.ensures)

pub seen_inhabits-returns-in-Null : goal.seen_inhabits-returns-in-Null
seen_inhabits-returns-in-Null t c =
    let e : tree_of c.args.value.now ≡ null = ap tree_of c.in-Null.is ∙ search (rules, the_lemmas) in
    value_moved _ _ _ _ e (null_inhabits _ _ c.scalars-in-Null.ensures)

pub seen_inhabits-returns-in-Time : goal.seen_inhabits-returns-in-Time
seen_inhabits-returns-in-Time t c =
    let e : tree_of c.args.value.now ≡ timestamp c.in-Time.field-0 = ap tree_of c.in-Time.is ∙ search (rules, the_lemmas) in
    value_moved _ _ _ _ e (timestamp_inhabits _ _ _ c.scalars-in-Time.ensures)

pub seen_inhabits-returns-in-Pattern : goal.seen_inhabits-returns-in-Pattern
seen_inhabits-returns-in-Pattern t c =
    let e : tree_of c.args.value.now ≡ regex c.in-Pattern.field-0 = ap tree_of c.in-Pattern.is ∙ search (rules, the_lemmas) in
    value_moved _ _ _ _ e (regex_inhabits _ _ _ c.scalars-in-Pattern.ensures)

pub seen_inhabits-returns-in-None : goal.seen_inhabits-returns-in-None
seen_inhabits-returns-in-None t c =
    let e : tree_of c.args.value.now ≡ array (items_of c.in-List.items) = ap tree_of c.in-List.is ∙ search (rules, the_lemmas) in
    (λ is. none _ is, λ h. absurd (no_array_inhabits _ _ c.in-None.ensures.tree (subst (λ v. Inhabits v (seen_tree c.args.seen)) e h)))

pub seen_inhabits-returns-in-Some : goal.seen_inhabits-returns-in-Some
seen_inhabits-returns-in-Some t c =
    let e : tree_of c.args.value.now ≡ array (items_of c.in-List.items) = ap tree_of c.in-List.is ∙ search (rules, the_lemmas) in
    let whole = array_inhabits (items_view c.as_slice.result.now) _ _ _ c.in-Some.ensures.tree in
    value_moved _ _ _ _ (e ∙ ap array (sym c.as_slice.ensures)) (λ is. whole.0 (c.items_inhabit.ensures.0 is), λ h. c.items_inhabit.ensures.1 (whole.1 h))

pub seen_inhabits-returns-in-None-object : goal.seen_inhabits-returns-in-None-object
seen_inhabits-returns-in-None-object t c =
    let e : tree_of c.args.value.now ≡ object (members_of c.in-Object.fields) = ap tree_of c.in-Object.is ∙ search (rules, the_lemmas) in
    (λ is. none _ is, λ h. absurd (no_object_inhabits _ _ c.in-None-object.ensures.tree (subst (λ v. Inhabits v (seen_tree c.args.seen)) e h)))

pub seen_inhabits-returns-in-Some-object : goal.seen_inhabits-returns-in-Some-object
seen_inhabits-returns-in-Some-object t c =
    let e : tree_of c.args.value.now ≡ object (members_of c.in-Object.fields) = ap tree_of c.in-Object.is ∙ search (rules, the_lemmas) in
    let whole = object_inhabits (members_of c.in-Object.fields) _ _ _ c.in-Some-object.ensures.tree in
    value_moved _ _ _ _ e (λ is. whole.0 (c.fields_inhabit.ensures.0 is), λ h. c.fields_inhabit.ensures.1 (whole.1 h))

pub fields_inhabit-returns-in_default : goal.fields_inhabit-returns-in_default
fields_inhabit-returns-in_default t c =
    let l = c.loop-name in
    let e : String Global × Value = (c.in-Some.name.now, c.in-Some.value.now) in
    let left = c.next.new.self in
    let steps = c.in-Some.ensures.steps in
    let r = part_rest c.args.object.rest in
    let before = first_before e left (subst (λ es. IsStrictlySortedBy string_cmp (keys_of es)) steps l.invariant.ordered) in
    let lacking = subst (λ n. IsLacking n (fields_view l.left.now)) c.as_str.ensures.value c.in_default.ensures in
    (λ is. none _ is, λ all. absurd (lacking (tree_of e.1) (members_view left) r before (subst (λ es. MembersInhabit (members_view es) (fields_view l.left.now) r) steps (l.invariant.same.0 all))))

pub fields_inhabit-returns-then-not-seen_inhabits : goal.fields_inhabit-returns-then-not-seen_inhabits
fields_inhabit-returns-then-not-seen_inhabits t c =
    let l = c.loop-name in
    let e : String Global × Value = (c.in-Some.name.now, c.in-Some.value.now) in
    let left = c.next.new.self in
    let steps = c.in-Some.ensures.steps in
    let r = part_rest c.args.object.rest in
    let before = first_before e left (subst (λ es. IsStrictlySortedBy string_cmp (keys_of es)) steps l.invariant.ordered) in
    let known = option_map (λ (k : Bor KindTree). k.now) c.in-Some-found_from.found.kind in
    let found = subst (λ n. IsFound n (fields_view l.left.now) known (fields_view c.in-Some-found_from.found.behind.now)) c.as_str.ensures.value c.in-Some-found_from.ensures in
    let step = found.same (tree_of e.1) (members_view left) r before in (
      λ is. none _ is,
      λ all. c.if-not-seen_inhabits.ensures.1 (subst (Inhabits (tree_of e.1)) (sym c.known_or_rest.ensures.kind) (step.0 (subst (λ es. MembersInhabit (members_view es) (fields_view l.left.now) r) steps (l.invariant.same.0 all))).0),
    )

pub fields_inhabit-loop-name-preserved : goal.fields_inhabit-loop-name-preserved
fields_inhabit-loop-name-preserved t c =
    let l = c.loop-name in
    let e : String Global × Value = (c.in-Some.name.now, c.in-Some.value.now) in
    let left = c.next.new.self in
    let steps = c.in-Some.ensures.steps in
    let r = part_rest c.args.object.rest in
    let ordered = subst (λ es. IsStrictlySortedBy string_cmp (keys_of es)) steps l.invariant.ordered in
    let most = subst (λ es. members_size (members_view es) ≤ members_size (members_of c.args.fields.now)) steps l.invariant.fewer in
    let known = option_map (λ (k : Bor KindTree). k.now) c.in-Some-found_from.found.kind in
    let found = subst (λ n. IsFound n (fields_view l.left.now) known (fields_view c.in-Some-found_from.found.behind.now)) c.as_str.ensures.value c.in-Some-found_from.ensures in
    let step = found.same (tree_of e.1) (members_view left) r (first_before e left ordered) in
    let value = subst (Inhabits (tree_of e.1)) c.known_or_rest.ensures.kind (c.if-not-seen_inhabits.ensures.0 refl) in record {
      ordered = sorted_behind e left ordered;
      sorted = found.sorted;
      fewer = omega (arith, most);
      same = (
        λ all. (step.0 (subst (λ es. MembersInhabit (members_view es) (fields_view l.left.now) r) steps (l.invariant.same.0 all))).1,
        λ rest. l.invariant.same.1 (subst (λ es. MembersInhabit (members_view es) (fields_view l.left.now) r) (sym steps) (step.1 (value, rest))),
      );
    }

pub fields_inhabit-returns : goal.fields_inhabit-returns
fields_inhabit-returns t c =
    let l = c.loop-name in
    let r = part_rest c.args.object.rest in
    let none_left = c.in-None.ensures.steps.0 in
    let both = left_out c.may_be_left_out.result l.left.now r c.may_be_left_out.ensures l.invariant.sorted in (
      λ is. l.invariant.same.1 (subst (λ es. MembersInhabit (members_view es) (fields_view l.left.now) r) (sym none_left) (both.0 is)),
      λ all. both.1 (subst (λ es. MembersInhabit (members_view es) (fields_view l.left.now) r) none_left (l.invariant.same.0 all)),
    )
