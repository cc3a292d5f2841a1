-- Known parts that are gathered one after the other.
use Rattle.std.proofs.Common.{◌≡◌, ◌==◌, ℕ, suc, ◌+◌, ◌<◌, ◌≤◌, Bool, true, false, List, [], ◌∷◌, ◌++◌, length, drop, get_or, take, String, Global, Less, string_bytes, string_cmp, refl, sym, ap, ◌∙◌, subst, append_assoc, append-nil, add-one, arith}
use Rattle.std.proofs.lemmas.List.{at_drop_all, at_drop_more, take-append-drop}
use Rattle.std.specs.List.{AllByRecursion}
use Rattle.std.specs.List.Sorted.{IsStrictlySortedBy}
use Rattle.std.specs.Map.{keys_of}
use Rattle.vrl_value.specs.Look.{field, place}
use Rattle.vrl_value.specs.Tree.{Tree, array, Items, no_items, item, Members, no_members, member, IsBefore}
use Rattle.vrl_value.specs.View.{items_view, members_view, tree_of}
use Rattle.vrl_value.specs.declared.value.Value.{Value}
use Rattle.vrl_kind.specs.KindTree.{KindTree}
use Rattle.vrl_kindfile.specs.Faults.{as_description, as_fields, as_part, faults, has_items, items_faults, members_faults, under}
use Rattle.vrl_kindfile.specs.Walk.{AreAlternatives, HaveFields, HavePlaces, IsDescription, IsPart, IsRefusal, NamesAreOrdered}
use Rattle.vrl_kindfile.specs.declared.refusal.Refusal.{Refusal}
use Rattle.vrl_kindfile.proofs.Alternatives.{items_faults-append, list_described, single}
use Rattle.vrl_kindfile.proofs.Refusals.{refused_before}
use Rattle.vrl_kindfile.proofs.Sizes.{items_size}

-- ---- lists of alternatives

has_some : (vs : List Value) (empty : Bool) → empty ≡ (length vs == 0) → empty ≡ false → has_items (items_view vs) ≡ true
has_some [] empty is not_empty =
    let same : true ≡ false = sym is ∙ not_empty in
    cc
has_some (v ∷ vs) empty is not_empty = refl

pub some_items : (vs : List Value) (ts : Items) (empty : Bool) → items_view vs ≡ ts → empty ≡ (length vs == 0) → empty ≡ false → has_items ts ≡ true
some_items vs ts empty view is not_empty = subst (λ us. has_items us ≡ true) view (has_some vs empty is not_empty)

pub list_kind : (vs : List Value) (ts : Items) (empty : Bool) (K : KindTree) → items_view vs ≡ ts → empty ≡ (length vs == 0) → empty ≡ false → AreAlternatives 0 (items_view vs) K → IsDescription (array ts) K
list_kind vs ts empty K view is not_empty of =
    list_described ts K (some_items vs ts empty view is not_empty) (subst (λ us. AreAlternatives 0 us K) view of)

-- a list of one item
only_item : (vs : List Value) (v : Value) → length vs ≡ 1 → v ≡ get_or vs 0 v → items_view vs ≡ item (tree_of v) no_items
only_item [] v one is = absurd (omega arith)
only_item (w ∷ []) v one is = ap (λ x. item (tree_of x) no_items) (sym is)
only_item (w ∷ x ∷ vs) v one is = absurd (omega arith)

pub only_kind : (vs : List Value) (v : Value) (from : ℕ) (K : KindTree) → length vs ≡ 1 → v ≡ get_or vs 0 v → IsDescription (tree_of v) K → AreAlternatives from (items_view vs) K
only_kind vs v from K one is of = subst (λ ts. AreAlternatives from ts K) (sym (only_item vs v one is)) (single from (tree_of v) K of)

-- the halves of a list
pub halves_of : (all front back : List Value) (n : ℕ) → front ≡ take n all → back ≡ drop n all → all ≡ front ++ back
halves_of all front back n first second = rw (first, second) (sym (take-append-drop n all))

pub front_refused : (from : ℕ) (all front back : List Value) (r : Refusal) → all ≡ front ++ back → IsRefusal (items_faults as_description from (items_view front)) r → IsRefusal (items_faults as_description from (items_view all)) r
front_refused from all front back r is first =
    subst (λ paths. IsRefusal paths r) (sym (ap (λ vs. items_faults as_description from (items_view vs)) is ∙ items_faults-append as_description from front back)) (refused_before _ _ r first)

pub back_refused : (from behind : ℕ) (all front back : List Value) (r : Refusal) → all ≡ front ++ back → behind ≡ from + length front → items_faults as_description from (items_view front) ≡ [] → IsRefusal (items_faults as_description behind (items_view back)) r
    → IsRefusal (items_faults as_description from (items_view all)) r
back_refused from behind all front back r is at none first =
    subst (λ paths. IsRefusal paths r) (sym (ap (λ vs. items_faults as_description from (items_view vs)) is ∙ items_faults-append as_description from front back))
    (rw none (subst (λ (n : ℕ). IsRefusal (items_faults as_description n (items_view back)) r) at first))

-- ---- sizes

pub items_size-append : (all xs ys : List Value) → all ≡ xs ++ ys → items_size (items_view all) ≡ items_size (items_view xs) + items_size (items_view ys)
items_size-append all xs ys is = ap (λ vs. items_size (items_view vs)) is ∙ sizes xs ys where
  sizes : (xs ys : List Value) → items_size (items_view (xs ++ ys)) ≡ items_size (items_view xs) + items_size (items_view ys)
  sizes [] ys = omega arith
  sizes (x ∷ xs) ys = omega (arith, sizes xs ys)

pub length-items_size : (vs : List Value) → length vs ≤ items_size (items_view vs)
length-items_size [] = omega arith
length-items_size (v ∷ vs) = omega (arith, length-items_size vs)

-- ---- places

-- the places left, and those left behind the next one
pub next_place : (all : List Value) (i next : ℕ) (v : Value) → i < length all → v ≡ get_or all i v → next ≡ i + 1 → items_view (drop i all) ≡ item (tree_of v) (items_view (drop next all))
next_place all i next v below is at =
    at_drop_more items_view all i v below
    ∙ ap (λ w. item (tree_of w) (items_view (drop (i + 1) all))) (sym is) ∙ ap (λ (n : ℕ). item (tree_of v) (items_view (drop n all))) (sym at)

pub no_place_left : (all : List Value) (i : ℕ) → length all ≤ i → items_view (drop i all) ≡ no_items
no_place_left all i end = at_drop_all items_view all i end

pub place_faultless : (i next : ℕ) (left rest whole : Items) (t : Tree) → left ≡ item t rest → next ≡ i + 1 → items_faults as_part i left ≡ items_faults as_part 0 whole → faults as_part t ≡ [] → items_faults as_part next rest ≡ items_faults as_part 0 whole
place_faultless i next left rest whole t is at same none =
    ap (λ (n : ℕ). items_faults as_part n rest) (at ∙ add-one i) ∙ ap (λ paths. under (place i) paths ++ items_faults as_part (suc i) rest) (sym none) ∙ ap (items_faults as_part i) (sym is) ∙ same

pub place_gathered : (left rest whole : Items) (t : Tree) (K : KindTree) (known now : List KindTree) → left ≡ item t rest → now ≡ known ++ K ∷ [] → IsPart t K
    → ((more : List KindTree) → HavePlaces left more → HavePlaces whole (known ++ more)) → (more : List KindTree) → HavePlaces rest more → HavePlaces whole (now ++ more)
place_gathered left rest whole t K known now is pushed part before more have =
    let whole_has : HavePlaces whole (known ++ K ∷ more) = before (K ∷ more) (subst (λ ts. HavePlaces ts (K ∷ more)) (sym is) (part.tags, have)) in
    subst (HavePlaces whole) (sym (append_assoc known (K ∷ []) more) ∙ ap (λ ks. ks ++ more) (sym pushed)) whole_has

pub places_end : (left whole : Items) (known : List KindTree) → left ≡ no_items → ((more : List KindTree) → HavePlaces left more → HavePlaces whole (known ++ more)) → HavePlaces whole known
places_end left whole known is before = subst (HavePlaces whole) (append-nil known) (before [] (subst (λ ts. HavePlaces ts []) (sym is) tt))

pub places_faultless : (i : ℕ) (left whole : Items) → left ≡ no_items → items_faults as_part i left ≡ items_faults as_part 0 whole → items_faults as_part 0 whole ≡ []
places_faultless i left whole is same = sym same ∙ ap (items_faults as_part i) is

-- ---- fields

abbrev pub Entry : Type 0
Entry = String Global × Value

is_before : (key : String Global) (es : List Entry) → AllByRecursion (λ k. string_cmp key k ≡ Less) (keys_of es) → IsBefore (string_bytes key) (members_view es)
is_before key [] before = tt
is_before key (e ∷ es) before = (before.0, is_before key es before.1)

pub names_ordered : (e : Entry) (es : List Entry) → IsStrictlySortedBy string_cmp (keys_of (e ∷ es)) → NamesAreOrdered (members_view es) → NamesAreOrdered (members_view (e ∷ es))
unfolding IsStrictlySortedBy
names_ordered e es sorted rest = (is_before e.0 es sorted.0, rest)

pub sorted_behind : (e : Entry) (es : List Entry) → IsStrictlySortedBy string_cmp (keys_of (e ∷ es)) → IsStrictlySortedBy string_cmp (keys_of es)
unfolding IsStrictlySortedBy
sorted_behind e es sorted = sorted.1

pub field_faultless : (name : List ℕ) (left rest whole : Members) (t : Tree) → left ≡ member name t rest → members_faults as_fields left ≡ members_faults as_fields whole → faults as_part t ≡ [] → members_faults as_fields rest ≡ members_faults as_fields whole
field_faultless name left rest whole t is same none =
    ap (λ paths. under (field name) paths ++ members_faults as_fields rest) (sym none) ∙ ap (members_faults as_fields) (sym is) ∙ same

pub field_gathered : (name other : List ℕ) (left rest whole : Members) (t : Tree) (K : KindTree) (known now : List (List ℕ × KindTree)) → left ≡ member name t rest → other ≡ name → now ≡ known ++ (other, K) ∷ [] → IsPart t K
    → ((more : List (List ℕ × KindTree)) → HaveFields left more → HaveFields whole (known ++ more)) → (more : List (List ℕ × KindTree)) → HaveFields rest more → HaveFields whole (now ++ more)
field_gathered name other left rest whole t K known now is same pushed part before more have =
    let whole_has : HaveFields whole (known ++ (other, K) ∷ more) = before ((other, K) ∷ more) (subst (λ ms. HaveFields ms ((other, K) ∷ more)) (sym is) (same, part.tags, have)) in
    subst (HaveFields whole) (sym (append_assoc known ((other, K) ∷ []) more) ∙ ap (λ ks. ks ++ more) (sym pushed)) whole_has

pub fields_end : (left whole : Members) (known : List (List ℕ × KindTree)) → left ≡ no_members → ((more : List (List ℕ × KindTree)) → HaveFields left more → HaveFields whole (known ++ more)) → HaveFields whole known
fields_end left whole known is before = subst (HaveFields whole) (append-nil known) (before [] (subst (λ ms. HaveFields ms []) (sym is) tt))

pub fields_faultless : (left whole : Members) → left ≡ no_members → members_faults as_fields left ≡ members_faults as_fields whole → members_faults as_fields whole ≡ []
fields_faultless left whole is same = sym same ∙ ap (members_faults as_fields) is
