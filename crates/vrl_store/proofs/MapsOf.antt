-- The variables that are told: an object of them is the map of them.
use Rattle.std.proofs.Common.{◌≡◌, ℕ, false, List, [], ◌∷◌, Option, Some, None, Ordering, Less, Equal, Greater, is_eq, refl, sym, ap, ◌∙◌, subst, cond}
use Rattle.std.proofs.lemmas.Bool.{or_parts}
use Rattle.std.specs.Cmp.Lexicographic.{slice_cmp}
use Rattle.std.specs.FinMap as finite
use Rattle.std.specs.Ordering.{match_ordering, nat_cmp}
use Rattle.std.specs.Prelude.{IfSome}
use Rattle.vrl_value.specs.Laws.{RegexesStayBelow, TreesStayInOrder}
use Rattle.vrl_value.specs.Tree.{Tree, object, Members, no_members, member, put}
use Rattle.vrl_value.specs.View.{tree_of}
use Rattle.vrl_value.specs.declared.value.Value.{Value}
use Rattle.vrl_store.specs.WellFormed.{IsWellFormed}
use Rattle.vrl_store.specs.Kept.{trees_of}
use Rattle.vrl_store.specs.StoreView.{is_among, map_of, variables_of, with_variable, AreDistinct, Names, Variables}
use Rattle.vrl_store.proofs.Variables.{inserted, itself, insert_swapped, insert_twice, named_so, tied}

-- ---- a member more

untied : (k l : List ℕ) (o : Ordering) → slice_cmp nat_cmp k l ≡ o → is_eq o ≡ false → tied k l ≡ false
untied k l o is other = ap is_eq is ∙ other

map_put_at : (o : Ordering) (k l : List ℕ) (v u : Tree) (ms rest : Members) → slice_cmp nat_cmp k l ≡ o → map_of rest ≡ finite.insert (map_of ms) k v
    → map_of (match_ordering o (member k v (member l u ms)) (member l v ms) (member l u rest)) ≡ finite.insert (finite.insert (map_of ms) l u) k v
map_put_at Less k l v u ms rest is later = refl
map_put_at Equal k l v u ms rest is later =
    let one : k ≡ l = named_so k l (ap is_eq is) in
    subst (λ n. finite.insert (map_of ms) n v ≡ finite.insert (finite.insert (map_of ms) l u) k v) one
    (subst (λ n. finite.insert (map_of ms) k v ≡ finite.insert (finite.insert (map_of ms) n u) k v) one (sym (insert_twice (map_of ms) k v u)))
map_put_at Greater k l v u ms rest is later = ap (λ m. finite.insert m l u) later ∙ sym (insert_swapped (map_of ms) k l v u (untied k l Greater is refl))

map_put : (k : List ℕ) (v : Tree) (ms : Members) → map_of (put k v ms) ≡ finite.insert (map_of ms) k v
map_put k v no_members = refl
map_put k v (member l u ms) = map_put_at (slice_cmp nat_cmp k l) k l v u ms (put k v ms) refl (map_put k v ms)

-- ---- variables over others

-- the variables that are there over those of a map
abbrev pub put_over : Names → List (Option Tree) → Variables → Variables
put_over names [] m = m
put_over [] (v ∷ vs) m = m
put_over (x ∷ names) (v ∷ vs) m = put_over names vs (with_variable x v m)

with_both : (m : Variables) (x y : List ℕ) (v w : Option Tree) → tied y x ≡ false → with_variable x v (with_variable y w m) ≡ with_variable y w (with_variable x v m)
with_both m x y v None other = refl
with_both m x y None (Some w) other = refl
with_both m x y (Some v) (Some w) other = sym (insert_swapped m y x w v other)

-- what has another name may be put first or last
over_with : (names : Names) (vs : List (Option Tree)) (y : List ℕ) (w : Option Tree) (m : Variables) → is_among y names ≡ false
    → put_over names vs (with_variable y w m) ≡ with_variable y w (put_over names vs m)
over_with names [] y w m none = refl
over_with [] (v ∷ vs) y w m none = refl
over_with (x ∷ names) (v ∷ vs) y w m none =
    let apart = or_parts (tied y x) (is_among y names) none in
    ap (put_over names vs) (with_both m x y v w apart.0) ∙ over_with names vs y w (with_variable x v m) apart.1

over_nothing : (names : Names) (vs : List (Option Tree)) → AreDistinct names → put_over names vs finite.empty ≡ variables_of names vs
over_nothing [] [] distinct = refl
over_nothing (x ∷ names) [] distinct = refl
over_nothing [] (v ∷ vs) distinct = refl
over_nothing (x ∷ names) (v ∷ vs) distinct = over_with names vs x v finite.empty distinct.0 ∙ ap (with_variable x v) (over_nothing names vs distinct.1)

-- ---- one by one

pub told_first : (names left : Names) (items rest : List (Option Value)) (ms : Members) → AreDistinct names → left ≡ names → rest ≡ items → ms ≡ no_members
    → put_over left (trees_of rest) (map_of ms) ≡ variables_of names (trees_of items)
told_first names left items rest ms distinct all one none =
    ap (λ l. put_over l (trees_of rest) (map_of ms)) all ∙ ap (λ vs. put_over names (trees_of vs) (map_of ms)) one ∙ ap (λ n. put_over names (trees_of items) (map_of n)) none
    ∙ over_nothing names (trees_of items) distinct

pub told_next : (left others : Names) (name copy : List ℕ) (items rest : List (Option Value)) (v : Value) (ms ns : Members) (all : Variables) → left ≡ name ∷ others → items ≡ Some v ∷ rest
    → copy ≡ name → ns ≡ put copy (tree_of v) ms → put_over left (trees_of items) (map_of ms) ≡ all → put_over others (trees_of rest) (map_of ns) ≡ all
told_next left others name copy items rest v ms ns all first next same given so_far =
    ap (λ m. put_over others (trees_of rest) m) (ap map_of given ∙ map_put copy (tree_of v) ms ∙ ap (λ n. finite.insert (map_of ms) n (tree_of v)) same)
    ∙ ap (λ vs. put_over (name ∷ others) (trees_of vs) (map_of ms)) (sym next)
    ∙ ap (λ l. put_over l (trees_of items) (map_of ms)) (sym first)
    ∙ so_far

-- ---- well-formed

others_absent : (names : Names) (vs : List (Option Tree)) (m : Variables) (x : List ℕ) → is_among x names ≡ false → finite.get (put_over names vs m) x ≡ finite.get m x
others_absent names [] m x none = refl
others_absent [] (v ∷ vs) m x none = refl
others_absent (y ∷ names) (None ∷ vs) m x none = others_absent names vs m x (or_parts (tied x y) (is_among x names) none).1
others_absent (y ∷ names) (Some v ∷ vs) m x none =
    let apart = or_parts (tied x y) (is_among x names) none in
    others_absent names vs (finite.insert m y v) x apart.1 ∙ inserted m y v x ∙ ap (λ b. cond b (Some v) (finite.get m x)) apart.0

-- a variable that is told is found under its name in all that are
found_all : (left others : Names) (name : List ℕ) (items rest : List (Option Value)) (v : Value) (ms : Members) (all : Variables) → AreDistinct left → left ≡ name ∷ others → items ≡ Some v ∷ rest
    → put_over left (trees_of items) (map_of ms) ≡ all → finite.get all name ≡ Some (tree_of v)
found_all left others name items rest v ms all distinct first next so_far =
    let apart = (subst AreDistinct first distinct).0 in
    ap (λ m. finite.get m name) (sym so_far)
    ∙ ap (λ l. finite.get (put_over l (trees_of items) (map_of ms)) name) first
    ∙ ap (λ vs. finite.get (put_over (name ∷ others) (trees_of vs) (map_of ms)) name) next
    ∙ others_absent others (trees_of rest) (finite.insert (map_of ms) name (tree_of v)) name apart
    ∙ inserted (map_of ms) name (tree_of v) name
    ∙ ap (λ b. cond b (Some (tree_of v)) (finite.get (map_of ms) name)) (itself name)

pub formed_next : (order : TreesStayInOrder) (below : RegexesStayBelow) (left others : Names) (name copy : List ℕ) (items rest : List (Option Value)) (v : Value) (ms ns : Members) (all : Variables)
    → AreDistinct left → left ≡ name ∷ others → items ≡ Some v ∷ rest → copy ≡ name → ns ≡ put copy (tree_of v) ms → put_over left (trees_of items) (map_of ms) ≡ all
    → (count : ℕ) → ((x : List ℕ) → IfSome (finite.get all x) (IsWellFormed count)) → IsWellFormed count (object ms) → IsWellFormed count (object ns)
formed_next order below left others name copy items rest v ms ns all distinct first next same given so_far count formed before =
    let found = found_all left others name items rest v ms all distinct first next so_far in
    let one : IsWellFormed count (tree_of v) = subst (λ found. IfSome found (IsWellFormed count)) found (formed name) in
    subst (λ ms. IsWellFormed count (object ms)) (sym given) (record {
      ordered = order.ordered_put copy (tree_of v) ms one.ordered before.ordered;
      below = below.below_put count copy (tree_of v) ms one.below before.below;
    })
