-- A value in which something was removed is of the kind that a removal leaves.
use Rattle.std.proofs.Common.{◌≡◌, ◌≢◌, inl, inr, ℕ, zero, suc, pos, negsuc, ◌<◌, ◌≤◌, true, IsTrue, List, [], ◌∷◌, ◌++◌, Option, Some, None, MatchOption, Ordering, Less, Equal, Greater, refl, sym, ap, ◌∙◌, subst, arith}
use Rattle.std.proofs.lemmas.Bool.{true≢false}
use Rattle.std.proofs.lemmas.Option.{IfSome_then}
use Rattle.std.specs.Cmp.Lexicographic.{slice_cmp}
use Rattle.std.specs.Option.{IfSome, IsSome}
use Rattle.std.specs.Ordering.{nat_cmp}
use Rattle.vrl_value.specs.Look.{Step, field, place, Found, there, missing, no_place, raw_at, part_at, found_if, found_behind, item_at, tag_found}
use Rattle.vrl_value.specs.Parts.{count_of}
use Rattle.vrl_value.specs.Tag.{tag_of}
use Rattle.vrl_value.specs.Tree.{Tree, string, integer, boolean, null, timestamp, regex, array, object, Items, no_items, item}
use Rattle.vrl_value.specs.declared.value.Tag.{Tag}
use Rattle.vrl_value.specs.declared.value.Tag.TheVariants as tag
use Rattle.vrl_path.specs.FromEnd.{part_behind, step_in, steps_in}
use Rattle.vrl_path.specs.Parts.{tree_or_null}
use Rattle.vrl_path.specs.Read.{item_if, place_of, read_at, signed_part_at, signed_raw_at, tree_found}
use Rattle.vrl_path.specs.Remove.{removable_at, IsPlainRemoval, IsRemoved}
use Rattle.vrl_path.specs.Write.{Holds}
use Rattle.vrl_path.specs.declared.path.Step.{Step as CodeStep}
use Rattle.vrl_path.specs.declared.path.Step.TheVariants.{Field, Place}
use Rattle.vrl_kind.specs.Kinds.{step_tag}
use Rattle.vrl_kind.specs.Sets.{Sets, SameSets}
use Rattle.vrl_place.specs.FromEnd.{HasLength, spread}
use Rattle.vrl_place.specs.Read.{allowed}
use Rattle.vrl_place.specs.Remove.{IsLeftSomewhere, IsRemoval, IsTakenAt, IsTakenFromEnd, IsTakenSomewhere, gone, moved, with_part, without_part}
use Rattle.vrl_place.specs.Sets.{or_absent_if, part}
use Rattle.vrl_place.proofs.Counts.{has_count}
use Rattle.vrl_place.proofs.Orders.{equal, one_name, other_name, over, under}
use Rattle.vrl_place.proofs.Removing.{removed_root}
use Rattle.vrl_place.proofs.Tags.{both, right_of}
use Rattle.vrl_place.proofs.Values.{IsIn, by_order, field_same, fitting_tag, place_same, still_allowed}
use Rattle.vrl_place.proofs.Written.{EachIs, in_sets, item_or_absent, items_are, left_in, part_is, right_in, step_is}

abbrev name_in : Step → List ℕ
name_in (field k) = k
name_in (place i) = []

abbrev place_in : Step → ℕ
place_in (field k) = 0
place_in (place i) = i

is_holder : (s : Step) (f : Found) → Holds s f → tag_found f ≡ Some (step_tag s)
is_holder (field k) f h = ap tag_found h
is_holder (place i) f h = ap tag_found h

gone_there : (A : Sets) (q : List Step) → IsTrue (A [] tag.Object) → IfSome (tag_found (found_behind missing q (λ u. raw_at u q))) (λ t. IsTrue (gone (A []) q t))
gone_there A [] h = both _ _ h refl
gone_there A (x ∷ q) h = tt

the_tree : (y z : Tree) → there y ≡ there z → y ≡ z
the_tree y z e = cc

in_part : (f : Found) (u : Tree) (A : Sets) (s : Step) → f ≡ there u → ((q : List Step) → IfSome (tag_found (found_behind f q (λ x. raw_at x q))) (λ t. IsTrue (A (s ∷ q) t))) → IsIn u (allowed (part A s))
in_part f u A s is h q = subst (λ g. IfSome (tag_found (found_behind g q (λ x. raw_at x q))) (λ t. IsTrue (A (s ∷ q) t))) is (h q)

-- the root of a container that stays one
root_stays : (v w x : Tree) (s : Step) (A : Sets) → part_at v s ≡ there x → Holds s (raw_at w []) → IsIn v (allowed A) → IsTrue (A [] (tag_of w))
root_stays v w x s A at holds h =
    subst (λ t. IsTrue (A [] t)) (fitting_tag v s (λ none. cc) ∙ sym (same_tag_of w s (is_holder s (raw_at w []) holds))) (h [])
  where
    same_tag_of : (u : Tree) (y : Step) → Some (tag_of u) ≡ Some (step_tag y) → tag_of u ≡ step_tag y
    same_tag_of u y is = cc

-- ---- the last step

removed_last : (s : Step) (v w x : Tree) (A : Sets) → part_at v s ≡ there x → IsPlainRemoval v (s ∷ []) w → IsIn v (allowed A) → IsIn w (allowed (without_part A s))
removed_last s v w x A at is h [] = root_stays v w x s A at (is.above [] s [] refl) h
removed_last (field k) v w x A at is h (place j ∷ q) =
    subst (λ f. IfSome (tag_found f) (λ t. IsTrue (A (place j ∷ q) t))) (sym (is.beside_field [] k (place j) q refl (λ e. cc))) (h (place j ∷ q))
removed_last (field k) v w x A at is h (field l ∷ q) =
    let object_there : IsTrue (A [] tag.Object) = subst (λ t. IsTrue (A [] t)) (fitting_tag v (field k) (λ none. cc)) (h []) in
    let beside : l ≢ k → IfSome (tag_found (raw_at w (field l ∷ q))) (λ t. IsTrue (A (field l ∷ q) t)) =
    λ ne. subst (λ f. IfSome (tag_found f) (λ t. IsTrue (A (field l ∷ q) t))) (sym (is.beside_field [] k (field l) q refl (λ e. ne (ap name_in e)))) (h (field l ∷ q)) in
    by_order (slice_cmp nat_cmp l k) _ _ _ _
    (λ o. beside (other_name Less l k o (λ e. cc)))
    (λ o. subst (λ f. IfSome (tag_found f) (λ t. IsTrue (gone (A []) q t))) (sym (ap (λ m. raw_at w (field m ∷ q)) (one_name l k o) ∙ is.field_gone [] k q refl)) (gone_there A q object_there))
    (λ o. beside (other_name Greater l k o (λ e. cc)))
removed_last (place i) v w x A at is h (field l ∷ q) =
    subst (λ f. IfSome (tag_found f) (λ t. IsTrue (A (field l ∷ q) t))) (sym (is.field_at_place [] i l q refl)) (h (field l ∷ q))
removed_last (place i) v w x A at is h (place j ∷ q) =
    let moves : i ≤ j → IfSome (tag_found (raw_at w (place j ∷ q))) (λ t. IsTrue (moved A i (place j) q t)) =
    λ over. subst (λ f. IfSome (tag_found f) (λ t. IsTrue (moved A i (place j) q t))) (sym (is.behind_place [] i j q refl over))
    (IfSome_then (tag_found (raw_at v (place (suc j) ∷ q))) (h (place (suc j) ∷ q)) (λ u a. still_allowed _ (part A (place (suc j))) q u a)) in
    by_order (nat_cmp j i) _ _ _ _
    (λ o. subst (λ f. IfSome (tag_found f) (λ t. IsTrue (A (place j ∷ q) t))) (sym (is.before_place [] i j q refl (under j i o))) (h (place j ∷ q)))
    (λ o. let same : j ≡ i = equal j i o in moves (omega arith))
    (λ o. let more : i < j = over j i o in moves (omega arith))

-- ---- a step on the way

-- the part behind the step has the rest of the removal, and beside it all is as it was
record PartRemoved (v w x : Tree) (s : Step) (ps : List Step) : Type 0 where
  pub part : Tree
  pub at : part_at w s ≡ there part
  pub removal : IsPlainRemoval x ps part
  pub beside : (t : Step) → t ≢ s → (b : List Step) → raw_at w (t ∷ b) ≡ raw_at v (t ∷ b)
  pub root : Holds s (raw_at w [])

at_part : (v x : Tree) (s : Step) (a : List Step) → part_at v s ≡ there x → raw_at v (s ∷ a) ≡ raw_at x a
at_part v x s a at = ap (λ f. found_behind f a (λ u. raw_at u a)) at

held : (f : Found) (u : Step) → Holds u (found_behind {S = Step} f [] (λ x. raw_at x [])) → (t : Tree) × (f ≡ there t)
held (there t) u h = (t, refl)
held missing (field k) h = cc
held missing (place i) h = cc
held no_place (field k) h = cc
held no_place (place i) h = cc

part_removed : (v w x : Tree) (s u : Step) (ps : List Step) → part_at v s ≡ there x → IsPlainRemoval v (s ∷ u ∷ ps) w → PartRemoved v w x s (u ∷ ps)
part_removed v w x s u ps at is =
    let found = held (part_at w s) u (is.above (s ∷ []) u ps refl) in
    let t = found.0 in
    let now : (a : List Step) → raw_at w (s ∷ a) ≡ raw_at t a = λ a. at_part w t s a found.1 in
    let was : (a : List Step) → raw_at v (s ∷ a) ≡ raw_at x a = λ a. at_part v x s a at in
    record {
      part = t;
      at = found.1;
      removal = record {
        above = λ a y r e. subst (Holds y) (now a) (is.above (s ∷ a) y r (ap (λ z. s ∷ z) e));
        beside = λ a y z c r b e ne. sym (now (a ++ z ∷ b)) ∙ is.beside (s ∷ a) y z c r b (ap (λ d. s ∷ d) e) ne ∙ was (a ++ z ∷ b);
        field_gone = λ a k b e. sym (now (a ++ field k ∷ b)) ∙ is.field_gone (s ∷ a) k b (ap (λ d. s ∷ d) e);
        beside_field = λ a k z b e ne. sym (now (a ++ z ∷ b)) ∙ is.beside_field (s ∷ a) k z b (ap (λ d. s ∷ d) e) ne ∙ was (a ++ z ∷ b);
        before_place = λ a i j b e less. sym (now (a ++ place j ∷ b)) ∙ is.before_place (s ∷ a) i j b (ap (λ d. s ∷ d) e) less ∙ was (a ++ place j ∷ b);
        behind_place = λ a i j b e more. sym (now (a ++ place j ∷ b)) ∙ is.behind_place (s ∷ a) i j b (ap (λ d. s ∷ d) e) more ∙ was (a ++ place (suc j) ∷ b);
        field_at_place = λ a i l b e. sym (now (a ++ field l ∷ b)) ∙ is.field_at_place (s ∷ a) i l b (ap (λ d. s ∷ d) e) ∙ was (a ++ field l ∷ b);
      };
      beside = λ y ne b. is.beside [] s y u ps b refl ne;
      root = is.above [] s (u ∷ ps) refl;
    }

removed_with : (s : Step) (v w x : Tree) (ps : List Step) (A W : Sets) (is : PartRemoved v w x s ps) → part_at v s ≡ there x → IsIn v (allowed A) → IsIn is.part (allowed W) → IsIn w (allowed (with_part A s W))
removed_with s v w x ps A W is at h new [] = root_stays v w x s A at is.root h
removed_with (field k) v w x ps A W is at h new (place j ∷ q) =
    subst (λ f. IfSome (tag_found f) (λ t. IsTrue (A (place j ∷ q) t))) (sym (is.beside (place j) (λ e. cc) q)) (h (place j ∷ q))
removed_with (place i) v w x ps A W is at h new (field l ∷ q) =
    subst (λ f. IfSome (tag_found f) (λ t. IsTrue (A (field l ∷ q) t))) (sym (is.beside (field l) (λ e. cc) q)) (h (field l ∷ q))
removed_with (field k) v w x ps A W is at h new (field l ∷ q) =
    let beside : l ≢ k → IfSome (tag_found (raw_at w (field l ∷ q))) (λ t. IsTrue (A (field l ∷ q) t)) =
    λ ne. subst (λ f. IfSome (tag_found f) (λ t. IsTrue (A (field l ∷ q) t))) (sym (is.beside (field l) (λ e. ne (ap name_in e)) q)) (h (field l ∷ q)) in
    by_order (slice_cmp nat_cmp l k) _ _ _ _
    (λ o. beside (other_name Less l k o (λ e. cc)))
    (λ o. subst (λ f. IfSome (tag_found f) (λ t. IsTrue (W q t))) (sym (ap (λ m. raw_at w (field m ∷ q)) (one_name l k o) ∙ at_part w is.part (field k) q is.at)) (new q))
    (λ o. beside (other_name Greater l k o (λ e. cc)))
removed_with (place i) v w x ps A W is at h new (place j ∷ q) =
    let beside : j ≢ i → IfSome (tag_found (raw_at w (place j ∷ q))) (λ t. IsTrue (A (place j ∷ q) t)) =
    λ ne. subst (λ f. IfSome (tag_found f) (λ t. IsTrue (A (place j ∷ q) t))) (sym (is.beside (place j) (λ e. ne (ap place_in e)) q)) (h (place j ∷ q)) in
    by_order (nat_cmp j i) _ _ _ _
    (λ o. let less : j < i = under j i o in beside (λ e. omega arith))
    (λ o. subst (λ f. IfSome (tag_found f) (λ t. IsTrue (W q t))) (sym (ap (λ m. raw_at w (place m ∷ q)) (equal j i o) ∙ at_part w is.part (place i) q is.at)) (new q))
    (λ o. let more : i < j = over j i o in beside (λ e. omega arith))

-- the rest of the path does what its removal says
abbrev Goes_on : List CodeStep → Type 0
Goes_on r = r ≢ [] → (v w : Tree) (A B : Sets) → IsRemoval A r B → IsIn v (allowed A) → IsSome (read_at v r) → IsRemoved v r w → IsIn w (allowed B)

removed_at : (s : Step) (r : List CodeStep) (v w x : Tree) (A B : Sets) → Goes_on r → IsTakenAt A s r (λ C W. IsRemoval C r W) B → part_at v s ≡ there x → IsSome (read_at x r) → IsPlainRemoval v (s ∷ steps_in x r) w → IsIn v (allowed A) → IsIn w (allowed B)
removed_at s [] v w x A B later taken at some is h = in_sets w B (without_part A s) taken (removed_last s v w x A at is h)
removed_at s (u ∷ r) v w x A B later taken at some is h =
    let parted = part_removed v w x s (step_in x u) (steps_in (part_behind x u) r) at is in
    in_sets w B (with_part A s taken.0) taken.2
    (removed_with s v w x (steps_in x (u ∷ r)) A taken.0 parted at h
    (later (λ e. cc) x parted.part (part A s) taken.0 taken.1 (in_part (part_at v s) x A s at (λ q. h (s ∷ q))) some parted.removal))

-- ---- a place that isn't known

spread_last : (ts : Items) (j : ℕ) (w x : Tree) (A W : Sets) → EachIs ts W → part_at (array ts) (place j) ≡ there x → IsPlainRemoval (array ts) (place j ∷ []) w → IsIn (array ts) (allowed A) → IsIn w (allowed (spread A W))
spread_last ts j w x A W each at is h [] = root_stays (array ts) w x (place j) A at (is.above [] (place j) [] refl) h
spread_last ts j w x A W each at is h (field l ∷ q) = subst (λ f. IfSome (tag_found f) (λ t. IsTrue (A (field l ∷ q) t))) (sym (is.field_at_place [] j l q refl)) (h (field l ∷ q))
spread_last ts j w x A W each at is h (place l ∷ q) = by_place (nat_cmp l j) refl
  where
    moves : j ≤ l → IfSome (tag_found (raw_at w (place l ∷ q))) (λ t. IsTrue (or_absent_if true W q t))
    moves more = subst (λ f. IfSome (tag_found f) (λ t. IsTrue (or_absent_if true W q t))) (sym (is.behind_place [] j l q refl more)) (item_or_absent ts W each (suc l) q (item_at (suc l) ts) refl)

    by_place : (o : Ordering) → nat_cmp l j ≡ o → IfSome (tag_found (raw_at w (place l ∷ q))) (λ t. IsTrue (or_absent_if true W q t))
    by_place Less o = subst (λ f. IfSome (tag_found f) (λ t. IsTrue (or_absent_if true W q t))) (sym (is.before_place [] j l q refl (under l j o))) (item_or_absent ts W each l q (item_at l ts) refl)
    by_place Equal o = let same : l ≡ j = equal l j o in moves (omega arith)
    by_place Greater o = let more : j < l = over l j o in moves (omega arith)

spread_with : (ts : Items) (j : ℕ) (w x : Tree) (ps : List Step) (A W : Sets) (is : PartRemoved (array ts) w x (place j) ps) → EachIs ts W → part_at (array ts) (place j) ≡ there x → IsIn is.part (allowed W) → IsIn (array ts) (allowed A) → IsIn w (allowed (spread A W))
spread_with ts j w x ps A W is each at new h [] = root_stays (array ts) w x (place j) A at is.root h
spread_with ts j w x ps A W is each at new h (field l ∷ q) = subst (λ f. IfSome (tag_found f) (λ t. IsTrue (A (field l ∷ q) t))) (sym (is.beside (field l) (λ e. cc) q)) (h (field l ∷ q))
spread_with ts j w x ps A W is each at new h (place l ∷ q) = by_place (nat_cmp l j) refl
  where
    beside : l ≢ j → IfSome (tag_found (raw_at w (place l ∷ q))) (λ t. IsTrue (or_absent_if true W q t))
    beside ne = subst (λ f. IfSome (tag_found f) (λ t. IsTrue (or_absent_if true W q t))) (sym (is.beside (place l) (λ e. ne (ap place_in e)) q)) (item_or_absent ts W each l q (item_at l ts) refl)

    by_place : (o : Ordering) → nat_cmp l j ≡ o → IfSome (tag_found (raw_at w (place l ∷ q))) (λ t. IsTrue (or_absent_if true W q t))
    by_place Less o = let less : l < j = under l j o in beside (λ e. omega arith)
    by_place Equal o =
        subst (λ f. IfSome (tag_found f) (λ t. IsTrue (or_absent_if true W q t))) (sym (ap (λ m. raw_at w (place m ∷ q)) (equal l j o) ∙ at_part w is.part (place j) q is.at))
        (IfSome_then (tag_found (raw_at is.part q)) (new q) (λ t a. still_allowed true W q t a))
    by_place Greater o = let more : j < l = over l j o in beside (λ e. omega arith)

each_left : (ts : Items) (P W : Sets) (r : List CodeStep) (Behind : Sets → Sets → Type 0) → IsLeftSomewhere P r Behind W → EachIs ts P → EachIs ts W
each_left ts P W [] Behind left each l x found = in_sets x W P left (each l x found)
each_left ts P W (u ∷ r) Behind left each l x found = in_sets x W _ left.2 (left_in P left.0 x (each l x found))

removed_somewhere : (r : List CodeStep) (ts : Items) (j : ℕ) (w x : Tree) (A B : Sets) → Goes_on r → IsTakenSomewhere A r (λ C W. IsRemoval C r W) B → item_at j ts ≡ Some x → IsSome (read_at x r) → IsPlainRemoval (array ts) (place j ∷ steps_in x r) w → IsIn (array ts) (allowed A) → IsIn w (allowed B)
removed_somewhere [] ts j w x A B later taken at some is h =
    in_sets w B (spread A taken.left) taken.same
    (spread_last ts j w x A taken.left (each_left ts taken.places taken.left [] (λ C W. IsRemoval C [] W) taken.behind (items_are (array ts) A taken.places taken.are h ts refl)) (ap found_if at) is h)
removed_somewhere (u ∷ r) ts j w x A B later taken at some is h =
    let parted = part_removed (array ts) w x (place j) (step_in x u) (steps_in (part_behind x u) r) (ap found_if at) is in
    let each : EachIs ts taken.places = items_are (array ts) A taken.places taken.are h ts refl in
    let new : IsIn parted.part (allowed taken.behind.0) = later (λ e. cc) x parted.part taken.places taken.behind.0 taken.behind.1 (each j x at) some parted.removal in
    in_sets w B (spread A taken.left) taken.same
    (spread_with ts j w x (steps_in x (u ∷ r)) A taken.left parted (each_left ts taken.places taken.left (u ∷ r) (λ C W. IsRemoval C (u ∷ r) W) taken.behind each) (ap found_if at)
    (in_sets parted.part taken.left _ taken.behind.2 (right_in taken.places taken.behind.0 parted.part new)) h)

-- ---- what stands at a first step

record FoundFirst (f : Found) (r : List CodeStep) : Type 0 where
  pub tree : Tree
  pub is : f ≡ there tree
  pub more : IsSome (read_at tree r)

found_first : (f : Found) (r : List CodeStep) → IsSome (tree_found (found_behind f r (λ u. signed_raw_at u r))) → FoundFirst f r
found_first (there x) r some = record { tree = x; is = refl; more = some }
found_first missing [] some = absurd (true≢false (sym some))
found_first missing (s ∷ r) some = absurd (true≢false (sym some))
found_first no_place r some = absurd (true≢false (sym some))

-- a part of an array that is counted from the end
record PlaceFound (v x : Tree) (i : ℕ) : Type 0 where
  pub items : Items
  pub array_is : v ≡ array items
  pub place : ℕ
  pub counted : place_of (count_of items) (negsuc i) ≡ Some place
  pub at : item_at place items ≡ Some x

found_item : (o : Option Tree) (x : Tree) → found_if o ≡ there x → o ≡ Some x
found_item None x is = cc
found_item (Some y) x is = ap Some (the_tree y x is)

item_found : (o : Option ℕ) (ts : Items) (x : Tree) (i : ℕ) → place_of (count_of ts) (negsuc i) ≡ o → item_if o ts ≡ there x → PlaceFound (array ts) x i
item_found None ts x i is found = cc
item_found (Some j) ts x i is found = record { items = ts; array_is = refl; place = j; counted = is; at = found_item (item_at j ts) x found }

place_found : (v x : Tree) (i : ℕ) → signed_part_at v (Place (negsuc i)) ≡ there x → PlaceFound v x i
place_found (string y) x i is = cc
place_found (integer y) x i is = cc
place_found (boolean y) x i is = cc
place_found null x i is = cc
place_found (timestamp y) x i is = cc
place_found (regex y) x i is = cc
place_found (array ts) x i is = item_found (place_of (count_of ts) (negsuc i)) ts x i refl is
place_found (object ms) x i is = cc

removed_counted : (o : Option ℕ) (j : ℕ) (r : List CodeStep) (A B : Sets) → o ≡ Some j → MatchOption o (SameSets B A) (λ k. IsTakenAt A (place k) r (λ C W. IsRemoval C r W) B) → IsTakenAt A (place j) r (λ C W. IsRemoval C r W) B
removed_counted o j r A B is taken = subst (λ x. MatchOption x (SameSets B A) (λ k. IsTakenAt A (place k) r (λ C W. IsRemoval C r W) B)) is taken

removed_end : (r : List CodeStep) (i : ℕ) (ts : Items) (j : ℕ) (w x : Tree) (A B : Sets) → Goes_on r → IsTakenFromEnd A (negsuc i) r (λ C W. IsRemoval C r W) B → place_of (count_of ts) (negsuc i) ≡ Some j → item_at j ts ≡ Some x → IsSome (read_at x r)
    → IsPlainRemoval (array ts) (place j ∷ steps_in x r) w → IsIn (array ts) (allowed A) → IsIn w (allowed B)
removed_end r i ts j w x A B later (inl taken) counted at some is h = absurd (true≢false (sym (h []) ∙ taken.0))
removed_end r i ts j w x A B later (inr (inl taken)) counted at some is h =
    removed_at (place j) r (array ts) w x A B later
    (removed_counted (place_of taken.0 (negsuc i)) j r A B (ap (λ count. place_of count (negsuc i)) (sym (has_count ts A taken.0 h taken.1)) ∙ counted) taken.2)
    (ap found_if at) some is h
removed_end r i ts j w x A B later (inr (inr taken)) counted at some is h = removed_somewhere r ts j w x A B later taken.1 at some is h

removed_in : (r : List CodeStep) → Goes_on r
removed_in [] some v w A B taken h found is = absurd (some refl)
removed_in (Field k ∷ r) some v w A B taken h found is =
    let first = found_first (signed_part_at v (Field k)) r found in
    let at : part_at v (field k) ≡ there first.tree = field_same v k ∙ first.is in
    removed_at (field k) r v w first.tree A B (removed_in r) taken at first.more (subst (λ x. IsPlainRemoval v (field k ∷ steps_in x r) w) (ap tree_or_null at) is) h
removed_in (Place (pos i) ∷ r) some v w A B taken h found is =
    let first = found_first (signed_part_at v (Place (pos i))) r found in
    let at : part_at v (place i) ≡ there first.tree = place_same v i ∙ first.is in
    removed_at (place i) r v w first.tree A B (removed_in r) taken at first.more (subst (λ x. IsPlainRemoval v (place i ∷ steps_in x r) w) (ap tree_or_null at) is) h
removed_in (Place (negsuc i) ∷ r) some v w A B taken h found is =
    let first = found_first (signed_part_at v (Place (negsuc i))) r found in
    let it = place_found v first.tree i first.is in
    let j = it.place in
    let whole : IsPlainRemoval (array it.items) (steps_in (array it.items) (Place (negsuc i) ∷ r)) w = subst (λ u. IsPlainRemoval u (steps_in u (Place (negsuc i) ∷ r)) w) it.array_is is in
    let part_there : part_behind (array it.items) (Place (negsuc i)) ≡ first.tree = part_is (array it.items) (negsuc i) j it.counted ∙ ap (λ o. tree_or_null (found_if o)) it.at in
    removed_end r i it.items j w first.tree A B (removed_in r) taken it.counted it.at first.more
    (subst (λ x. IsPlainRemoval (array it.items) (place j ∷ steps_in x r) w) part_there
    (subst (λ y. IsPlainRemoval (array it.items) (y ∷ steps_in (part_behind (array it.items) (Place (negsuc i))) r) w) (step_is (array it.items) (negsuc i) j it.counted) whole))
    (subst (λ u. IsIn u (allowed A)) it.array_is h)

pub removed_inhabits : (v w : Tree) (p : List CodeStep) (A B : Sets) → IsRemoval A p B → IsIn v (allowed A) → IsSome (removable_at v p) → IsRemoved v p w → IsIn w (allowed B)
removed_inhabits v w [] A B taken h some is = absurd (true≢false (sym some))
removed_inhabits v w (s ∷ r) A B taken h some is = removed_in (s ∷ r) (λ e. cc) v w A B taken h some is

-- ---- a value in which nothing can be removed

none_behind : (ts : Items) (i j : ℕ) → item_at i ts ≡ None → i ≤ j → item_at j ts ≡ None
none_behind no_items i j none over = refl
none_behind (item t ts) zero j none over = cc
none_behind (item t ts) (suc i) zero none over = absurd (omega arith)
none_behind (item t ts) (suc i) (suc j) none over = none_behind ts i j none (omega arith)

gone_part : (f : Found) (A : Sets) (q : List Step) → tree_found f ≡ None → (f ≢ no_place → IsTrue (A [] tag.Object)) → IfSome (tag_found (found_behind f q (λ u. raw_at u q))) (λ t. IsTrue (gone (A []) q t))
gone_part (there u) A q none there_is = cc
gone_part missing A q none there_is = gone_there A q (there_is (λ e. cc))
gone_part no_place A q none there_is = tt

moved_part : (f : Found) (A : Sets) (i j : ℕ) (q : List Step) → tree_found f ≡ None → (f ≡ missing → IsTrue (A (place i ∷ []) tag.Absent)) → IfSome (tag_found (found_behind f q (λ u. raw_at u q))) (λ t. IsTrue (moved A i (place j) q t))
moved_part (there u) A i j q none absent = cc
moved_part missing A i j [] none absent = right_of _ _ (both _ _ (absent refl) refl)
moved_part missing A i j (x ∷ q) none absent = tt
moved_part no_place A i j q none absent = tt

item_missing : (o : Option Tree) → tree_found (found_if o) ≡ None → o ≡ None
item_missing None none = refl
item_missing (Some t) none = cc

if_missing : (o : Option Tree) → o ≡ None → tree_found (found_if o) ≡ None
if_missing o none = ap (λ x. tree_found (found_if x)) none

-- from a place at which there is nothing on there is nothing
nothing_from : (v : Tree) (i j : ℕ) → tree_found (part_at v (place i)) ≡ None → i ≤ j → tree_found (part_at v (place j)) ≡ None
nothing_from (string x) i j none over = refl
nothing_from (integer x) i j none over = refl
nothing_from (boolean x) i j none over = refl
nothing_from null i j none over = refl
nothing_from (timestamp x) i j none over = refl
nothing_from (regex x) i j none over = refl
nothing_from (array ts) i j none over = if_missing (item_at j ts) (none_behind ts i j (item_missing (item_at i ts) none) over)
nothing_from (object ms) i j none over = refl

item_lacking : (o : Option Tree) → tree_found (found_if o) ≡ None → found_if o ≡ missing
item_lacking None none = refl
item_lacking (Some t) none = cc

lacking_from : (v : Tree) (i j : ℕ) → tree_found (part_at v (place i)) ≡ None → part_at v (place j) ≡ missing → part_at v (place i) ≡ missing
lacking_from (string x) i j none is = cc
lacking_from (integer x) i j none is = cc
lacking_from (boolean x) i j none is = cc
lacking_from null i j none is = cc
lacking_from (timestamp x) i j none is = cc
lacking_from (regex x) i j none is = cc
lacking_from (array ts) i j none is = item_lacking (item_at i ts) none
lacking_from (object ms) i j none is = cc

absent_there : (f : Found) (P : Tag → Type 0) → f ≡ missing → IfSome (tag_found (found_behind {S = Step} f [] (λ u. raw_at u []))) P → P tag.Absent
absent_there (there u) P is h = cc
absent_there missing P is h = h
absent_there no_place P is h = cc

-- where the last step leads nowhere
kept_last : (s : Step) (v : Tree) (A : Sets) → IsIn v (allowed A) → tree_found (part_at v s) ≡ None → IsIn v (allowed (without_part A s))
kept_last s v A h none [] = h []
kept_last (field k) v A h none (place j ∷ q) = h (place j ∷ q)
kept_last (place i) v A h none (field l ∷ q) = h (field l ∷ q)
kept_last (field k) v A h none (field l ∷ q) =
    by_order (slice_cmp nat_cmp l k) _ _ _ _ (λ o. h (field l ∷ q))
    (λ o. subst (λ m. IfSome (tag_found (raw_at v (field m ∷ q))) (λ t. IsTrue (gone (A []) q t))) (sym (one_name l k o))
    (gone_part (part_at v (field k)) A q none (λ some. subst (λ t. IsTrue (A [] t)) (fitting_tag v (field k) some) (h []))))
    (λ o. h (field l ∷ q))
kept_last (place i) v A h none (place j ∷ q) =
    let moves : i ≤ j → IfSome (tag_found (raw_at v (place j ∷ q))) (λ t. IsTrue (moved A i (place j) q t)) =
    λ at. moved_part (part_at v (place j)) A i j q (nothing_from v i j none at)
    (λ is. absent_there (part_at v (place i)) (λ t. IsTrue (A (place i ∷ []) t)) (lacking_from v i j none is) (h (place i ∷ []))) in
    by_order (nat_cmp j i) _ _ _ _ (λ o. h (place j ∷ q))
    (λ o. let same : j ≡ i = equal j i o in moves (omega arith))
    (λ o. let more : i < j = over j i o in moves (omega arith))

found_nothing : (f : Found) → tree_found (found_behind {S = CodeStep} f [] (λ u. signed_raw_at u [])) ≡ None → tree_found f ≡ None
found_nothing (there u) none = none
found_nothing missing none = refl
found_nothing no_place none = refl

-- a part from which nothing was removed
kept_part : (f : Found) (A W : Sets) (s : Step) (r : List CodeStep) → ((t : Tag) → W [] t ≡ A (s ∷ []) t) → ((q : List Step) → IfSome (tag_found (found_behind f q (λ u. raw_at u q))) (λ t. IsTrue (A (s ∷ q) t)))
    → ((x : Tree) → IsIn x (allowed (part A s)) → read_at x r ≡ None → IsIn x (allowed W)) → tree_found (found_behind f r (λ u. signed_raw_at u r)) ≡ None → (q : List Step) → IfSome (tag_found (found_behind f q (λ u. raw_at u q))) (λ t. IsTrue (W q t))
kept_part (there x) A W s r root h later none q = later x h none q
kept_part missing A W s r root h later none [] = root tag.Absent ∙ h []
kept_part missing A W s r root h later none (y ∷ q) = tt
kept_part no_place A W s r root h later none q = tt

kept_with : (s : Step) (v : Tree) (A W : Sets) → IsIn v (allowed A) → ((q : List Step) → IfSome (tag_found (raw_at v (s ∷ q))) (λ t. IsTrue (W q t))) → IsIn v (allowed (with_part A s W))
kept_with s v A W h new [] = h []
kept_with (field k) v A W h new (place j ∷ q) = h (place j ∷ q)
kept_with (place i) v A W h new (field l ∷ q) = h (field l ∷ q)
kept_with (field k) v A W h new (field l ∷ q) =
    by_order (slice_cmp nat_cmp l k) _ _ _ _ (λ o. h (field l ∷ q))
    (λ o. subst (λ m. IfSome (tag_found (raw_at v (field m ∷ q))) (λ t. IsTrue (W q t))) (sym (one_name l k o)) (new q))
    (λ o. h (field l ∷ q))
kept_with (place i) v A W h new (place j ∷ q) =
    by_order (nat_cmp j i) _ _ _ _ (λ o. h (place j ∷ q))
    (λ o. subst (λ m. IfSome (tag_found (raw_at v (place m ∷ q))) (λ t. IsTrue (W q t))) (sym (equal j i o)) (new q))
    (λ o. h (place j ∷ q))

abbrev Stays_on : List CodeStep → Type 0
Stays_on r = (v : Tree) (A B : Sets) → IsRemoval A r B → IsIn v (allowed A) → read_at v r ≡ None → IsIn v (allowed B)

kept_at : (s : Step) (r : List CodeStep) (v : Tree) (A B : Sets) → Stays_on r → IsTakenAt A s r (λ C W. IsRemoval C r W) B → IsIn v (allowed A) → tree_found (found_behind (part_at v s) r (λ u. signed_raw_at u r)) ≡ None → IsIn v (allowed B)
kept_at s [] v A B later taken h none = in_sets v B (without_part A s) taken (kept_last s v A h (found_nothing (part_at v s) none))
kept_at s (u ∷ r) v A B later taken h none =
    in_sets v B (with_part A s taken.0) taken.2
    (kept_with s v A taken.0 h
    (kept_part (part_at v s) A taken.0 s (u ∷ r) (λ t. removed_root (part A s) taken.0 (u ∷ r) t taken.1) (λ q. h (s ∷ q)) (λ x here. later x (part A s) taken.0 taken.1 here) none))

-- a place that the arrays of a kind have at the same distance from both ends
same_part : (v : Tree) (A : Sets) (count i j : ℕ) → IsIn v (allowed A) → HasLength A count → place_of count (negsuc i) ≡ Some j → signed_part_at v (Place (negsuc i)) ≡ part_at v (place j)
same_part (string x) A count i j h has is = refl
same_part (integer x) A count i j h has is = refl
same_part (boolean x) A count i j h has is = refl
same_part null A count i j h has is = refl
same_part (timestamp x) A count i j h has is = refl
same_part (regex x) A count i j h has is = refl
same_part (array ts) A count i j h has is = ap (λ o. item_if o ts) (ap (λ n. place_of n (negsuc i)) (has_count ts A count h has) ∙ is)
same_part (object ms) A count i j h has is = refl

spread_kept : (v : Tree) (A W : Sets) → IsIn v (allowed A) → ((ts : Items) → v ≡ array ts → EachIs ts W) → IsIn v (allowed (spread A W))
spread_kept v A W h each [] = h []
spread_kept v A W h each (field l ∷ q) = h (field l ∷ q)
spread_kept (string x) A W h each (place l ∷ q) = tt
spread_kept (integer x) A W h each (place l ∷ q) = tt
spread_kept (boolean x) A W h each (place l ∷ q) = tt
spread_kept null A W h each (place l ∷ q) = tt
spread_kept (timestamp x) A W h each (place l ∷ q) = tt
spread_kept (regex x) A W h each (place l ∷ q) = tt
spread_kept (array ts) A W h each (place l ∷ q) = item_or_absent ts W (each ts refl) l q (item_at l ts) refl
spread_kept (object ms) A W h each (place l ∷ q) = tt

kept_counted : (o : Option ℕ) (r : List CodeStep) (v : Tree) (A B : Sets) (count i : ℕ) → Stays_on r → HasLength A count → place_of count (negsuc i) ≡ o → MatchOption o (SameSets B A) (λ j. IsTakenAt A (place j) r (λ C W. IsRemoval C r W) B) → IsIn v (allowed A)
    → tree_found (found_behind (signed_part_at v (Place (negsuc i))) r (λ u. signed_raw_at u r)) ≡ None → IsIn v (allowed B)
kept_counted None r v A B count i later has is taken h none = in_sets v B A taken h
kept_counted (Some j) r v A B count i later has is taken h none =
    kept_at (place j) r v A B later taken h (subst (λ f. tree_found (found_behind f r (λ u. signed_raw_at u r)) ≡ None) (same_part v A count i j h has is) none)

kept_in : (r : List CodeStep) → Stays_on r
kept_in [] v A B taken h none = cc
kept_in (Field k ∷ r) v A B taken h none =
    kept_at (field k) r v A B (kept_in r) taken h (subst (λ f. tree_found (found_behind f r (λ u. signed_raw_at u r)) ≡ None) (sym (field_same v k)) none)
kept_in (Place (pos i) ∷ r) v A B taken h none =
    kept_at (place i) r v A B (kept_in r) taken h (subst (λ f. tree_found (found_behind f r (λ u. signed_raw_at u r)) ≡ None) (sym (place_same v i)) none)
kept_in (Place (negsuc i) ∷ r) v A B (inl taken) h none = in_sets v B A taken.1 h
kept_in (Place (negsuc i) ∷ r) v A B (inr (inl taken)) h none = kept_counted (place_of taken.0 (negsuc i)) r v A B taken.0 i (kept_in r) taken.1 refl taken.2 h none
kept_in (Place (negsuc i) ∷ r) v A B (inr (inr taken)) h none =
    in_sets v B (spread A taken.1.left) taken.1.same
    (spread_kept v A taken.1.left h (λ ts is. each_left ts taken.1.places taken.1.left r (λ C W. IsRemoval C r W) taken.1.behind (items_are v A taken.1.places taken.1.are h ts is)))

pub kept_inhabits : (v : Tree) (p : List CodeStep) (A B : Sets) → IsRemoval A p B → IsIn v (allowed A) → removable_at v p ≡ None → IsIn v (allowed B)
kept_inhabits v [] A B taken h none = in_sets v B A taken h
kept_inhabits v (s ∷ r) A B taken h none = kept_in (s ∷ r) v A B taken h none
