-- A write at a path with far places is that at the path with them near, on longer arrays.
use Rattle.std.proofs.Common.{◌≡◌, inl, inr, ◌⊎◌, ℕ, ℤ, suc, pos, negsuc, ◌+◌, ◌-◌, Bool, true, false, not, ◌||◌, ◌&&◌, List, [], ◌∷◌, Ordering, Less, Equal, Greater, refl, sym, ap, ◌∙◌, subst, arith}
use Rattle.std.specs.Cmp.Lexicographic.{slice_cmp}
use Rattle.std.specs.Ordering.{nat_cmp, match_ordering}
use Rattle.vrl_value.specs.Look.{Step, field, place}
use Rattle.vrl_value.specs.declared.value.Tag.{Tag}
use Rattle.vrl_value.specs.declared.value.Tag.TheVariants as tag
use Rattle.vrl_path.specs.declared.path.Step.{Step as CodeStep}
use Rattle.vrl_path.specs.declared.path.Step.TheVariants.{Field, Place}
use Rattle.vrl_kind.specs.Change.{null_for_absent}
use Rattle.vrl_kind.specs.Kinds.{only_at}
use Rattle.vrl_kind.specs.Parts.{either_at}
use Rattle.vrl_kind.specs.Sets.{Sets, SameSets}
use Rattle.vrl_kind.specs.Stretch.{path_back, place_back}
use Rattle.vrl_kind.specs.declared.stretch.Stretch.{Stretch}
use Rattle.vrl_place.specs.Far.{AreStretchesOf, IsBlunt, near_steps}
use Rattle.vrl_place.specs.FromEnd.{AreSomePlaces, spread}
use Rattle.vrl_kind.specs.Tags.{same_tag}
use Rattle.vrl_place.specs.Sets.{is_alone, or_absent_if, part}
use Rattle.vrl_place.specs.Write.{IsPut, IsPutFromEnd, IsPutSomewhere, IsWrite, opened, or_null, put}
use Rattle.vrl_place.proofs.Orders.{above, below, equal, itself, over, tags_cases, under}
use Rattle.vrl_place.proofs.Same.{one_sets}
use Rattle.vrl_place.proofs.Tags.{one_truth}

-- the sets on the longer arrays
abbrev pub back : List Stretch → Sets → Sets
back zs A p = A (path_back zs p)

-- ---- sets that say the same of all places from the repeated one on

blunt_same : (zs : List Stretch) (A B : Sets) → SameSets A B → IsBlunt zs A → IsBlunt zs B
blunt_same zs A B same blunt = subst (IsBlunt zs) (one_sets A B same) blunt

-- such sets are the same on longer arrays
pub back_same : (zs : List Stretch) (A : Sets) → IsBlunt zs A → SameSets (back zs A) A
back_same zs A blunt [] t = refl
back_same [] A blunt (s ∷ p) t = refl
back_same (z ∷ zs) A blunt (place i ∷ p) t =
    back_same zs (part A (place (place_back z i))) (blunt.1 (place (place_back z i))) p t ∙ blunt.0 i p t
back_same (z ∷ zs) A blunt (field n ∷ p) t = back_same zs (part A (field n)) (blunt.1 (field n)) p t

blunt_absent : (zs : List Stretch) (b : Bool) (A : Sets) → IsBlunt zs A → IsBlunt zs (or_absent_if b A)
blunt_absent [] b A blunt = tt
blunt_absent (z ∷ zs) b A blunt =
    (λ i p t. blunt.0 i p t, λ s. blunt_same zs (part A s) (part (or_absent_if b A) s) (λ p t. refl) (blunt.1 s))

blunt_null : (zs : List Stretch) (A : Sets) → IsBlunt zs A → IsBlunt zs (null_for_absent A)
blunt_null [] A blunt = tt
blunt_null (z ∷ zs) A blunt =
    (λ i p t. blunt.0 i p t, λ s. blunt_same zs (part A s) (part (null_for_absent A) s) (λ p t. refl) (blunt.1 s))

blunt_nothing : (zs : List Stretch) (A : Sets) → ((p : List Step) (t : Tag) → A p t ≡ false) → IsBlunt zs A
blunt_nothing [] A none = tt
blunt_nothing (z ∷ zs) A none =
    (λ i p t. none _ t ∙ sym (none _ t), λ s. blunt_nothing zs (part A s) (λ p t. none (s ∷ p) t))

blunt_either : (zs : List Stretch) (A B : Sets) → IsBlunt zs A → IsBlunt zs B → IsBlunt zs (either_at A B)
blunt_either [] A B first second = tt
blunt_either (z ∷ zs) A B first second = (
  λ i p t. ap (λ b. b || B (place (place_back z i) ∷ p) t) (first.0 i p t)
      ∙ ap (λ b. A (place i ∷ p) t || b) (second.0 i p t),
  λ s. blunt_same zs (either_at (part A s) (part B s)) (part (either_at A B) s) (λ p t. refl)
      (blunt_either zs (part A s) (part B s) (first.1 s) (second.1 s)),
)

no_null : (s : Step) (p : List Step) (t : Tag) → only_at tag.Null (s ∷ p) t ≡ false
no_null (field n) p t = refl
no_null (place i) p t = refl

only_null : (zs : List Stretch) → IsBlunt zs (only_at tag.Null)
only_null [] = tt
only_null (z ∷ zs) = (λ i p t. refl, λ s. blunt_nothing zs (part (only_at tag.Null) s) (λ p t. no_null s p t))

-- what some of the sets F allow
abbrev AreOfSome : (ℕ → Sets) → Sets → Type 0
AreOfSome F A =
    (p : List Step) (t : Tag) → (A p t ≡ true → (k : ℕ) × (F k p t ≡ true)) × ((k : ℕ) → F k p t ≡ true → A p t ≡ true)

blunt_some : (zs : List Stretch) (F : ℕ → Sets) (A : Sets) → ((k : ℕ) → IsBlunt zs (F k)) → AreOfSome F A → IsBlunt zs A
blunt_some [] F A blunt are = tt
blunt_some (z ∷ zs) F A blunt are = (
  λ i p t. moved i p t,
  λ s. blunt_some zs (λ k. part (F k) s) (part A s) (λ k. (blunt k).1 s) (λ p t. are (s ∷ p) t),
)
  where
    moved : (i : ℕ) (p : List Step) (t : Tag) → A (place (place_back z i) ∷ p) t ≡ A (place i ∷ p) t
    moved i p t =
        one_truth (A (place (place_back z i) ∷ p) t) (A (place i ∷ p) t)
        (λ h. let found = (are (place (place_back z i) ∷ p) t).0 h in (are (place i ∷ p) t).1 found.0
        (sym ((blunt found.0).0 i p t) ∙ found.1))
        (λ h. let found = (are (place i ∷ p) t).0 h in (are (place (place_back z i) ∷ p) t).1 found.0
        ((blunt found.0).0 i p t ∙ found.1))

places_behind : (A P : Sets) → AreSomePlaces A P → (s : Step) → AreOfSome (λ k. part (part A (place k)) s) (part P s)
places_behind A P are s p t = (λ h. ((are.at (s ∷ p) t).0 h).0, λ k h. (are.at (s ∷ p) t).1 ((k, h), refl))

pub blunt_places : (z : Stretch) (zs : List Stretch) (A P : Sets) → IsBlunt (z ∷ zs) A → AreSomePlaces A P
    → IsBlunt zs P
blunt_places z [] A P blunt are = tt
blunt_places z (y ∷ zs) A P blunt are = (
  λ i p t. moved i p t,
  λ s. blunt_some zs (λ k. part (part A (place k)) s) (part P s) (λ k. (blunt.1 (place k)).1 s)
      (places_behind A P are s),
)
  where
    moved : (i : ℕ) (p : List Step) (t : Tag) → P (place (place_back y i) ∷ p) t ≡ P (place i ∷ p) t
    moved i p t =
        one_truth (P (place (place_back y i) ∷ p) t) (P (place i ∷ p) t)
        (λ h. let found = ((are.at (place (place_back y i) ∷ p) t).0 h).0 in (are.at (place i ∷ p) t).1
        ((found.0, sym ((blunt.1 (place found.0)).0 i p t) ∙ found.1), refl))
        (λ h. let found = ((are.at (place i ∷ p) t).0 h).0 in (are.at (place (place_back y i) ∷ p) t).1
        ((found.0, (blunt.1 (place found.0)).0 i p t ∙ found.1), refl))

-- ---- absent beside the sets on longer arrays
pub absent_back : (zs : List Stretch) (b : Bool) (A : Sets) (p : List Step) (t : Tag)
    → or_absent_if b A (path_back zs p) t ≡ or_absent_if b (back zs A) p t
absent_back zs b A [] t = refl
absent_back [] b A (s ∷ p) t = refl
absent_back (z ∷ zs) b A (s ∷ p) t = refl

-- ---- a part put at a place
abbrev pub IsMovedTo : Stretch → ℕ → ℕ → Type 0
IsMovedTo z i k = (j : ℕ) → nat_cmp (place_back z j) k ≡ nat_cmp j i

one_place : (A : Sets) (z : Stretch) (i : ℕ) → SameSets (part A (place (place_back z i))) (part A (place i))
    → opened A (place (place_back z i)) ≡ opened A (place i)
one_place A z i same = one_sets (opened A (place (place_back z i))) (opened A (place i)) (λ p t. opened_at p t)
  where
    opened_at : (p : List Step) (t : Tag) → opened A (place (place_back z i)) p t ≡ opened A (place i) p t
    opened_at [] t = ap (λ a. a || (not (is_alone (A []) tag.List) && same_tag t tag.Absent)) (same [] t)
    opened_at (s ∷ p) t = same (s ∷ p) t

put_place : (z : Stretch) (zs : List Stretch) (A : Sets) (i k : ℕ) (W : Sets) → IsBlunt (z ∷ zs) A → IsMovedTo z i k
    → SameSets (back (z ∷ zs) (put A (place k) W)) (put A (place i) (back zs W))
put_place z zs A i k W blunt moved [] t = refl
put_place z zs A i k W blunt moved (field n ∷ q) t = refl
put_place z zs A i k W blunt moved (place j ∷ q) t =
    let here : opened A (place (place_back z j)) ≡ opened A (place j) = one_place A z j (blunt.0 j) in
    let opens : IsBlunt zs (opened A (place j)) = blunt_absent zs _ (part A (place j)) (blunt.1 (place j)) in
    let filled : null_for_absent (opened A (place (place_back z j))) (path_back zs q) t
    ≡ null_for_absent (opened A (place j)) q t =
    ap (λ S. null_for_absent S (path_back zs q) t) here
    ∙ back_same zs (null_for_absent (opened A (place j))) (blunt_null zs (opened A (place j)) opens) q t in
    let other : opened A (place (place_back z j)) (path_back zs q) t ≡ opened A (place j) q t =
    ap (λ S. S (path_back zs q) t) here ∙ back_same zs (opened A (place j)) opens q t in
    by_cases (nat_cmp (place_back z j) k) (nat_cmp j i) (moved j) filled other
  where
    by_cases : (o u : Ordering) → o ≡ u
        → null_for_absent (opened A (place (place_back z j))) (path_back zs q) t
        ≡ null_for_absent (opened A (place j)) q t
        → opened A (place (place_back z j)) (path_back zs q) t ≡ opened A (place j) q t
        → match_ordering o (null_for_absent (opened A (place (place_back z j))) (path_back zs q)) (W (path_back zs q))
        (opened A (place (place_back z j)) (path_back zs q)) t
        ≡ match_ordering u (null_for_absent (opened A (place j)) q) (W (path_back zs q)) (opened A (place j) q) t
    by_cases o u same filled other =
        ap (λ v. match_ordering v (null_for_absent (opened A (place (place_back z j))) (path_back zs q))
        (W (path_back zs q)) (opened A (place (place_back z j)) (path_back zs q)) t) same
        ∙ tags_cases u _ _ _ _ _ _ t filled refl other

put_field : (z : Stretch) (zs : List Stretch) (A : Sets) (m : List ℕ) (W : Sets) → IsBlunt (z ∷ zs) A
    → SameSets (back (z ∷ zs) (put A (field m) W)) (put A (field m) (back zs W))
put_field z zs A m W blunt [] t = refl
put_field z zs A m W blunt (place j ∷ q) t = refl
put_field z zs A m W blunt (field n ∷ q) t =
    let opens : IsBlunt zs (opened A (field n)) = blunt_absent zs _ (part A (field n)) (blunt.1 (field n)) in
    let other : opened A (field n) (path_back zs q) t ≡ opened A (field n) q t =
    back_same zs (opened A (field n)) opens q t in
    tags_cases (slice_cmp nat_cmp n m) _ _ _ _ _ _ t other refl other

-- ---- places in order

pub stays : (z : Stretch) → z.more ≡ 0 → (j : ℕ) → place_back z j ≡ j
stays z none j = omega (arith, none)

pub moved_none : (z : Stretch) (i : ℕ) → z.more ≡ 0 → IsMovedTo z i i
moved_none z i none j = ap (λ k. nat_cmp k i) (stays z none j)

moved_far : (z : Stretch) (i : ℕ) → i ≡ suc (z.place + z.more) → IsMovedTo z i (i - z.more)
moved_far z i is j = by_order (nat_cmp j i) refl
  where
    by_order : (o : Ordering) → nat_cmp j i ≡ o → nat_cmp (place_back z j) (i - z.more) ≡ nat_cmp j i
    by_order Less o = below (place_back z j) (i - z.more) (omega (arith, is, under j i o)) ∙ sym o
    by_order Equal o = ap (λ k. nat_cmp k (i - z.more)) (omega (arith, is, equal j i o)) ∙ itself (i - z.more) ∙ sym o
    by_order Greater o = above (place_back z j) (i - z.more) (omega (arith, is, over j i o)) ∙ sym o

pub moved_to : (z : Stretch) (i : ℕ) → (z.more ≡ 0) ⊎ (i ≡ suc (z.place + z.more)) → IsMovedTo z i (i - z.more)
moved_to z i (inl none) = subst (IsMovedTo z i) (omega (arith, none)) (moved_none z i none)
moved_to z i (inr is) = moved_far z i is

pub back_to : (z : Stretch) (i : ℕ) → (z.more ≡ 0) ⊎ (i ≡ suc (z.place + z.more)) → place_back z i ≡ i - z.more
back_to z i (inl none) = omega (arith, none)
back_to z i (inr is) = omega (arith, is)

-- ---- writes

-- what comes of the rest of the path
abbrev pub Comes : List Stretch → (Sets → Sets → Type 0) → (Sets → Sets → Type 0) → Type 0
Comes zs Near Behind = (C W : Sets) → IsBlunt zs C → Near C W → Behind C (back zs W)

put_behind : (z : Stretch) (zs : List Stretch) (A B : Sets) (i k : ℕ) (Near Behind : Sets → Sets → Type 0)
    → Comes zs Near Behind → IsBlunt (z ∷ zs) A → place_back z i ≡ k → IsMovedTo z i k
    → IsPut A (place k) Near B → IsPut A (place i) Behind (back (z ∷ zs) B)
put_behind z zs A B i k Near Behind comes blunt is moved near =
    let here : opened A (place k) ≡ opened A (place i) =
    ap (λ j. opened A (place j)) (sym is) ∙ one_place A z i (blunt.0 i) in
    let opens : IsBlunt zs (opened A (place i)) = blunt_absent zs _ (part A (place i)) (blunt.1 (place i)) in (
      back zs near.0,
      comes (opened A (place i)) near.0 opens (subst (λ C. Near C near.0) here near.1),
      λ p t. near.2 (path_back (z ∷ zs) p) t ∙ put_place z zs A i k near.0 blunt moved p t,
    )

field_behind : (z : Stretch) (zs : List Stretch) (A B : Sets) (m : List ℕ) (Near Behind : Sets → Sets → Type 0)
    → Comes zs Near Behind → IsBlunt (z ∷ zs) A
    → IsPut A (field m) Near B → IsPut A (field m) Behind (back (z ∷ zs) B)
field_behind z zs A B m Near Behind comes blunt near =
    let opens : IsBlunt zs (opened A (field m)) = blunt_absent zs _ (part A (field m)) (blunt.1 (field m)) in (
      back zs near.0,
      comes (opened A (field m)) near.0 opens near.1,
      λ p t. near.2 (path_back (z ∷ zs) p) t ∙ put_field z zs A m near.0 blunt p t,
    )

spread_back : (z : Stretch) (zs : List Stretch) (P W : Sets) → IsBlunt zs (or_null P)
    → SameSets (back (z ∷ zs) (spread (only_at tag.List) (either_at (or_null P) W)))
    (spread (only_at tag.List) (either_at (or_null P) (back zs W)))
spread_back z zs P W blunt [] t = refl
spread_back z zs P W blunt (field n ∷ q) t = refl
spread_back z zs P W blunt (place j ∷ q) t =
    absent_back zs true (either_at (or_null P) W) q t
    ∙ ap (λ S. or_absent_if true S q t)
    (one_sets (back zs (either_at (or_null P) W)) (either_at (or_null P) (back zs W))
    (λ p u. ap (λ b. b || W (path_back zs p) u) (back_same zs (or_null P) blunt p u)))

somewhere_behind : (z : Stretch) (zs : List Stretch) (A B : Sets) (Near Behind : Sets → Sets → Type 0)
    → Comes zs Near Behind → IsBlunt (z ∷ zs) A
    → IsPutSomewhere A Near B → IsPutSomewhere A Behind (back (z ∷ zs) B)
somewhere_behind z zs A B Near Behind comes blunt near =
    let old : IsBlunt zs (or_null near.places) =
    blunt_either zs near.places (only_at tag.Null) (blunt_places z zs A near.places blunt near.are) (only_null zs) in
    record {
      places = near.places;
      are = near.are;
      written = back zs near.written;
      behind = comes (or_null near.places) near.written old near.behind;
      same = λ p t. near.same (path_back (z ∷ zs) p) t ∙ spread_back z zs near.places near.written old p t;
    }

from_end_behind : (z : Stretch) (zs : List Stretch) (A B : Sets) (at : ℤ) (Near Behind : Sets → Sets → Type 0)
    → Comes zs Near Behind → IsBlunt (z ∷ zs) A → z.more ≡ 0
    → IsPutFromEnd A at Near B → IsPutFromEnd A at Behind (back (z ∷ zs) B)
from_end_behind z zs A B at Near Behind comes blunt none (inl near) =
    inl (
      near.0,
      near.1,
      put_behind z zs A B near.0 near.0 Near Behind comes blunt (stays z none near.0) (moved_none z near.0 none) near.2,
    )
from_end_behind z zs A B at Near Behind comes blunt none (inr near) =
    inr (near.0, somewhere_behind z zs A B Near Behind comes blunt near.1)

-- the write at the near path, on longer arrays, is that at the path
pub far_write : (path : List CodeStep) (zs : List Stretch) (A N B : Sets) → AreStretchesOf path zs → IsBlunt zs A
    → IsWrite A (near_steps zs path) N B → IsWrite A path N (back zs B)
far_write [] [] A N B are blunt near = λ p t. nothing_moved p t
  where
    nothing_moved : (p : List Step) (t : Tag) → back [] B p t ≡ N p t
    nothing_moved [] t = near [] t
    nothing_moved (s ∷ p) t = near (s ∷ p) t
far_write [] (z ∷ zs) A N B are blunt near = absurd are
far_write (s ∷ r) [] A N B are blunt near = absurd are
far_write (Field k ∷ r) (z ∷ zs) A N B are blunt near =
    field_behind z zs A B k (λ C W. IsWrite C (near_steps zs r) N W) (λ C W. IsWrite C r N W)
    (λ C W opens put. far_write r zs C N W are.1 opens put) blunt near
far_write (Place (pos i) ∷ r) (z ∷ zs) A N B are blunt near =
    put_behind z zs A B i (i - z.more) (λ C W. IsWrite C (near_steps zs r) N W) (λ C W. IsWrite C r N W)
    (λ C W opens put. far_write r zs C N W are.1 opens put) blunt (back_to z i are.0) (moved_to z i are.0) near
far_write (Place (negsuc i) ∷ r) (z ∷ zs) A N B are blunt near =
    from_end_behind z zs A B (negsuc i) (λ C W. IsWrite C (near_steps zs r) N W) (λ C W. IsWrite C r N W)
    (λ C W opens put. far_write r zs C N W are.1 opens put) blunt are.0 near
