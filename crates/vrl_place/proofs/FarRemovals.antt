-- A removal at a path with far places is that at the path with them near, on longer arrays.
use Rattle.std.proofs.Common.{◌≡◌, inl, inr, ◌⊎◌, ℕ, ℤ, suc, pos, negsuc, ◌≤◌, ◌+◌, ◌-◌, Bool, true, ◌||◌, ◌&&◌, List, [], ◌∷◌, Some, None, Option, Ordering, Less, Equal, Greater, refl, sym, ap, ◌∙◌, subst, arith}
use Rattle.std.specs.Cmp.Lexicographic.{slice_cmp}
use Rattle.std.specs.Ordering.{nat_cmp, match_ordering}
use Rattle.std.specs.Option.{MatchOption}
use Rattle.vrl_value.specs.Look.{Step, field, place}
use Rattle.vrl_value.specs.declared.value.Tag.{Tag}
use Rattle.vrl_value.specs.declared.value.Tag.TheVariants as tag
use Rattle.vrl_path.specs.Read.{place_of}
use Rattle.vrl_path.specs.declared.path.Step.{Step as CodeStep}
use Rattle.vrl_path.specs.declared.path.Step.TheVariants.{Field, Place}
use Rattle.vrl_kind.specs.Kinds.{is_absence}
use Rattle.vrl_kind.specs.Parts.{either_at}
use Rattle.vrl_kind.specs.Sets.{Sets, SameSets}
use Rattle.vrl_kind.specs.Stretch.{path_back, place_back}
use Rattle.vrl_kind.specs.Tags.{Tags}
use Rattle.vrl_kind.specs.declared.stretch.Stretch.{Stretch}
use Rattle.vrl_place.specs.Far.{AreStretchesOf, IsBlunt, near_steps}
use Rattle.vrl_place.specs.FromEnd.{spread}
use Rattle.vrl_place.specs.Remove.{moved, with_part, without_part, IsLeftSomewhere, IsRemoval, IsTakenAt, IsTakenFromEnd, IsTakenSomewhere}
use Rattle.vrl_place.specs.Sets.{or_absent_if, part}
use Rattle.vrl_place.proofs.FarWrites.{absent_back, back, back_same, back_to, blunt_places, moved_none, moved_to, stays, Comes, IsMovedTo}
use Rattle.vrl_place.proofs.Orders.{equal, over, tags_cases}
use Rattle.vrl_place.proofs.Same.{one_sets}

-- ---- what stands at the step itself

absence_back : (zs : List Stretch) (p : List Step) (t : Tag) → is_absence (path_back zs p) t ≡ is_absence p t
absence_back zs [] t = refl
absence_back [] (s ∷ p) t = refl
absence_back (z ∷ zs) (s ∷ p) t = refl

without_field : (z : Stretch) (zs : List Stretch) (A : Sets) (m : List ℕ) → IsBlunt (z ∷ zs) A
    → SameSets (back (z ∷ zs) (without_part A (field m))) (without_part A (field m))
without_field z zs A m blunt [] t = refl
without_field z zs A m blunt (place j ∷ q) t = back_same (z ∷ zs) A blunt (place j ∷ q) t
without_field z zs A m blunt (field n ∷ q) t =
    let other : A (field n ∷ path_back zs q) t ≡ A (field n ∷ q) t = back_same (z ∷ zs) A blunt (field n ∷ q) t in
    tags_cases (slice_cmp nat_cmp n m) _ _ _ _ _ _ t other (ap (λ b. A [] tag.Object && b) (absence_back zs q t)) other

with_field : (z : Stretch) (zs : List Stretch) (A : Sets) (m : List ℕ) (W : Sets) → IsBlunt (z ∷ zs) A
    → SameSets (back (z ∷ zs) (with_part A (field m) W)) (with_part A (field m) (back zs W))
with_field z zs A m W blunt [] t = refl
with_field z zs A m W blunt (place j ∷ q) t = back_same (z ∷ zs) A blunt (place j ∷ q) t
with_field z zs A m W blunt (field n ∷ q) t =
    let other : A (field n ∷ path_back zs q) t ≡ A (field n ∷ q) t = back_same (z ∷ zs) A blunt (field n ∷ q) t in
    tags_cases (slice_cmp nat_cmp n m) _ _ _ _ _ _ t other refl other

with_place : (z : Stretch) (zs : List Stretch) (A : Sets) (i k : ℕ) (W : Sets) → IsBlunt (z ∷ zs) A → IsMovedTo z i k
    → SameSets (back (z ∷ zs) (with_part A (place k) W)) (with_part A (place i) (back zs W))
with_place z zs A i k W blunt moves [] t = refl
with_place z zs A i k W blunt moves (field n ∷ q) t = back_same (z ∷ zs) A blunt (field n ∷ q) t
with_place z zs A i k W blunt moves (place j ∷ q) t =
    let other : A (place (place_back z j) ∷ path_back zs q) t ≡ A (place j ∷ q) t =
    back_same (z ∷ zs) A blunt (place j ∷ q) t in
    let old : Tags = A (place (place_back z j) ∷ path_back zs q) in
    ap (λ o. match_ordering o old (W (path_back zs q)) old t) (moves j)
    ∙ tags_cases (nat_cmp j i) _ _ _ _ _ _ t other refl other

-- the places behind the one at which something is removed stay side by side
abbrev MovesOn : Stretch → ℕ → Type 0
MovesOn z i = (j : ℕ) → i ≤ j → place_back z (suc j) ≡ suc (place_back z j)

moves_on : (z : Stretch) (i : ℕ) → (z.more ≡ 0) ⊎ (i ≡ suc (z.place + z.more)) → MovesOn z i
moves_on z i (inl none) j behind = omega (arith, none)
moves_on z i (inr is) j behind = omega (arith, is, behind)

without_place : (z : Stretch) (zs : List Stretch) (A : Sets) (i k : ℕ) → IsBlunt (z ∷ zs) A → place_back z i ≡ k
    → IsMovedTo z i k → MovesOn z i → SameSets (back (z ∷ zs) (without_part A (place k))) (without_part A (place i))
without_place z zs A i k blunt is moves on [] t = refl
without_place z zs A i k blunt is moves on (field n ∷ q) t = back_same (z ∷ zs) A blunt (field n ∷ q) t
without_place z zs A i k blunt is moves on (place j ∷ q) t =
    ap (λ o. match_ordering o old (moved A k (place (place_back z j)) (path_back zs q))
    (moved A k (place (place_back z j)) (path_back zs q)) t) (moves j)
    ∙ by_order (nat_cmp j i) refl
  where
    old : Tags
    old = A (place (place_back z j) ∷ path_back zs q)

    may : Bool
    may = A (place i ∷ []) tag.Absent

    next : i ≤ j → moved A k (place (place_back z j)) (path_back zs q) t ≡ moved A i (place j) q t
    next behind =
        ap (λ b. or_absent_if b (part A (place (suc (place_back z j)))) (path_back zs q) t)
        (ap (λ m. A (place m ∷ []) tag.Absent) (sym is) ∙ blunt.0 i [] tag.Absent)
        ∙ ap (λ m. or_absent_if may (part A (place m)) (path_back zs q) t) (sym (on j behind))
        ∙ absent_back zs may (part A (place (place_back z (suc j)))) q t
        ∙ ap (λ S. or_absent_if may S q t)
        (one_sets (back zs (part A (place (place_back z (suc j))))) (part A (place (suc j)))
        (λ p u. back_same (z ∷ zs) A blunt (place (suc j) ∷ p) u))

    by_order : (o : Ordering) → nat_cmp j i ≡ o
        → match_ordering o old (moved A k (place (place_back z j)) (path_back zs q))
        (moved A k (place (place_back z j)) (path_back zs q)) t
        ≡ match_ordering o (A (place j ∷ q)) (moved A i (place j) q) (moved A i (place j) q) t
    by_order Less o = back_same (z ∷ zs) A blunt (place j ∷ q) t
    by_order Equal o = next (omega (arith, equal j i o))
    by_order Greater o = next (omega (arith, over j i o))

-- ---- what stands behind the step

taken_behind : (z : Stretch) (zs : List Stretch) (A B : Sets) (k s : Step) (r : List CodeStep)
    (Near Behind : Sets → Sets → Type 0) → Comes zs Near Behind → IsBlunt (z ∷ zs) A → SameSets (part A k) (part A s)
    → SameSets (back (z ∷ zs) (without_part A k)) (without_part A s)
    → ((W : Sets) → SameSets (back (z ∷ zs) (with_part A k W)) (with_part A s (back zs W)))
    → IsTakenAt A k (near_steps zs r) Near B → IsTakenAt A s r Behind (back (z ∷ zs) B)
taken_behind z zs A B k s [] Near Behind comes blunt here gone_there kept near =
    λ p t. near (path_back (z ∷ zs) p) t ∙ gone_there p t
taken_behind z [] A B k s (u ∷ r) Near Behind comes blunt here gone_there kept near = (
  back [] near.0,
  comes (part A s) near.0 (blunt.1 s)
      (subst (λ C. Near C near.0) (one_sets (part A k) (part A s) here) near.1),
  λ p t. near.2 (path_back (z ∷ []) p) t ∙ kept near.0 p t,
)
taken_behind z (y ∷ zs) A B k s (u ∷ r) Near Behind comes blunt here gone_there kept near = (
  back (y ∷ zs) near.0,
  comes (part A s) near.0 (blunt.1 s)
      (subst (λ C. Near C near.0) (one_sets (part A k) (part A s) here) near.1),
  λ p t. near.2 (path_back (z ∷ y ∷ zs) p) t ∙ kept near.0 p t,
)

field_taken : (z : Stretch) (zs : List Stretch) (A B : Sets) (m : List ℕ) (r : List CodeStep)
    (Near Behind : Sets → Sets → Type 0) → Comes zs Near Behind → IsBlunt (z ∷ zs) A
    → IsTakenAt A (field m) (near_steps zs r) Near B → IsTakenAt A (field m) r Behind (back (z ∷ zs) B)
field_taken z zs A B m r Near Behind comes blunt near =
    taken_behind z zs A B (field m) (field m) r Near Behind comes blunt (λ p t. refl) (without_field z zs A m blunt)
    (λ W. with_field z zs A m W blunt) near

place_taken : (z : Stretch) (zs : List Stretch) (A B : Sets) (i k : ℕ) (r : List CodeStep)
    (Near Behind : Sets → Sets → Type 0) → Comes zs Near Behind → IsBlunt (z ∷ zs) A → place_back z i ≡ k
    → IsMovedTo z i k → MovesOn z i
    → IsTakenAt A (place k) (near_steps zs r) Near B → IsTakenAt A (place i) r Behind (back (z ∷ zs) B)
place_taken z zs A B i k r Near Behind comes blunt is moves on near =
    taken_behind z zs A B (place k) (place i) r Near Behind comes blunt
    (λ p t. ap (λ m. A (place m ∷ p) t) (sym is) ∙ blunt.0 i p t) (without_place z zs A i k blunt is moves on)
    (λ W. with_place z zs A i k W blunt moves) near

spread_left : (z : Stretch) (zs : List Stretch) (A W : Sets) → IsBlunt (z ∷ zs) A
    → SameSets (back (z ∷ zs) (spread A W)) (spread A (back zs W))
spread_left z zs A W blunt [] t = refl
spread_left z zs A W blunt (field n ∷ q) t = back_same (z ∷ zs) A blunt (field n ∷ q) t
spread_left z zs A W blunt (place j ∷ q) t = absent_back zs true W q t

either_left : (zs : List Stretch) (P V W : Sets) → IsBlunt zs P → SameSets W (either_at P V)
    → SameSets (back zs W) (either_at P (back zs V))
either_left zs P V W blunt same p t =
    same (path_back zs p) t ∙ ap (λ b. b || V (path_back zs p) t) (back_same zs P blunt p t)

left_behind : (zs : List Stretch) (P W : Sets) (r : List CodeStep) (Near Behind : Sets → Sets → Type 0)
    → Comes zs Near Behind → IsBlunt zs P
    → IsLeftSomewhere P (near_steps zs r) Near W → IsLeftSomewhere P r Behind (back zs W)
left_behind zs P W [] Near Behind comes blunt near =
    λ p t. near (path_back zs p) t ∙ back_same zs P blunt p t
left_behind [] P W (u ∷ r) Near Behind comes blunt near =
    (back [] near.0, comes P near.0 blunt near.1, either_left [] P near.0 W blunt near.2)
left_behind (y ∷ zs) P W (u ∷ r) Near Behind comes blunt near =
    (back (y ∷ zs) near.0, comes P near.0 blunt near.1, either_left (y ∷ zs) P near.0 W blunt near.2)

somewhere_taken : (z : Stretch) (zs : List Stretch) (A B : Sets) (r : List CodeStep)
    (Near Behind : Sets → Sets → Type 0) → Comes zs Near Behind → IsBlunt (z ∷ zs) A
    → IsTakenSomewhere A (near_steps zs r) Near B → IsTakenSomewhere A r Behind (back (z ∷ zs) B)
somewhere_taken z zs A B r Near Behind comes blunt near = record {
  places = near.places;
  are = near.are;
  left = back zs near.left;
  behind = left_behind zs near.places near.left r Near Behind comes (blunt_places z zs A near.places blunt near.are)
      near.behind;
  same = λ p t. near.same (path_back (z ∷ zs) p) t ∙ spread_left z zs A near.left blunt p t;
}

from_end_taken : (z : Stretch) (zs : List Stretch) (A B : Sets) (at : ℤ) (r : List CodeStep)
    (Near Behind : Sets → Sets → Type 0) → Comes zs Near Behind → IsBlunt (z ∷ zs) A → z.more ≡ 0
    → IsTakenFromEnd A at (near_steps zs r) Near B → IsTakenFromEnd A at r Behind (back (z ∷ zs) B)
from_end_taken z zs A B at r Near Behind comes blunt none (inl near) =
    inl (near.0, λ p t. near.1 (path_back (z ∷ zs) p) t ∙ back_same (z ∷ zs) A blunt p t)
from_end_taken z zs A B at r Near Behind comes blunt none (inr (inl near)) =
    inr (inl (near.0, near.1, by_place (place_of near.0 at) near.2))
  where
    by_place : (found : Option ℕ)
        → MatchOption found (SameSets B A) (λ j. IsTakenAt A (place j) (near_steps zs r) Near B)
        → MatchOption found (SameSets (back (z ∷ zs) B) A) (λ j. IsTakenAt A (place j) r Behind (back (z ∷ zs) B))
    by_place None same = λ p t. same (path_back (z ∷ zs) p) t ∙ back_same (z ∷ zs) A blunt p t
    by_place (Some j) taken =
        place_taken z zs A B j j r Near Behind comes blunt (stays z none j) (moved_none z j none)
        (moves_on z j (inl none)) taken
from_end_taken z zs A B at r Near Behind comes blunt none (inr (inr near)) =
    inr (inr (near.0, somewhere_taken z zs A B r Near Behind comes blunt near.1))

-- ---- removals

-- the removal at the near path, on longer arrays, is that at the path
pub far_removal : (path : List CodeStep) (zs : List Stretch) (A B : Sets) → AreStretchesOf path zs → IsBlunt zs A
    → IsRemoval A (near_steps zs path) B → IsRemoval A path (back zs B)
far_removal [] zs A B are blunt near = λ p t. near (path_back zs p) t ∙ back_same zs A blunt p t
far_removal (s ∷ r) [] A B are blunt near = absurd are
far_removal (Field k ∷ r) (z ∷ zs) A B are blunt near =
    field_taken z zs A B k r (λ C W. IsRemoval C (near_steps zs r) W) (λ C W. IsRemoval C r W)
    (λ C W opens taken. far_removal r zs C W are.1 opens taken) blunt near
far_removal (Place (pos i) ∷ r) (z ∷ zs) A B are blunt near =
    place_taken z zs A B i (i - z.more) r (λ C W. IsRemoval C (near_steps zs r) W) (λ C W. IsRemoval C r W)
    (λ C W opens taken. far_removal r zs C W are.1 opens taken) blunt (back_to z i are.0) (moved_to z i are.0)
    (moves_on z i are.0) near
far_removal (Place (negsuc i) ∷ r) (z ∷ zs) A B are blunt near =
    from_end_taken z zs A B (negsuc i) r (λ C W. IsRemoval C (near_steps zs r) W) (λ C W. IsRemoval C r W)
    (λ C W opens taken. far_removal r zs C W are.1 opens taken) blunt are.0 near
