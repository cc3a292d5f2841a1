-- A write, and a removal, has one result.
use Rattle.std.proofs.Common.{◌≡◌, inl, inr, ℕ, ℤ, pos, negsuc, ◌<◌, List, [], ◌∷◌, Option, Some, None, MatchOption, Ordering, Less, Equal, Greater, refl, sym, ap, ◌∙◌, subst, arith}
use Rattle.std.proofs.lemmas.Bool.{true≢false}
use Rattle.std.specs.Ordering.{nat_cmp}
use Rattle.vrl_value.specs.Look.{Step, field, place}
use Rattle.vrl_value.specs.declared.value.Tag.TheVariants as tag
use Rattle.vrl_path.specs.Read.{place_of}
use Rattle.vrl_path.specs.declared.path.Step.{Step as CodeStep}
use Rattle.vrl_path.specs.declared.path.Step.TheVariants.{Field, Place}
use Rattle.vrl_kind.specs.Kinds.{only_at}
use Rattle.vrl_kind.specs.Parts.{either_at}
use Rattle.vrl_kind.specs.Sets.{Sets, SameSets}
use Rattle.vrl_place.specs.FromEnd.{AreSomePlaces, HasLength, IsSurePlace, spread}
use Rattle.vrl_place.specs.Remove.{IsLeftSomewhere, IsRemoval, IsTakenAt, IsTakenFromEnd, IsTakenSomewhere, with_part}
use Rattle.vrl_place.specs.Write.{IsPut, IsPutFromEnd, IsPutSomewhere, IsWrite, or_null, put}
use Rattle.vrl_place.proofs.Orders.{equal, over, some_is, under}
use Rattle.vrl_place.proofs.Same.{one_sets}
use Rattle.vrl_place.proofs.Tags.{one_truth}

-- the rest of the path has one result
abbrev HasOne : (Sets → Sets → Type 0) → Type 0
HasOne Behind = (C W V : Sets) → Behind C W → Behind C V → SameSets W V

both_are : (X B C : Sets) → SameSets B X → SameSets C X → SameSets B C
both_are X B C b c p t = b p t ∙ sym (c p t)

some_places_are_one : (A P Q : Sets) → AreSomePlaces A P → AreSomePlaces A Q → P ≡ Q
some_places_are_one A P Q first second =
    one_sets P Q (λ p t. one_truth (P p t) (Q p t) (λ h. (second.at p t).1 ((first.at p t).0 h)) (λ h. (first.at p t).1 ((second.at p t).0 h)))

-- ---- lengths

not_shorter : (A : Sets) (c d : ℕ) → HasLength A c → HasLength A d → c < d → ⊥
not_shorter A c d first second less = true≢false (sym (first.behind c (omega arith) tag.Absent) ∙ second.sure c less)

pub one_length : (A : Sets) (c d : ℕ) → HasLength A c → HasLength A d → c ≡ d
one_length A c d first second = by_order (nat_cmp c d) refl
  where
    by_order : (o : Ordering) → nat_cmp c d ≡ o → c ≡ d
    by_order Less o = absurd (not_shorter A c d first second (under c d o))
    by_order Equal o = equal c d o
    by_order Greater o = absurd (not_shorter A d c second first (over c d o))

one_sure_place : (A : Sets) (at : ℤ) (i j : ℕ) → IsSurePlace A at i → IsSurePlace A at j → i ≡ j
one_sure_place A at i j first second =
    some_is i j (sym first.counted ∙ ap (λ count. place_of count at) (one_length A first.count second.count first.length second.length) ∙ second.counted)

-- ---- writes

one_put : (A : Sets) (s : Step) (Behind : Sets → Sets → Type 0) (B C : Sets) → HasOne Behind → IsPut A s Behind B → IsPut A s Behind C → SameSets B C
one_put A s Behind B C one first second =
    let same : first.0 ≡ second.0 = one_sets first.0 second.0 (one _ first.0 second.0 first.1 second.1) in
    both_are (put A s second.0) B C (subst (λ W. SameSets B (put A s W)) same first.2) second.2

one_put_somewhere : (A : Sets) (Behind : Sets → Sets → Type 0) (B C : Sets) → HasOne Behind → IsPutSomewhere A Behind B → IsPutSomewhere A Behind C → SameSets B C
one_put_somewhere A Behind B C one first second =
    let places : first.places ≡ second.places = some_places_are_one A first.places second.places first.are second.are in
    let same : first.written ≡ second.written =
    one_sets first.written second.written (one (or_null second.places) first.written second.written (subst (λ P. Behind (or_null P) first.written) places first.behind) second.behind) in
    both_are (spread (only_at tag.List) (either_at (or_null second.places) second.written)) B C
    (subst (λ W. SameSets B (spread (only_at tag.List) (either_at (or_null second.places) W))) same
    (subst (λ P. SameSets B (spread (only_at tag.List) (either_at (or_null P) first.written))) places first.same))
    second.same

one_put_from_end : (A : Sets) (at : ℤ) (Behind : Sets → Sets → Type 0) (B C : Sets) → HasOne Behind → IsPutFromEnd A at Behind B → IsPutFromEnd A at Behind C → SameSets B C
one_put_from_end A at Behind B C one (inl first) (inl second) =
    one_put A (place second.0) Behind B C one (subst (λ j. IsPut A (place j) Behind B) (one_sure_place A at first.0 second.0 first.1 second.1) first.2) second.2
one_put_from_end A at Behind B C one (inl first) (inr second) = absurd (second.0 first.0 first.1)
one_put_from_end A at Behind B C one (inr first) (inl second) = absurd (first.0 second.0 second.1)
one_put_from_end A at Behind B C one (inr first) (inr second) = one_put_somewhere A Behind B C one first.1 second.1

pub one_write : (r : List CodeStep) (A N B C : Sets) → IsWrite A r N B → IsWrite A r N C → SameSets B C
one_write [] A N B C first second = both_are N B C first second
one_write (Field k ∷ r) A N B C first second = one_put A (field k) (λ D W. IsWrite D r N W) B C (λ D W V. one_write r D N W V) first second
one_write (Place (pos i) ∷ r) A N B C first second = one_put A (place i) (λ D W. IsWrite D r N W) B C (λ D W V. one_write r D N W V) first second
one_write (Place (negsuc i) ∷ r) A N B C first second = one_put_from_end A (negsuc i) (λ D W. IsWrite D r N W) B C (λ D W V. one_write r D N W V) first second

-- ---- removals

one_taken : (A : Sets) (s : Step) (r : List CodeStep) (Behind : Sets → Sets → Type 0) (B C : Sets) → HasOne Behind → IsTakenAt A s r Behind B → IsTakenAt A s r Behind C → SameSets B C
one_taken A s [] Behind B C one first second = both_are _ B C first second
one_taken A s (u ∷ r) Behind B C one first second =
    let same : first.0 ≡ second.0 = one_sets first.0 second.0 (one _ first.0 second.0 first.1 second.1) in
    both_are (with_part A s second.0) B C (subst (λ W. SameSets B (with_part A s W)) same first.2) second.2

one_left : (P : Sets) (r : List CodeStep) (Behind : Sets → Sets → Type 0) (B C : Sets) → HasOne Behind → IsLeftSomewhere P r Behind B → IsLeftSomewhere P r Behind C → SameSets B C
one_left P [] Behind B C one first second = both_are P B C first second
one_left P (u ∷ r) Behind B C one first second =
    let same : first.0 ≡ second.0 = one_sets first.0 second.0 (one P first.0 second.0 first.1 second.1) in
    both_are (either_at P second.0) B C (subst (λ W. SameSets B (either_at P W)) same first.2) second.2

one_taken_somewhere : (A : Sets) (r : List CodeStep) (Behind : Sets → Sets → Type 0) (B C : Sets) → HasOne Behind → IsTakenSomewhere A r Behind B → IsTakenSomewhere A r Behind C → SameSets B C
one_taken_somewhere A r Behind B C one first second =
    let places : first.places ≡ second.places = some_places_are_one A first.places second.places first.are second.are in
    let same : first.left ≡ second.left =
    one_sets first.left second.left (one_left second.places r Behind first.left second.left one (subst (λ P. IsLeftSomewhere P r Behind first.left) places first.behind) second.behind) in
    both_are (spread A second.left) B C (subst (λ W. SameSets B (spread A W)) same first.same) second.same

one_taken_if : (A : Sets) (o : Option ℕ) (r : List CodeStep) (Behind : Sets → Sets → Type 0) (B C : Sets) → HasOne Behind → MatchOption o (SameSets B A) (λ j. IsTakenAt A (place j) r Behind B) → MatchOption o (SameSets C A) (λ j. IsTakenAt A (place j) r Behind C)
    → SameSets B C
one_taken_if A None r Behind B C one first second = both_are A B C first second
one_taken_if A (Some j) r Behind B C one first second = one_taken A (place j) r Behind B C one first second

one_taken_from_end : (A : Sets) (at : ℤ) (r : List CodeStep) (Behind : Sets → Sets → Type 0) (B C : Sets) → HasOne Behind → IsTakenFromEnd A at r Behind B → IsTakenFromEnd A at r Behind C → SameSets B C
one_taken_from_end A at r Behind B C one (inl first) (inl second) = both_are A B C first.1 second.1
one_taken_from_end A at r Behind B C one (inl first) (inr (inl second)) = absurd (true≢false (sym second.1.arrays ∙ first.0))
one_taken_from_end A at r Behind B C one (inl first) (inr (inr second)) = absurd (true≢false (sym second.0.arrays ∙ first.0))
one_taken_from_end A at r Behind B C one (inr (inl first)) (inl second) = absurd (true≢false (sym first.1.arrays ∙ second.0))
one_taken_from_end A at r Behind B C one (inr (inl first)) (inr (inl second)) =
    one_taken_if A (place_of second.0 at) r Behind B C one
    (subst (λ count. MatchOption (place_of count at) (SameSets B A) (λ j. IsTakenAt A (place j) r Behind B)) (one_length A first.0 second.0 first.1 second.1) first.2) second.2
one_taken_from_end A at r Behind B C one (inr (inl first)) (inr (inr second)) = absurd (second.0.none first.0 first.1)
one_taken_from_end A at r Behind B C one (inr (inr first)) (inl second) = absurd (true≢false (sym first.0.arrays ∙ second.0))
one_taken_from_end A at r Behind B C one (inr (inr first)) (inr (inl second)) = absurd (first.0.none second.0 second.1)
one_taken_from_end A at r Behind B C one (inr (inr first)) (inr (inr second)) = one_taken_somewhere A r Behind B C one first.1 second.1

pub one_removal : (r : List CodeStep) (A B C : Sets) → IsRemoval A r B → IsRemoval A r C → SameSets B C
one_removal [] A B C first second = both_are A B C first second
one_removal (Field k ∷ r) A B C first second = one_taken A (field k) r (λ D W. IsRemoval D r W) B C (λ D W V. one_removal r D W V) first second
one_removal (Place (pos i) ∷ r) A B C first second = one_taken A (place i) r (λ D W. IsRemoval D r W) B C (λ D W V. one_removal r D W V) first second
one_removal (Place (negsuc i) ∷ r) A B C first second = one_taken_from_end A (negsuc i) r (λ D W. IsRemoval D r W) B C (λ D W V. one_removal r D W V) first second
