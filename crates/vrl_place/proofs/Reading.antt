-- The kind that a read makes has just the tags that a read may find.
use Rattle.std.proofs.Common.{◌≡◌, ◌≢◌, inl, inr, ℕ, pos, negsuc, Bool, true, false, ◌||◌, ◌&&◌, not, IsTrue, List, [], ◌∷◌, refl, sym, ap, ◌∙◌, subst}
use Rattle.std.proofs.lemmas.Bool.{true≢false}
use Rattle.vrl_value.specs.Look.{Step, field, place}
use Rattle.vrl_value.specs.declared.value.Tag.{Tag}
use Rattle.vrl_value.specs.declared.value.Tag.TheVariants as tag
use Rattle.vrl_path.specs.declared.path.Step.{Step as CodeStep}
use Rattle.vrl_path.specs.declared.path.Step.TheVariants.{Field, Place}
use Rattle.vrl_kind.specs.KindTree.{KindTree}
use Rattle.vrl_kind.specs.Change.{null_for_absent}
use Rattle.vrl_kind.specs.Kinds.{IsParts, step_tag, tags_at, without_at}
use Rattle.vrl_kind.specs.Sets.{Sets, SameSets}
use Rattle.vrl_kind.specs.Tags.{Tags, same_tag}
use Rattle.vrl_place.specs.FromEnd.{AreSomePlaces}
use Rattle.vrl_place.specs.Read.{Allowed, HasJust, allowed, read, read_part, read_some_place, read_step}
use Rattle.vrl_place.specs.Sets.{has_other, or_absent_if, part}
use Rattle.vrl_place.proofs.Same.{one_sets}
use Rattle.vrl_place.proofs.Tags.{both, differ, first_of_both, left_of, not_same, not_true, one_of_both, one_tag, other_there, right_of, second_of_both, some_other}

abbrev Within : Allowed → Allowed → Type 0
Within A B = (p : List Step) (t : Tag) → A p t → B p t

part_within : (A B : Allowed) (s : Step) → Within A B → Within (read_part A s) (read_part B s)
part_within A B s w [] t (inl x) = inl (x.0, w (s ∷ []) t x.1)
part_within A B s w [] t (inr (e, inl a)) = inr (e, inl (w (s ∷ []) tag.Absent a))
part_within A B s w [] t (inr (e, inr x)) = inr (e, inr (x.0, x.1, w [] x.0 x.2))
part_within A B s w (q ∷ p) t a = w (s ∷ q ∷ p) t a

some_within : (A B : Allowed) → Within A B → Within (read_some_place A) (read_some_place B)
some_within A B w [] t (inl x) = inl (x.0, (x.1.0, w (place x.1.0 ∷ []) t x.1.1))
some_within A B w [] t (inr e) = inr e
some_within A B w (q ∷ p) t x = (x.0, w (place x.0 ∷ q ∷ p) t x.1)

step_within : (A B : Allowed) (s : CodeStep) → Within A B → Within (read_step A s) (read_step B s)
step_within A B (Field k) w = part_within A B (field k) w
step_within A B (Place (pos i)) w = part_within A B (place i) w
step_within A B (Place (negsuc i)) w = some_within A B w

read_within : (r : List CodeStep) (A B : Allowed) → Within A B → Within (read A r) (read B r)
read_within [] A B w = w
read_within (s ∷ r) A B w = read_within r (read_step A s) (read_step B s) (step_within A B s w)

-- a part that may be absent where another tag may stand, with null for absent, is the part that is read
part_cases : (P : Tags) (O : Bool) (t : Tag) (G : Type 0) → IsTrue (((P t || (O && same_tag t tag.Absent)) && not (same_tag t tag.Absent)) || ((P tag.Absent || (O && true)) && same_tag t tag.Null))
    → (t ≢ tag.Absent → IsTrue (P t) → G) → (t ≡ tag.Null → IsTrue (P tag.Absent) → G) → (t ≡ tag.Null → IsTrue O → G) → G
part_cases P O t G h here absent other =
    one_of_both ((P t || (O && same_tag t tag.Absent)) && not (same_tag t tag.Absent)) ((P tag.Absent || (O && true)) && same_tag t tag.Null) G h
    (λ x. let ne : t ≢ tag.Absent = differ t tag.Absent (second_of_both (P t || (O && same_tag t tag.Absent)) (not (same_tag t tag.Absent)) x) in
    one_of_both (P t) (O && same_tag t tag.Absent) G (first_of_both (P t || (O && same_tag t tag.Absent)) (not (same_tag t tag.Absent)) x)
    (here ne) (λ b. absurd (ne (one_tag t tag.Absent (second_of_both O (same_tag t tag.Absent) b)))))
    (λ x. let e : t ≡ tag.Null = one_tag t tag.Null (second_of_both (P tag.Absent || (O && true)) (same_tag t tag.Null) x) in
    one_of_both (P tag.Absent) (O && true) G (first_of_both (P tag.Absent || (O && true)) (same_tag t tag.Null) x)
    (absent e) (λ b. other e (first_of_both O true b)))

part_to : (A : Sets) (s : Step) → Within (allowed (null_for_absent (or_absent_if (has_other (A []) (step_tag s)) (part A s)))) (read_part (allowed A) s)
part_to A s (q ∷ p) t h = h
part_to A s [] t h = part_cases (A (s ∷ [])) (has_other (A []) (step_tag s)) t (read_part (allowed A) s [] t) h
    (λ ne a. inl (ne, a)) (λ e a. inr (e, inl a))
    (λ e o. let x = some_other (A []) (step_tag s) o in inr (e, inr (x.other, x.differs, x.allowed)))

part_from : (A : Sets) (s : Step) → Within (read_part (allowed A) s) (allowed (null_for_absent (or_absent_if (has_other (A []) (step_tag s)) (part A s))))
part_from A s (q ∷ p) t h = h
part_from A s [] t (inl x) = left_of _ _ (both _ _ (left_of _ _ x.1) (not_same t tag.Absent x.0))
part_from A s [] t (inr (e, inl a)) = right_of _ _ (both _ _ (left_of _ _ a) (ap (λ u. same_tag u tag.Null) e))
part_from A s [] t (inr (e, inr x)) = right_of _ _ (both _ _ (right_of _ _ (both _ _ (other_there (A []) (step_tag s) x.0 x.2 x.1) refl)) (ap (λ u. same_tag u tag.Null) e))

-- the same for any place
some_to : (A M : Sets) → AreSomePlaces A M → Within (allowed (null_for_absent (or_absent_if true M))) (read_some_place (allowed A))
some_to A M are (q ∷ p) t h = ((are.at (q ∷ p) t).0 h).0
some_to A M are [] t h = part_cases (M []) true t (read_some_place (allowed A) [] t) h (λ ne a. inl (ne, ((are.at [] t).0 a).0)) (λ e a. inr e) (λ e o. inr e)

some_from : (A M : Sets) → AreSomePlaces A M → Within (read_some_place (allowed A)) (allowed (null_for_absent (or_absent_if true M)))
some_from A M are (q ∷ p) t h = (are.at (q ∷ p) t).1 (h, refl)
some_from A M are [] t (inl x) = left_of _ _ (both _ _ (left_of _ _ ((are.at [] t).1 (x.1, not_same t tag.Absent x.0))) (not_same t tag.Absent x.0))
some_from A M are [] t (inr e) = right_of _ _ (both _ _ (right_of (M [] tag.Absent) true refl) (ap (λ u. same_tag u tag.Null) e))

-- what is found has null for absent
pub read_end : (A k K : Sets) → SameSets k A → SameSets K (null_for_absent k) → HasJust K (allowed (null_for_absent A))
read_end A k K first same p t =
    let e : K p t ≡ null_for_absent A p t = same p t ∙ ap (λ B. null_for_absent B p t) (one_sets k A first) in
    (λ h. sym e ∙ h, λ h. e ∙ h)

-- what a read behind a step finds, where the part was opened
pub read_opened : (A z g K : Sets) (s : Step) (b : Bool) (r : List CodeStep) → b ≡ has_other (A []) (step_tag s) → SameSets z (part A s) → SameSets g (or_absent_if b z) → HasJust K (read (allowed (null_for_absent g)) r) → HasJust K (read (read_part (allowed A) s) r)
read_opened A z g K s b r other zs gs has p t =
    let e : g ≡ or_absent_if (has_other (A []) (step_tag s)) (part A s) = one_sets g (or_absent_if b z) gs ∙ ap (or_absent_if b) (one_sets z (part A s) zs) ∙ ap (λ c. or_absent_if c (part A s)) other in
    let now : HasJust K (read (allowed (null_for_absent (or_absent_if (has_other (A []) (step_tag s)) (part A s)))) r) = subst (λ B. HasJust K (read (allowed (null_for_absent B)) r)) e has in
    (λ h. read_within r _ _ (part_to A s) p t ((now p t).0 h), λ h. (now p t).1 (read_within r _ _ (part_from A s) p t h))

pub read_some : (A M z g K : Sets) (r : List CodeStep) → AreSomePlaces A M → SameSets z M → SameSets g (or_absent_if true z) → HasJust K (read (allowed (null_for_absent g)) r) → HasJust K (read (read_some_place (allowed A)) r)
read_some A M z g K r are zs gs has p t =
    let e : g ≡ or_absent_if true M = one_sets g (or_absent_if true z) gs ∙ ap (or_absent_if true) (one_sets z M zs) in
    let now : HasJust K (read (allowed (null_for_absent (or_absent_if true M))) r) = subst (λ B. HasJust K (read (allowed (null_for_absent B)) r)) e has in
    (λ h. read_within r _ _ (some_to A M are) p t ((now p t).0 h), λ h. (now p t).1 (read_within r _ _ (some_from A M are) p t h))

no_object_step : (s : Step) → IsTrue (not (same_tag (step_tag s) tag.Object)) → (P : Step → Type 0) → P s → (i : ℕ) × P (place i)
no_object_step (field k) h P a = absurd (true≢false (sym h))
no_object_step (place i) h P a = (i, a)

-- the parts of the kind without objects are those at some place
pub some_parts : (A : Sets) (K L M : KindTree) → SameSets (tags_at K) A → ((p : List Step) → tags_at L p ≡ without_at K tag.Object p) → IsParts L M → AreSomePlaces A (tags_at M)
some_parts A K L M same lower parts = record {
  at = λ p t. (
    λ h. let x = (parts p t).0 h in
        let it = ap (λ T. T t) (sym (lower (x.0.0 ∷ p))) ∙ x.0.1 in
        (no_object_step x.0.0 (second_of_both _ _ it) (λ s. IsTrue (A (s ∷ p) t)) (sym (same (x.0.0 ∷ p) t) ∙ first_of_both _ _ it), x.1),
    λ h. (parts p t).1 ((place h.0.0, ap (λ T. T t) (lower (place h.0.0 ∷ p)) ∙ both _ _ (same (place h.0.0 ∷ p) t ∙ h.0.1) refl), h.1),
  );
}

absent_not_null : tag.Absent ≢ tag.Null
absent_not_null e = cc

no_absent_step : (A : Allowed) (s : CodeStep) → read_step A s [] tag.Absent → ⊥
no_absent_step A (Field k) (inl x) = x.0 refl
no_absent_step A (Field k) (inr x) = absent_not_null x.0
no_absent_step A (Place (pos i)) (inl x) = x.0 refl
no_absent_step A (Place (pos i)) (inr x) = absent_not_null x.0
no_absent_step A (Place (negsuc i)) (inl x) = x.0 refl
no_absent_step A (Place (negsuc i)) (inr e) = absent_not_null e

no_absent_read : (r : List CodeStep) (A : Allowed) → (A [] tag.Absent → ⊥) → read A r [] tag.Absent → ⊥
no_absent_read [] A none h = none h
no_absent_read (s ∷ r) A none h = no_absent_read r (read_step A s) (no_absent_step A s) h

pub read_present : (A K : Sets) (r : List CodeStep) → HasJust K (read (allowed A) r) → A [] tag.Absent ≡ false → K [] tag.Absent ≡ false
read_present A K r has present = not_true (K [] tag.Absent) (λ h. no_absent_read r (allowed A) (λ a. true≢false (sym a ∙ present)) ((has [] tag.Absent).0 h))

-- the same of sets and a path that are the same
pub read_same : (A B K : Sets) (s : CodeStep) (r p : List CodeStep) → SameSets A B → p ≡ s ∷ r → HasJust K (read (read_step (allowed A) s) r) → HasJust K (read (allowed B) p)
read_same A B K s r p same e has = subst (λ q. HasJust K (read (allowed B) q)) (sym e) (subst (λ C. HasJust K (read (read_step (allowed C) s) r)) (one_sets A B same) has)

-- a read that goes on from what the first steps found
pub read_further : (A : Allowed) (k K : Sets) (r : List CodeStep) → HasJust k A → HasJust K (read (allowed k) r) → HasJust K (read A r)
read_further A k K r first rest p t =
    (λ h. read_within r (allowed k) A (λ q u. (first q u).0) p t ((rest p t).0 h), λ h. (rest p t).1 (read_within r A (allowed k) (λ q u. (first q u).1) p t h))
