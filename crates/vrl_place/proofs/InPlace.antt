-- One field of a kind is changed in its place: what a write, or a removal, makes of the whole by what it makes of that field.
use Rattle.std.proofs.Common.{◌≡◌, ℕ, ◌<◌, Bool, true, false, not, List, [], ◌∷◌, length, Ordering, Less, Equal, Greater, refl, sym, ap, ◌∙◌, subst}
use Rattle.std.proofs.lemmas.Bool.{true≢false}
use Rattle.std.specs.Cmp.Lexicographic.{slice_cmp}
use Rattle.std.specs.Ordering.{nat_cmp, match_ordering}
use Rattle.vrl_value.specs.Look.{Step, field, place}
use Rattle.vrl_value.specs.declared.value.Tag.{Tag}
use Rattle.vrl_value.specs.declared.value.Tag.TheVariants as tag
use Rattle.vrl_path.specs.declared.path.Step.{Step as CodeStep}
use Rattle.vrl_path.specs.declared.path.Step.TheVariants.{Field}
use Rattle.vrl_kind.specs.Canonical.{object_tree}
use Rattle.vrl_kind.specs.Fields.{IsTaken, knows_field, knows_name, object_knows, put_at}
use Rattle.vrl_kind.specs.KindTree.{KindTree, kind, ObjectTree, no_object, object_part, KnownFields, no_fields, known_field, RestTree}
use Rattle.vrl_kind.specs.Kinds.{SameTags, fields_at, never_at, object_at, only_at, rest_at, tags_at}
use Rattle.vrl_kind.specs.Sets.{Sets, SameSets}
use Rattle.vrl_kind.specs.Tags.{Tags, only, same_tag}
use Rattle.vrl_place.specs.Inner.{AreOtherFields}
use Rattle.vrl_place.specs.Remove.{IsRemoval, gone, with_part, without_part}
use Rattle.vrl_place.specs.Sets.{has_other, is_alone, or_absent_if, part}
use Rattle.vrl_place.specs.Write.{IsWrite, opened, put}
use Rattle.vrl_place.proofs.Orders.{one_name, tags_cases}
use Rattle.vrl_place.proofs.Removing.{field_gone, is_gone, no_list_at, part_as, part_taken}
use Rattle.vrl_place.proofs.Same.{not_absent, one_sets}
use Rattle.vrl_place.proofs.Tags.{first_of_both, not_alone, one_tag, same_itself}
use Rattle.vrl_place.proofs.Views.{tags_field}

-- ---- a tag that is alone

alone_at : (T : Tags) (t u : Tag) (b c : Bool) → T u ≡ b → same_tag t u ≡ c → is_alone T t ≡ true → b ≡ c
alone_at T t u true true is same alone = refl
alone_at T t u true false is same alone =
    absurd (true≢false (sym (not_alone T t u is (λ e. true≢false (sym (same_itself t) ∙ sym (ap (same_tag t) e) ∙ same))) ∙ ap not alone))
alone_at T t u false true is same alone = absurd (true≢false (sym (first_of_both (T t) (not (has_other T t)) alone) ∙ ap T (one_tag t u same) ∙ is))
alone_at T t u false false is same alone = refl

pub alone_only : (T : Tags) (t u : Tag) → is_alone T t ≡ true → T u ≡ only t u
alone_only T t u alone = alone_at T t u (T u) (same_tag t u) refl refl alone

pub alone_there : (T : Tags) (t : Tag) → is_alone T t ≡ true → T t ≡ true
alone_there T t alone = first_of_both (T t) (not (has_other T t)) alone

pub alone_as : (S A : Sets) (t : Tag) (b : Bool) → SameSets S A → b ≡ is_alone (S []) t → b ≡ true → is_alone (A []) t ≡ true
alone_as S A t b same e is = ap (λ B. is_alone (B []) t) (sym (one_sets S A same)) ∙ sym e ∙ is

-- ---- a field that isn't known by itself

unknown_step : (o : Ordering) (b : Bool) (X I T : Tags) → match_ordering o b true b ≡ false → (b ≡ false → X ≡ T) → match_ordering o X I X ≡ T
unknown_step Less b X I T not later = later not
unknown_step Equal b X I T not later = absurd (true≢false not)
unknown_step Greater b X I T not later = later not

unknown_at : (fs : KnownFields) (n : List ℕ) (p : List Step) (T : Tags) → knows_name n fs ≡ false → fields_at fs n p T ≡ T
unknown_at no_fields n p T not = refl
unknown_at (known_field m k fs) n p T not = unknown_step (slice_cmp nat_cmp n m) (knows_name n fs) (fields_at fs n p T) (tags_at k p) T not (unknown_at fs n p T)

knows_tree : (n : List ℕ) (K : KindTree) → knows_field n K ≡ object_knows n (object_tree K)
knows_tree n (kind s l o) = refl

others_at : (o : ObjectTree) (fs : KnownFields) (r : RestTree) (n : List ℕ) → o ≡ object_part fs r → object_knows n o ≡ false → (p : List Step) (t : Tag) → rest_at r p t ≡ object_at o n p t
others_at o fs r n e not p t =
    ap (λ T. T t) (sym (unknown_at fs n p (rest_at r p) (sym (ap (object_knows n) e) ∙ not)))
    ∙ ap (λ x. object_at x n p t) (sym e)

pub some_others : (K : KindTree) (S : Sets) (fs : KnownFields) (r : RestTree) → object_tree K ≡ object_part fs r → SameSets S (rest_at r) → AreOtherFields K S
some_others K S fs r e same = record {
  at = λ n not p t. same p t ∙ others_at (object_tree K) fs r n e (sym (knows_tree n K) ∙ not) p t ∙ sym (tags_field K n p t);
}

pub no_others : (K : KindTree) (S : Sets) → object_tree K ≡ no_object → SameSets S never_at → AreOtherFields K S
no_others K S e same = record { at = λ n not p t. same p t ∙ ap (λ o. object_at o n p t) (sym e) ∙ sym (tags_field K n p t) }

-- ---- a field that is put in its place

put_changed : (k : List ℕ) (I A : Sets) → SameSets (put_at k I A) (with_part A (field k) I)
put_changed k I A [] t = refl
put_changed k I A (place i ∷ p) t = refl
put_changed k I A (field n ∷ p) t = refl

over_again : (o : Ordering) (X I J : Tags) (t : Tag) → match_ordering o (match_ordering o X J X) I (match_ordering o X J X) t ≡ match_ordering o X I X t
over_again Less X I J t = refl
over_again Equal X I J t = refl
over_again Greater X I J t = refl

put_twice : (k : List ℕ) (I J A : Sets) → SameSets (put_at k I (put_at k J A)) (put_at k I A)
put_twice k I J A [] t = refl
put_twice k I J A (place i ∷ p) t = refl
put_twice k I J A (field n ∷ p) t = over_again (slice_cmp nat_cmp n k) (A (field n ∷ p)) (I p) (J p) t

put_back_at : (o : Ordering) (k n : List ℕ) (A : Sets) (p : List Step) (t : Tag) → slice_cmp nat_cmp n k ≡ o → match_ordering o (A (field n ∷ p)) (A (field k ∷ p)) (A (field n ∷ p)) t ≡ A (field n ∷ p) t
put_back_at Less k n A p t is = refl
put_back_at Equal k n A p t is = ap (λ x. A (field x ∷ p) t) (sym (one_name n k is))
put_back_at Greater k n A p t is = refl

put_back : (k : List ℕ) (A : Sets) → SameSets (put_at k (part A (field k)) A) A
put_back k A [] t = refl
put_back k A (place i ∷ p) t = refl
put_back k A (field n ∷ p) t = put_back_at (slice_cmp nat_cmp n k) k n A p t refl

-- what is put where something was taken out
put_for : (n : List ℕ) (W H P : KindTree) (I : Sets) → IsTaken n W H P → SameSets (put_at n I (tags_at H)) (put_at n I (tags_at W))
put_for n W H P I taken p t =
    ap (λ C. put_at n I C p t) (one_sets (tags_at H) (put_at n never_at (tags_at W)) taken.left)
    ∙ put_twice n I never_at (tags_at W) p t

-- what was taken out is put back
pub restored : (n : List ℕ) (W H P M : KindTree) → IsTaken n W H P → SameSets (tags_at M) (put_at n (tags_at P) (tags_at H)) → SameTags M W
restored n W H P M taken made p t =
    made p t
    ∙ put_for n W H P (tags_at P) taken p t
    ∙ ap (λ C. put_at n C (tags_at W) p t) (one_sets (tags_at P) (part (tags_at W) (field n)) taken.taken)
    ∙ put_back n (tags_at W) p t

pub taken_root : (n : List ℕ) (W H P : KindTree) (t : Tag) → IsTaken n W H P → tags_at W [] t ≡ true → tags_at H [] t ≡ true
taken_root n W H P t taken is = taken.left [] t ∙ is

-- ---- writes

opened_alone : (A : Sets) (n : List ℕ) → is_alone (A []) tag.Object ≡ true → (q : List Step) (t : Tag) → opened A (field n) q t ≡ part A (field n) q t
opened_alone A n alone q t = ap (λ b. or_absent_if (not b) (part A (field n)) q t) alone ∙ not_absent (part A (field n)) q t

pub written_alone : (K : KindTree) (N I B : Sets) (r : List CodeStep) (k : List ℕ) → is_alone (tags_at K []) tag.Object ≡ true → IsWrite (part (tags_at K) (field k)) r N I → SameSets B (put_at k I (tags_at K))
    → IsWrite (tags_at K) (Field k ∷ r) N B
written_alone K N I B r k alone inner made = (I, subst (λ C. IsWrite C r N I) (sym (one_sets (opened (tags_at K) (field k)) (part (tags_at K) (field k)) (opened_alone (tags_at K) k alone))) inner, same)
  where
    same : SameSets B (put (tags_at K) (field k) I)
    same [] t = made [] t ∙ alone_only (tags_at K []) tag.Object t alone
    same (place i ∷ q) t = made (place i ∷ q) t ∙ no_list_at K (alone_only (tags_at K []) tag.Object tag.List alone) i q t
    same (field n ∷ q) t =
        made (field n ∷ q) t
        ∙ tags_cases (slice_cmp nat_cmp n k) _ _ _ _ _ _ t
        (sym (opened_alone (tags_at K) n alone q t)) refl (sym (opened_alone (tags_at K) n alone q t))

pub written_others : (K : KindTree) (N S I B : Sets) (r : List CodeStep) (k : List ℕ) → is_alone (tags_at K []) tag.Object ≡ true → knows_field k K ≡ false → AreOtherFields K S → IsWrite S r N I → SameSets B (put_at k I (tags_at K))
    → IsWrite (tags_at K) (Field k ∷ r) N B
written_others K N S I B r k alone not others inner made =
    written_alone K N I B r k alone (subst (λ C. IsWrite C r N I) (one_sets S (part (tags_at K) (field k)) (others.at k not)) inner) made

pub written_known : (W H P : KindTree) (N I B : Sets) (r : List CodeStep) (k : List ℕ) → is_alone (tags_at W []) tag.Object ≡ true → IsTaken k W H P → IsWrite (tags_at P) r N I → SameSets B (put_at k I (tags_at H))
    → IsWrite (tags_at W) (Field k ∷ r) N B
written_known W H P N I B r k alone taken inner made =
    written_alone W N I B r k alone (subst (λ C. IsWrite C r N I) (one_sets (tags_at P) (part (tags_at W) (field k)) taken.taken) inner)
    (λ p t. made p t ∙ put_for k W H P I taken p t)

-- ---- removals

pub remove_from : (A B K : Sets) (p : List CodeStep) → SameSets A B → IsRemoval A p K → IsRemoval B p K
remove_from A B K p same is = subst (λ C. IsRemoval C p K) (one_sets A B same) is

removed_part : (A I B : Sets) (r : List CodeStep) (k : List ℕ) → 0 < length r → IsRemoval (part A (field k)) r I → SameSets B (put_at k I A) → IsRemoval A (Field k ∷ r) B
removed_part A I B r k some inner made = part_taken A I B (field k) r (λ C W. IsRemoval C r W) some inner (λ p t. made p t ∙ put_changed k I A p t)

pub removed_whole : (A B J : Sets) (k : List ℕ) → A [] tag.Object ≡ true → ((p : List Step) → J p ≡ only_at tag.Absent p) → SameSets B (put_at k J A) → SameSets B (without_part A (field k))
removed_whole A B J k is absent made p t =
    made p t
    ∙ put_changed k J A p t
    ∙ part_as A J (gone (A [])) (field k) (λ q u. ap (λ T. T u) (absent q) ∙ is_gone (A []) is q u) p t
    ∙ field_gone A k p t

pub removed_others : (K : KindTree) (S I B : Sets) (r : List CodeStep) (k : List ℕ) → 0 < length r → knows_field k K ≡ false → AreOtherFields K S → IsRemoval S r I → SameSets B (put_at k I (tags_at K))
    → IsRemoval (tags_at K) (Field k ∷ r) B
removed_others K S I B r k some not others inner made =
    removed_part (tags_at K) I B r k some (subst (λ C. IsRemoval C r I) (one_sets S (part (tags_at K) (field k)) (others.at k not)) inner) made

pub removed_known : (W H P : KindTree) (I B : Sets) (r : List CodeStep) (k : List ℕ) → 0 < length r → IsTaken k W H P → IsRemoval (tags_at P) r I → SameSets B (put_at k I (tags_at H))
    → IsRemoval (tags_at W) (Field k ∷ r) B
removed_known W H P I B r k some taken inner made =
    removed_part (tags_at W) I B r k some (subst (λ C. IsRemoval C r I) (one_sets (tags_at P) (part (tags_at W) (field k)) taken.taken) inner)
    (λ p t. made p t ∙ put_for k W H P I taken p t)
