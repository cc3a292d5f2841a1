-- Kinds cut down to some tags, tag by tag.
use Rattle.std.proofs.Common.{◌≡◌, ◌<◌, ℕ, ◌+◌, Bool, true, false, ◌&&◌, ◌||◌, not, List, [], ◌∷◌, take, get_or, length, refl, sym, ap, ◌∙◌}
use Rattle.std.proofs.lemmas.Bool.{true≢false}
use Rattle.std.proofs.lemmas.List.Folds.{list_any_more}
use Rattle.std.proofs.Math.Bool.{or-true}
use Rattle.std.specs.List.{list_any}
use Rattle.vrl_value.specs.Look.{Step, field, place}
use Rattle.vrl_value.specs.declared.value.Tag.{Tag}
use Rattle.vrl_value.specs.declared.value.Tag.TheVariants as tag
use Rattle.vrl_kind.specs.KindTree.{KindTree}
use Rattle.vrl_kind.specs.Kinds.{tags_at, without_at}
use Rattle.vrl_kind.specs.Tags.{same_tag}
use Rattle.vrl_builtin.specs.CutDown.{outer_tag, stays, IsCutBy}
use Rattle.vrl_builtin.specs.TagSets.{allows}
use Rattle.vrl_builtin.specs.declared.tags.Tags.{Tags}

-- one tag is in a set where the other is
pub same_allowed : (T : Tags) (t u : Tag) → same_tag t u ≡ true → allows T t ≡ allows T u
same_allowed T tag.Text tag.Text h = refl
same_allowed T tag.Int tag.Int h = refl
same_allowed T tag.Bool tag.Bool h = refl
same_allowed T tag.Null tag.Null h = refl
same_allowed T tag.Time tag.Time h = refl
same_allowed T tag.Pattern tag.Pattern h = refl
same_allowed T tag.List tag.List h = refl
same_allowed T tag.Object tag.Object h = refl
same_allowed T tag.Absent tag.Absent h = refl
same_allowed T t u h = absurd (true≢false (sym h))

goes : (T : Tags) (t u : Tag) (b : Bool) → same_tag t u ≡ b → allows T u ≡ false → not b ≡ (allows T t || not (b || false))
goes T t u true is h = rw (same_allowed T t u is, h) refl
goes T t u false is h = sym (or-true (allows T t))

-- a kind without a tag that isn't in the set
pub cut_by-without : (T : Tags) (t : Tag) (K L : KindTree) → allows T t ≡ false → ((p : List Step) → tags_at L p ≡ without_at K t p) → IsCutBy T (t ∷ []) K L
cut_by-without T t K L h is [] u = ap (λ A. A u) (is []) ∙ ap (λ b. tags_at K [] u && b) (goes T u t (same_tag u t) refl h)
cut_by-without T t K L h is (field n ∷ p) u = ap (λ A. A u) (is (field n ∷ p)) ∙ ap (λ b. tags_at K (field n ∷ p) u && b) (goes T tag.Object t (same_tag tag.Object t) refl h)
cut_by-without T t K L h is (place i ∷ p) u = ap (λ A. A u) (is (place i ∷ p)) ∙ ap (λ b. tags_at K (place i ∷ p) u && b) (goes T tag.List t (same_tag tag.List t) refl h)

-- ---- one tag after the other

both_stay : (a b c d : Bool) → (d && (a || not b)) && (a || not (c || false)) ≡ (d && (a || not (b || c)))
both_stay true b c true = refl
both_stay true b c false = refl
both_stay false true c true = refl
both_stay false true c false = refl
both_stay false false true true = refl
both_stay false false false true = refl
both_stay false false c false = refl

pub cut_by-more : (T : Tags) (ts : List Tag) (i : ℕ) (d : Tag) (K L M : KindTree) → i < length ts → IsCutBy T (take i ts) K L → IsCutBy T (get_or ts i d ∷ []) L M → IsCutBy T (take (i + 1) ts) K M
cut_by-more T ts i d K L M below before one p u =
    let t = outer_tag p u in
    one p u ∙ ap (λ b. b && stays T (get_or ts i d ∷ []) t) (before p u) ∙ both_stay (allows T t) (list_any (λ v. same_tag t v) (take i ts)) (same_tag t (get_or ts i d)) (tags_at K p u)
    ∙ ap (λ b. tags_at K p u && (allows T t || not b)) (sym (list_any_more (λ v. same_tag t v) ts i d below))
