-- What a test of each tag says of a kind.
use Rattle.std.proofs.Common.{◌≡◌, Bool, true, false, ◌&&◌, not, true≢false, refl, sym, ◌∙◌, arith}
use Rattle.std.proofs.lemmas.Grind.{common_steps}
use Rattle.std.specs.List.{list_any}
use Rattle.vrl_value.specs.declared.value.Tag.{Tag}
use Rattle.vrl_value.specs.declared.value.Tag.TheVariants as tag
use Rattle.vrl_kind.specs.Tags.{Tags, all_tags, IsDisjoint}

-- a tag that passes a test is one of them all
pub some_tag-intro : (test : Tags) (t : Tag) → test t ≡ true → list_any test all_tags ≡ true
some_tag-intro test tag.Text h = grind (arith, common_steps)
some_tag-intro test tag.Int h = grind (arith, common_steps)
some_tag-intro test tag.Bool h = grind (arith, common_steps)
some_tag-intro test tag.Null h = grind (arith, common_steps)
some_tag-intro test tag.Time h = grind (arith, common_steps)
some_tag-intro test tag.Pattern h = grind (arith, common_steps)
some_tag-intro test tag.List h = grind (arith, common_steps)
some_tag-intro test tag.Object h = grind (arith, common_steps)
some_tag-intro test tag.Absent h = grind (arith, common_steps)

no_tag_at : (test : Tags) (t : Tag) (b : Bool) → test t ≡ b → list_any test all_tags ≡ false → test t ≡ false
no_tag_at test t false is none = is
no_tag_at test t true is none = absurd (true≢false (sym (some_tag-intro test t is) ∙ none))

-- where none of them all passes, no tag does
pub no_tag : (test : Tags) → list_any test all_tags ≡ false → (t : Tag) → test t ≡ false
no_tag test none t = no_tag_at test t (test t) refl none

-- and where no tag does, none of them all does
pub none_of_all : (test : Tags) → ((t : Tag) → test t ≡ false) → list_any test all_tags ≡ false
none_of_all test none = rw (none tag.Text, none tag.Int, none tag.Bool, none tag.Null, none tag.Time, none tag.Pattern, none tag.List, none tag.Object, none tag.Absent) refl

and-false : (a b : Bool) → (a && b) ≡ false → a ≡ true → b ≡ true → ⊥
and-false a b h is also = true≢false (sym (rw (is, also) refl) ∙ h)

both_false : (a b : Bool) → (a ≡ true → b ≡ true → ⊥) → (a && b) ≡ false
both_false true true h = absurd (h refl refl)
both_false true false h = refl
both_false false b h = refl

pub disjoint_from : (K L : Tags) → list_any (λ t. K t && L t) all_tags ≡ false → IsDisjoint K L
disjoint_from K L none t is also = and-false (K t) (L t) (no_tag (λ t. K t && L t) none t) is also

pub disjoint_to : (K L : Tags) → IsDisjoint K L → list_any (λ t. K t && L t) all_tags ≡ false
disjoint_to K L apart = none_of_all (λ t. K t && L t) (λ t. both_false (K t) (L t) (apart t))

not_true : (b : Bool) → not b ≡ true → b ≡ false
not_true true h = absurd (true≢false (sym h))
not_true false h = refl

-- a test that answers the opposite
pub opposite : (b : Bool) (P : Type 0) → (b ≡ false → P) → (P → b ≡ false) → (not b ≡ true → P) × (P → not b ≡ true)
opposite b P from to = (λ h. from (not_true b h), λ h. rw (to h) refl)
