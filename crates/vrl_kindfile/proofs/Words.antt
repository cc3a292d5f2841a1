-- The kinds that words name.
use Rattle.std.proofs.Common.{◌≡◌, ℕ, false, Some, List, [], ◌∷◌, bytes_eq, codes, is_some, refl, sym, ap, ◌∙◌, subst}
use Rattle.vrl_value.specs.Look.{Step, field, place}
use Rattle.vrl_value.specs.Tree.{string}
use Rattle.vrl_value.specs.declared.value.Tag.{Tag}
use Rattle.vrl_kind.specs.KindTree.{KindTree}
use Rattle.vrl_kind.specs.Kinds.{tags_at, json_at, only_at, step_tag}
use Rattle.vrl_kind.specs.Tags.{only, same_tag}
use Rattle.vrl_kindfile.specs.Shapes.{word_tags}
use Rattle.vrl_kindfile.specs.Walk.{IsWordKind}
use Rattle.vrl_kindfile.specs.Descriptions.{alternative_at}
use Rattle.vrl_kindfile.proofs.Optional.{json_alternative}

-- a word that names the values of one tag, which is that of no containers
pub tag_word : (spelling word : List ℕ) (t : Tag) (K : KindTree) → word ≡ spelling → word_tags spelling ≡ Some (only t) → bytes_eq spelling (codes "json") ≡ false → ((s : Step) → same_tag (step_tag s) t ≡ false)
    → ((p : List Step) → tags_at K p ≡ only_at t p) → IsWordKind word K
tag_word spelling word t K is names not_json scalar has = subst (λ w. IsWordKind w K) (sym is) record {
  known = ap is_some names;
  tags = tags_of;
} where
  tags_of : (p : List Step) (u : Tag) → tags_at K p u ≡ alternative_at p (string spelling) u
  tags_of [] u = ap (λ T. T u) (has []) ∙ rw names refl
  tags_of (s ∷ p) u = ap (λ T. T u) (has (s ∷ p)) ∙ rw (scalar s, not_json) refl

pub no_container : (t : Tag) → same_tag (step_tag (field [])) t ≡ false → same_tag (step_tag (place 0)) t ≡ false → (s : Step) → same_tag (step_tag s) t ≡ false
no_container t no_object no_array (field name) = no_object
no_container t no_object no_array (place i) = no_array

pub json_word : (word : List ℕ) (K : KindTree) → word ≡ codes "json" → ((p : List Step) → tags_at K p ≡ json_at p) → IsWordKind word K
json_word word K is has = subst (λ w. IsWordKind w K) (sym is) record { known = refl; tags = λ p u. ap (λ T. T u) (has p) ∙ json_alternative p u }
