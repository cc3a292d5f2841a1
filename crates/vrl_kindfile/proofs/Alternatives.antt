-- Descriptions of which any may hold, and words.
use Rattle.std.proofs.Common.{◌≡◌, ℕ, suc, ◌+◌, Bool, true, false, ◌||◌, List, [], ◌∷◌, ◌++◌, length, refl, sym, ap, ◌∙◌, append_assoc, append-nil, arith}
use Rattle.std.proofs.lemmas.List.Folds.{list_any-append}
use Rattle.vrl_value.specs.Look.{place}
use Rattle.vrl_value.specs.Tree.{Tree, array, Items, no_items, item}
use Rattle.vrl_value.specs.View.{items_view, tree_of}
use Rattle.vrl_value.specs.declared.value.Tag.{Tag}
use Rattle.vrl_value.specs.declared.value.Value.{Value}
use Rattle.vrl_kind.specs.KindTree.{KindTree}
use Rattle.vrl_kind.specs.Kinds.{tags_at, IsJoin}
use Rattle.vrl_kind.specs.Tags.{Tags}
use Rattle.vrl_kindfile.specs.Descriptions.{alternative_at, alternatives, any_of, items_alternatives}
use Rattle.vrl_kindfile.specs.Faults.{Role, as_description, faults, has_items, items_faults, under}
use Rattle.vrl_kindfile.specs.Walk.{AreAlternatives, IsDescription}
use Rattle.vrl_kindfile.proofs.Refusals.{faultless_inside, faultless_both}

or_nothing : (b : Bool) → b ≡ (b || false)
or_nothing true = refl
or_nothing false = refl

-- one alternative
pub any_single : (f : Tree → Tags) (d : Tree) (u : Tag) → f d u ≡ any_of f (d ∷ []) u
any_single f d u = or_nothing (f d u)

pub list_described : (ts : Items) (K : KindTree) → has_items ts ≡ true → AreAlternatives 0 ts K → IsDescription (array ts) K
list_described ts K some is = record { faultless = faultless_inside (has_items ts) _ some is.faultless; tags = is.tags }

-- a list of one description
pub single : (from : ℕ) (t : Tree) (K : KindTree) → IsDescription t K → AreAlternatives from (item t no_items) K
single from t K is = record {
  faultless = faultless_both (place from) _ _ is.faultless refl;
  tags = λ p u. is.tags p u ∙ ap (λ ds. any_of (alternative_at p) ds u) (sym (append-nil (alternatives t)));
}

-- lists one behind the other
pub items_faults-append : (role : Role) (from : ℕ) (xs ys : List Value) → items_faults role from (items_view (xs ++ ys)) ≡ items_faults role from (items_view xs) ++ items_faults role (from + length xs) (items_view ys)
items_faults-append role from [] ys = ap (λ (n : ℕ). items_faults role n (items_view ys)) (omega arith)
items_faults-append role from (x ∷ xs) ys =
    ap (λ rest. under (place from) (faults role (tree_of x)) ++ rest) (items_faults-append role (suc from) xs ys ∙ ap (λ (n : ℕ). items_faults role (suc from) (items_view xs) ++ items_faults role n (items_view ys)) (omega arith))
    ∙ sym (append_assoc (under (place from) (faults role (tree_of x))) _ _)

items_alternatives-append : (xs ys : List Value) → items_alternatives (items_view (xs ++ ys)) ≡ items_alternatives (items_view xs) ++ items_alternatives (items_view ys)
items_alternatives-append [] ys = refl
items_alternatives-append (x ∷ xs) ys = ap (λ rest. alternatives (tree_of x) ++ rest) (items_alternatives-append xs ys) ∙ sym (append_assoc (alternatives (tree_of x)) _ _)

pub both : (from behind : ℕ) (all xs ys : List Value) (K L M : KindTree) → all ≡ xs ++ ys → behind ≡ from + length xs
    → AreAlternatives from (items_view xs) K → AreAlternatives behind (items_view ys) L → IsJoin K L M → AreAlternatives from (items_view all) M
both from behind all xs ys K L M parts at first second join = record {
  faultless = ap (λ vs. items_faults as_description from (items_view vs)) parts ∙ items_faults-append as_description from xs ys
      ∙ ap (λ ps. ps ++ items_faults as_description (from + length xs) (items_view ys)) first.faultless
      ∙ ap (λ (n : ℕ). items_faults as_description n (items_view ys)) (sym at) ∙ second.faultless;
  tags = λ p u. join p u ∙ ap (λ b. b || tags_at L p u) (first.tags p u) ∙ ap (λ b. any_of (alternative_at p) (items_alternatives (items_view xs)) u || b) (second.tags p u)
      ∙ sym (list_any-append (λ d. alternative_at p d u) (items_alternatives (items_view xs)) (items_alternatives (items_view ys)))
      ∙ ap (λ ds. any_of (alternative_at p) ds u) (sym (items_alternatives-append xs ys) ∙ ap (λ vs. items_alternatives (items_view vs)) (sym parts));
}
