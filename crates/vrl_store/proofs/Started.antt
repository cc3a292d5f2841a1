-- A store in which the metadata alone is there.
use Rattle.std.proofs.Common.{◌≡◌, ℕ, zero, suc, false, true, Bool, List, [], ◌∷◌, ◌++◌, Option, Some, None, refl, rules, sym, ap, ◌∙◌, subst}
use Rattle.std.specs.FinMap as finite
use Rattle.std.specs.Prelude.{⊤}
use Rattle.vrl_value.specs.Tree.{null}
use Rattle.vrl_value.specs.View.{tree_of}
use Rattle.vrl_value.specs.declared.value.Value.{Value, the_lemmas}
use Rattle.vrl_value.specs.declared.value.Value.TheVariants as value
use Rattle.vrl_syntax.specs.Stores.{metadata_name, store_of}
use Rattle.vrl_store.specs.Kept.{is_numbered, is_one_of, trees_of, AreKept, AreShallow, IsShallow}
use Rattle.vrl_store.specs.StoreView.{variables_of, BeginWithMetadata, Names}
use Rattle.vrl_store.proofs.StoreReads.{seen}

-- no variable is there
abbrev pub AreNone : List (Option Value) → Type 0
AreNone [] = ⊤
AreNone (None ∷ vs) = AreNone vs
AreNone (Some v ∷ vs) = ⊥

none_more : (vs : List (Option Value)) → AreNone vs → AreNone (vs ++ None ∷ [])
none_more [] are = tt
none_more (None ∷ vs) are = none_more vs are
none_more (Some v ∷ vs) are = absurd are

not_numbered : (vs : List (Option Value)) (n : ℕ) → AreNone vs → is_numbered (trees_of vs) n ≡ false
not_numbered [] n are = refl
not_numbered (None ∷ vs) zero are = refl
not_numbered (None ∷ vs) (suc n) are = not_numbered vs n are
not_numbered (Some v ∷ vs) n are = absurd are

none_shallow : (vs : List (Option Value)) → AreNone vs → AreShallow (trees_of vs)
none_shallow [] are = tt
none_shallow (None ∷ vs) are = (tt, none_shallow vs are)
none_shallow (Some v ∷ vs) are = absurd are

none_named : (names : Names) (vs : List (Option Value)) → AreNone vs → variables_of names (trees_of vs) ≡ finite.empty
none_named [] vs are = refl
none_named (x ∷ names) [] are = refl
none_named (x ∷ names) (None ∷ vs) are = none_named names vs are
none_named (x ∷ names) (Some v ∷ vs) are = absurd are

-- the first variable has this value, and no other is there
abbrev pub IsAlone : Value → List (Option Value) → Type 0
IsAlone v [] = ⊥
IsAlone v (None ∷ vs) = ⊥
IsAlone v (Some w ∷ vs) = (w ≡ v) × AreNone vs

pub alone_first : (v : Value) → IsAlone v (Some v ∷ [])
alone_first v = (refl, tt)

pub alone_more : (v : Value) (vs : List (Option Value)) → IsAlone v vs → IsAlone v (vs ++ None ∷ [])
alone_more v [] is = absurd is
alone_more v (None ∷ vs) is = absurd is
alone_more v (Some w ∷ vs) is = (is.0, none_more vs is.1)

pub started : (names : Names) (event first beside : Value) (items : List (Option Value)) → BeginWithMetadata names → IsAlone beside items → event ≡ first
    → seen names event items ≡ store_of (tree_of first) (tree_of beside)
started names event first beside [] begins is one = absurd is
started names event first beside (None ∷ vs) begins is one = absurd is
started [] event first beside (Some v ∷ vs) begins is one = absurd (cc)
started (x ∷ names) event first beside (Some v ∷ vs) begins is one = λ i. record { event = tree_of (one i); variables = made i } where
  named : x ≡ metadata_name
  named = cc

  made : variables_of (x ∷ names) (trees_of (Some v ∷ vs)) ≡ finite.insert finite.empty metadata_name (tree_of beside)
  made =
      ap (λ m. finite.insert m x (tree_of v)) (none_named names vs is.1)
      ∙ ap (λ k. finite.insert finite.empty k (tree_of v)) named
      ∙ ap (λ u. finite.insert finite.empty metadata_name (tree_of u)) is.0

pub null_tree : tree_of value.Null ≡ null
null_tree = search (rules, the_lemmas)

counted_first : (v : Value) (vs : List (Option Value)) (n : ℕ) → AreNone vs → is_numbered (trees_of (Some v ∷ vs)) n ≡ true → is_one_of n (0 ∷ []) ≡ true
counted_first v vs zero are is = refl
counted_first v vs (suc n) are is = let wrong : false ≡ true = sym (not_numbered vs n are) ∙ is in absurd (cc)

pub kept_started : (marked : Bool) (beside : Value) (items : List (Option Value)) → IsAlone beside items → (marked ≡ true → IsShallow (tree_of beside)) → AreKept marked (trees_of items) (0 ∷ [])
kept_started marked beside [] is shallow = absurd is
kept_started marked beside (None ∷ vs) is shallow = absurd is
kept_started marked beside (Some v ∷ vs) is shallow = record {
  present = (refl, (refl, tt));
  counted = λ n there. counted_first v vs n is.1 there;
  shallow = λ so. (subst (λ u. IsShallow (tree_of u)) (sym is.0) (shallow so), none_shallow vs is.1);
}
