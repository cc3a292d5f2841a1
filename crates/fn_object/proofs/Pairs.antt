-- An element of two parts, the first of which is a text, and one that is none.
use Rattle.std.proofs.Common.{◌≡◌, ◌==◌, ℕ, suc, Bool, true, false, List, [], ◌∷◌, Some, None, length, refl, sym, ap, ◌∙◌, arith}
use Rattle.std.proofs.lemmas.Bool.{eqb-true, true≢false}
use Rattle.vrl_value.specs.Tree.{Tree, string, integer, boolean, null, timestamp, regex, array, object, Items, no_items, item}
use Rattle.vrl_value.specs.View.{items_view, tree_of}
use Rattle.vrl_value.specs.declared.value.Value.{Value}
use Rattle.fn_object.specs.ObjectFromArray.{pair_in}

three : (t u w : Tree) (ts : Items) → None ≡ pair_in (item t (item u (item w ts)))
three (string s) u w ts = refl
three (integer n) u w ts = refl
three (boolean b) u w ts = refl
three null u w ts = refl
three (timestamp n) u w ts = refl
three (regex n) u w ts = refl
three (array us) u w ts = refl
three (object ms) u w ts = refl

apart : {C : Type 0} (b : Bool) → b ≡ true → b ≡ false → C
apart b is other = absurd (true≢false (sym is ∙ other))

pub more_at : (n : ℕ) (b : Bool) → (suc n == 0) ≡ b → b ≡ false
more_at n true is = let no : suc n ≡ 0 = eqb-true (suc n) 0 is in let never : ⊥ = omega (arith, no) in absurd never
more_at n false is = refl

behind_some : (f v : Value) (behind : List Value) (b : Bool) → b ≡ (length behind == 0) → b ≡ false → None ≡ pair_in (items_view (f ∷ v ∷ behind))
behind_some f v [] b is more = apart b is more
behind_some f v (w ∷ ws) b is more = three (tree_of f) (tree_of v) (tree_of w) (items_view ws)

pub pair_more : (vs rest behind : List Value) (f v : Value) (b : Bool) → vs ≡ f ∷ rest → rest ≡ v ∷ behind → b ≡ (length behind == 0) → b ≡ false → None ≡ pair_in (items_view vs)
pair_more vs rest behind f v b first second is more = behind_some f v behind b is more ∙ sym (ap (λ us. pair_in (items_view us)) (first ∙ ap (λ us. f ∷ us) second))

behind_none : (s : List ℕ) (f v : Value) (behind : List Value) (b : Bool) → tree_of f ≡ string s → b ≡ (length behind == 0) → b ≡ true → Some (s, tree_of v) ≡ pair_in (items_view (f ∷ v ∷ behind))
behind_none s f v [] b text is more = sym (ap (λ t. pair_in (item t (item (tree_of v) no_items))) text)
behind_none s f v (w ∷ ws) b text is more = apart b more (is ∙ more_at (length ws) (length (w ∷ ws) == 0) refl)

pub pair_text : (s : List ℕ) (vs rest behind : List Value) (f v : Value) (b : Bool) → tree_of f ≡ string s → vs ≡ f ∷ rest → rest ≡ v ∷ behind → b ≡ (length behind == 0) → b ≡ true → Some (s, tree_of v) ≡ pair_in (items_view vs)
pair_text s vs rest behind f v b text first second is more = behind_none s f v behind b text is more ∙ sym (ap (λ us. pair_in (items_view us)) (first ∙ ap (λ us. f ∷ us) second))
