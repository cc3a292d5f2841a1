-- Known places and fields put together in the one form.
use Rattle.std.proofs.Common.{◌≡◌, ◌≢◌, ℕ, zero, suc, ◌<◌, List, [], ◌∷◌, ◌++◌, length, take, get_or, refl, sym, ap, ◌∙◌, subst, arith}
use Rattle.vrl_kind.specs.KindTree.{KindTree, Places, known_field}
use Rattle.vrl_kind.specs.Canonical.{place_or, LastIsNot, IsCanonical, PlacesAreCanonical}
use Rattle.vrl_kind.specs.Make.{IsShortened, add_field}
use Rattle.vrl_kind.specs.View.{places_view, fields_view}
use Rattle.vrl_kind.specs.declared.kind.KindField.{KindField}

pub shortened_first : (K : KindTree) (ks xs : List KindTree) → xs ≡ ks → IsShortened K (places_view ks) (places_view xs)
shortened_first K ks xs is = rw is record { same = λ i. refl; canonical = λ c. c }

same_take : (ks : List KindTree) (n next : ℕ) (k K : KindTree) (i : ℕ) → next ≡ suc n → n < length ks → k ≡ get_or ks n k → k ≡ K → place_or (places_view (take n ks)) K i ≡ place_or (places_view (take next ks)) K i
same_take [] n next k K i e below at is = absurd (omega arith)
same_take (x ∷ ks) zero next k K zero e below at is = rw e (sym is ∙ at)
same_take (x ∷ ks) zero next k K (suc i) e below at is = rw e refl
same_take (x ∷ ks) (suc n) next k K zero e below at is = rw e refl
same_take (x ∷ ks) (suc n) next k K (suc i) e below at is = rw e (same_take ks n (suc n) k K i refl (omega arith) at is)

canonical_back : (ks : List KindTree) (n next : ℕ) → next ≡ suc n → n < length ks → PlacesAreCanonical (places_view (take next ks)) → PlacesAreCanonical (places_view (take n ks))
canonical_back [] n next e below all = absurd (omega arith)
canonical_back (x ∷ ks) zero next e below all = tt
canonical_back (x ∷ ks) (suc n) next e below all =
    let now : PlacesAreCanonical (places_view (take (suc (suc n)) (x ∷ ks))) = rw e at all in
    (now.0, canonical_back ks n (suc n) refl (omega arith) now.1)

-- one place less, which is K
pub shortened_next : (K : KindTree) (ps : Places) (ks : List KindTree) (n next : ℕ) (k : KindTree) → next ≡ suc n → n < length ks → k ≡ get_or ks n k → k ≡ K → IsShortened K ps (places_view (take next ks)) → IsShortened K ps (places_view (take n ks))
shortened_next K ps ks n next k e below at is far = record {
  same = λ i. same_take ks n next k K i e below at is ∙ far.same i;
  canonical = λ c. canonical_back ks n next e below (far.canonical c);
}

-- the last place isn't K
pub last_take : (ks : List KindTree) (n next : ℕ) (k K : KindTree) → next ≡ suc n → n < length ks → k ≡ get_or ks n k → k ≢ K → LastIsNot K (places_view (take next ks))
last_take [] n next k K e below at other = absurd (omega arith)
last_take (x ∷ ks) zero next k K e below at other = rw e (λ is. other (at ∙ is))
last_take (x ∷ []) (suc n) next k K e below at other = absurd (omega arith)
last_take (x ∷ y ∷ ks) (suc n) next k K e below at other = rw e (last_take (y ∷ ks) n (suc n) k K refl (omega arith) at other)

-- one more place of the one form
pub canonical_take : (ks : List KindTree) (i next : ℕ) (k : KindTree) → next ≡ suc i → i < length ks → k ≡ get_or ks i k → PlacesAreCanonical (places_view (take i ks)) → IsCanonical k → PlacesAreCanonical (places_view (take next ks))
canonical_take [] i next k e below is all one = absurd (omega arith)
canonical_take (x ∷ ks) zero next k e below is all one = rw e (subst IsCanonical is one, tt)
canonical_take (x ∷ ks) (suc i) next k e below is all one = rw e (all.0, canonical_take ks i (suc i) k refl (omega arith) is all.1 one)

pub canonical_more : (ks : List KindTree) (k : KindTree) → PlacesAreCanonical (places_view ks) → IsCanonical k → PlacesAreCanonical (places_view (ks ++ k ∷ []))
canonical_more [] k all one = (one, tt)
canonical_more (x ∷ ks) k all one = (all.0, canonical_more ks k all.1 one)

pub fields_view_add : (fs : List KindField) (n : List ℕ) (k : KindTree) → fields_view (fs ++ record { name = n; kind = k } ∷ []) ≡ add_field (fields_view fs) n k
fields_view_add [] n k = refl
fields_view_add (f ∷ fs) n k = ap (known_field f.name f.kind) (fields_view_add fs n k)
