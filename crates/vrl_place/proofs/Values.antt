-- Values of a kind, and what is found in them.
use Rattle.std.proofs.Common.{◌≡◌, ◌≢◌, inl, inr, ℕ, pos, negsuc, Bool, true, ◌||◌, IsTrue, List, [], ◌∷◌, Option, Some, None, Ordering, Less, Equal, Greater, unwrap_or, refl, sym, subst}
use Rattle.std.proofs.lemmas.Option.{IfSome_then}
use Rattle.std.specs.Option.{IfSome}
use Rattle.std.specs.Ordering.{match_ordering}
use Rattle.vrl_value.specs.Look.{Step, field, place, Found, there, missing, no_place, raw_at, part_at, found_if, found_behind, item_at, tag_found}
use Rattle.vrl_value.specs.Tag.{tag_of}
use Rattle.vrl_value.specs.Tree.{Tree, string, integer, boolean, null, timestamp, regex, array, object, Items, find}
use Rattle.vrl_value.specs.declared.value.Tag.{Tag}
use Rattle.vrl_value.specs.declared.value.Tag.TheVariants as tag
use Rattle.vrl_path.specs.Read.{item_if, place_of, read_at, signed_part_at, signed_raw_at, tree_found}
use Rattle.vrl_path.specs.declared.path.Step.{Step as CodeStep}
use Rattle.vrl_path.specs.declared.path.Step.TheVariants.{Field, Place}
use Rattle.vrl_kind.specs.Kinds.{step_tag}
use Rattle.vrl_kind.specs.Sets.{Sets}
use Rattle.vrl_kind.specs.Tags.{Tags}
use Rattle.vrl_place.specs.Absence.{may_be_absent}
use Rattle.vrl_place.specs.Read.{Allowed, AllowsOther, HasJust, allowed, read, read_part, read_some_place, read_step}
use Rattle.vrl_place.specs.Sets.{has_other, or_absent_if, part}
use Rattle.vrl_place.proofs.Tags.{left_of, other_there, right_of, value_present}

-- the value is allowed at each path
abbrev pub IsIn : Tree → Allowed → Type 0
IsIn v A = (p : List Step) → IfSome (tag_found (raw_at v p)) (λ t. A p t)

pub some_tree : (x y : Tree) → Some x ≡ Some y → x ≡ y
some_tree x y is = cc

pub found_none : (o : Option Tree) → found_if o ≢ no_place
found_none None e = cc
found_none (Some t) e = cc

-- where a step finds no place, the value has another tag than that of its container
pub other_tag : (v : Tree) (s : Step) → part_at v s ≡ no_place → tag_of v ≢ step_tag s
other_tag (string x) (field k) none e = cc
other_tag (string x) (place i) none e = cc
other_tag (integer x) (field k) none e = cc
other_tag (integer x) (place i) none e = cc
other_tag (boolean x) (field k) none e = cc
other_tag (boolean x) (place i) none e = cc
other_tag null (field k) none e = cc
other_tag null (place i) none e = cc
other_tag (timestamp x) (field k) none e = cc
other_tag (timestamp x) (place i) none e = cc
other_tag (regex x) (field k) none e = cc
other_tag (regex x) (place i) none e = cc
other_tag (array ts) (field k) none e = cc
other_tag (array ts) (place i) none e = found_none (item_at i ts) none
other_tag (object ms) (field k) none e = found_none (find k ms) none
other_tag (object ms) (place i) none e = cc

-- and where it finds one, that tag
pub fitting_tag : (v : Tree) (s : Step) → part_at v s ≢ no_place → tag_of v ≡ step_tag s
fitting_tag (string x) (field k) h = absurd (h refl)
fitting_tag (string x) (place i) h = absurd (h refl)
fitting_tag (integer x) (field k) h = absurd (h refl)
fitting_tag (integer x) (place i) h = absurd (h refl)
fitting_tag (boolean x) (field k) h = absurd (h refl)
fitting_tag (boolean x) (place i) h = absurd (h refl)
fitting_tag null (field k) h = absurd (h refl)
fitting_tag null (place i) h = absurd (h refl)
fitting_tag (timestamp x) (field k) h = absurd (h refl)
fitting_tag (timestamp x) (place i) h = absurd (h refl)
fitting_tag (regex x) (field k) h = absurd (h refl)
fitting_tag (regex x) (place i) h = absurd (h refl)
fitting_tag (array ts) (field k) h = absurd (h refl)
fitting_tag (array ts) (place i) h = refl
fitting_tag (object ms) (field k) h = refl
fitting_tag (object ms) (place i) h = absurd (h refl)

pub nothing_behind : (P : Tag → Type 0) (q : Step) (p : List Step) → IfSome (tag_found (raw_at null (q ∷ p))) P
nothing_behind P (field k) p = tt
nothing_behind P (place i) p = tt

pub still_allowed : (b : Bool) (A : Sets) (p : List Step) (t : Tag) → IsTrue (A p t) → IsTrue (or_absent_if b A p t)
still_allowed b A [] t h = left_of _ _ h
still_allowed b A (s ∷ p) t h = h

-- a case for each order
pub by_order : (o : Ordering) (X I Y : Tags) (f : Option Tag) → (o ≡ Less → IfSome f (λ u. IsTrue (X u))) → (o ≡ Equal → IfSome f (λ u. IsTrue (I u))) → (o ≡ Greater → IfSome f (λ u. IsTrue (Y u))) → IfSome f (λ u. IsTrue (match_ordering o X I Y u))
by_order Less X I Y f x i y = x refl
by_order Equal X I Y f x i y = i refl
by_order Greater X I Y f x i y = y refl

-- what a step reads
part_read : (A : Allowed) (s : Step) (f : Found) → ((p : List Step) → IfSome (tag_found (found_behind f p (λ u. raw_at u p))) (λ t. A (s ∷ p) t)) → (f ≡ no_place → AllowsOther A s)
    → IsIn (unwrap_or (tree_found f) null) (read_part A s)
part_read A s (there u) h other [] = inl (value_present u, h [])
part_read A s (there u) h other (q ∷ p) = h (q ∷ p)
part_read A s missing h other [] = inr (refl, inl (h []))
part_read A s missing h other (q ∷ p) = nothing_behind (λ t. read_part A s (q ∷ p) t) q p
part_read A s no_place h other [] = inr (refl, inr (other refl))
part_read A s no_place h other (q ∷ p) = nothing_behind (λ t. read_part A s (q ∷ p) t) q p

null_read : (A : Allowed) → IsIn null (read_some_place A)
null_read A [] = inr refl
null_read A (q ∷ p) = nothing_behind (λ t. read_some_place A (q ∷ p) t) q p

some_read : (A : Allowed) (j : ℕ) (f : Found) → ((p : List Step) → IfSome (tag_found (found_behind f p (λ u. raw_at u p))) (λ t. A (place j ∷ p) t)) → IsIn (unwrap_or (tree_found f) null) (read_some_place A)
some_read A j (there u) h [] = inl (value_present u, (j, h []))
some_read A j (there u) h (q ∷ p) = IfSome_then (tag_found (raw_at u (q ∷ p))) (h (q ∷ p)) (λ t a. (j, a))
some_read A j missing h p = null_read A p
some_read A j no_place h p = null_read A p

array_read : (A : Allowed) (ts : Items) → IsIn (array ts) A → (o : Option ℕ) → IsIn (unwrap_or (tree_found (item_if o ts)) null) (read_some_place A)
array_read A ts h None = null_read A
array_read A ts h (Some j) = some_read A j (found_if (item_at j ts)) (λ p. h (place j ∷ p))

pub field_same : (v : Tree) (k : List ℕ) → part_at v (field k) ≡ signed_part_at v (Field k)
field_same (string x) k = refl
field_same (integer x) k = refl
field_same (boolean x) k = refl
field_same null k = refl
field_same (timestamp x) k = refl
field_same (regex x) k = refl
field_same (array ts) k = refl
field_same (object ms) k = refl

pub place_same : (v : Tree) (i : ℕ) → part_at v (place i) ≡ signed_part_at v (Place (pos i))
place_same (string x) i = refl
place_same (integer x) i = refl
place_same (boolean x) i = refl
place_same null i = refl
place_same (timestamp x) i = refl
place_same (regex x) i = refl
place_same (array ts) i = refl
place_same (object ms) i = refl

plain_read : (v : Tree) (A : Allowed) (s : Step) → IsIn v A → IsIn (unwrap_or (tree_found (part_at v s)) null) (read_part A s)
plain_read v A s h = part_read A s (part_at v s) (λ p. h (s ∷ p)) (λ none. (tag_of v, other_tag v s none, h []))

step_read : (v : Tree) (A : Allowed) (s : CodeStep) → IsIn v A → IsIn (unwrap_or (tree_found (signed_part_at v s)) null) (read_step A s)
step_read v A (Field k) h = subst (λ f. IsIn (unwrap_or (tree_found f) null) (read_part A (field k))) (field_same v k) (plain_read v A (field k) h)
step_read v A (Place (pos i)) h = subst (λ f. IsIn (unwrap_or (tree_found f) null) (read_part A (place i))) (place_same v i) (plain_read v A (place i) h)
step_read (string x) A (Place (negsuc i)) h = null_read A
step_read (integer x) A (Place (negsuc i)) h = null_read A
step_read (boolean x) A (Place (negsuc i)) h = null_read A
step_read null A (Place (negsuc i)) h = null_read A
step_read (timestamp x) A (Place (negsuc i)) h = null_read A
step_read (regex x) A (Place (negsuc i)) h = null_read A
step_read (array ts) A (Place (negsuc i)) h = array_read A ts h (place_of _ (negsuc i))
step_read (object ms) A (Place (negsuc i)) h = null_read A

behind_read : (f : Found) (r : List CodeStep) → unwrap_or (read_at (unwrap_or (tree_found f) null) r) null ≡ unwrap_or (tree_found (found_behind f r (λ u. signed_raw_at u r))) null
behind_read (there t) r = refl
behind_read missing [] = refl
behind_read missing (Field k ∷ r) = refl
behind_read missing (Place i ∷ r) = refl
behind_read no_place [] = refl
behind_read no_place (Field k ∷ r) = refl
behind_read no_place (Place i ∷ r) = refl

-- what a read finds in a value is of what a read finds in its kind
read_in : (r : List CodeStep) (v : Tree) (A : Allowed) → IsIn v A → IsIn (unwrap_or (read_at v r) null) (read A r)
read_in [] v A h = h
read_in (s ∷ r) v A h = subst (λ w. IsIn w (read (read_step A s) r)) (behind_read (signed_part_at v s) r) (read_in r (unwrap_or (tree_found (signed_part_at v s)) null) (read_step A s) (step_read v A s h))

pub read_inhabits : (r : List CodeStep) (v : Tree) (A K : Sets) → HasJust K (read (allowed A) r) → IsIn v (allowed A) → IsIn (unwrap_or (read_at v r) null) (allowed K)
read_inhabits r v A K has h p = IfSome_then (tag_found (raw_at (unwrap_or (read_at v r) null) p)) (read_in r v (allowed A) h p) (λ t a. (has p t).1 a)

absent_found : (A : Sets) (s : Step) (r : List CodeStep) (f : Found) → ((p : List Step) → IfSome (tag_found (found_behind f p (λ u. raw_at u p))) (λ t. IsTrue (A (s ∷ p) t))) → (f ≡ no_place → has_other (A []) (step_tag s) ≡ true)
    → tree_found (found_behind f r (λ u. signed_raw_at u r)) ≡ None → ((u : Tree) → IsIn u (allowed (part A s)) → read_at u r ≡ None → IsTrue (may_be_absent (part A s) r)) → IsTrue (has_other (A []) (step_tag s) || may_be_absent (part A s) r)
absent_found A s r (there u) h other none later = right_of _ _ (later u h none)
absent_found A s [] missing h other none later = right_of _ _ (h [])
absent_found A s (Field k ∷ r) missing h other none later = right_of _ _ (left_of _ _ (other_there (A (s ∷ [])) tag.Object tag.Absent (h []) (λ e. cc)))
absent_found A s (Place (pos i) ∷ r) missing h other none later = right_of _ _ (left_of _ _ (other_there (A (s ∷ [])) tag.List tag.Absent (h []) (λ e. cc)))
absent_found A s (Place (negsuc i) ∷ r) missing h other none later = right_of _ _ refl
absent_found A s r no_place h other none later = left_of _ _ (other refl)

-- where nothing is found, that may be absent
pub absent_in : (r : List CodeStep) (v : Tree) (A : Sets) → IsIn v (allowed A) → read_at v r ≡ None → IsTrue (may_be_absent A r)
absent_in [] v A h none = cc
absent_in (Field k ∷ r) v A h none =
    absent_found A (field k) r (part_at v (field k)) (λ p. h (field k ∷ p)) (λ no. other_there (A []) tag.Object (tag_of v) (h []) (other_tag v (field k) no))
    (subst (λ f. tree_found (found_behind f r (λ u. signed_raw_at u r)) ≡ None) (sym (field_same v k)) none) (λ u. absent_in r u (part A (field k)))
absent_in (Place (pos i) ∷ r) v A h none =
    absent_found A (place i) r (part_at v (place i)) (λ p. h (place i ∷ p)) (λ no. other_there (A []) tag.List (tag_of v) (h []) (other_tag v (place i) no))
    (subst (λ f. tree_found (found_behind f r (λ u. signed_raw_at u r)) ≡ None) (sym (place_same v i)) none) (λ u. absent_in r u (part A (place i)))
absent_in (Place (negsuc i) ∷ r) v A h none = refl
