-- Versions of the tree as finite maps from names.
use Rattle.std.proofs.Common.{◌≡◌, ◌↔◌, ℕ, cond, List, [], ◌∷◌, Option, Some, None, is_some, refl, sym, ap, ◌∙◌, subst}
use Rattle.std.proofs.lemmas.Cmp.{nat_list_cmp_total}
use Rattle.std.specs.FinMap as finite
use Rattle.std.specs.FinMap.Entries.{find-put}
use Rattle.std.specs.FinSet as set
use Rattle.std.specs.Ordering.{eq_by_cmp}
use Rattle.vrl_kind.specs.KindTree.{KindTree}
use Rattle.vrl_state.specs.Merging.{kept_if, puts, HoldsIf, IsJoinedIf, IsJoinedPart, IsKeptPart, IsPartOf}
use Rattle.vrl_state.specs.Ordered.{found, put_entry, Entry, IsSorted}
use Rattle.vrl_state.specs.States.{kinds_back, IsEitherVariable, IsVariableWithin, Variables}
use Rattle.vrl_state.specs.View.{names_of, variables_of}
use Rattle.vrl_state.proofs.Cutting.{name_cmp, sorted_put}
use Rattle.vrl_state.proofs.Finite.{at_kept, same_map}

pub at_found : (es : List Entry) (x : List ℕ) → IsSorted es → finite.get (variables_of es) x ≡ found x es
at_found es x s = finite.get-from_sorted name_cmp es x s

pub entries_of : (es : List Entry) → IsSorted es → finite.entries (variables_of es) ≡ es
entries_of es s = finite.entries-from_sorted name_cmp es s

pub no_entries : variables_of [] ≡ finite.empty
no_entries = same_map (variables_of []) finite.empty (λ x. at_found [] x tt ∙ sym (finite.get-empty name_cmp x))

pub put_is : (e : Entry) (es : List Entry) → IsSorted es → variables_of (put_entry e es) ≡ finite.insert (variables_of es) e.0 e.1
put_is e es s =
    same_map _ _ (λ x.
    at_found (put_entry e es) x (sorted_put e es s)
    ∙ find-put name_cmp nat_list_cmp_total x e.0 e.1 es
    ∙ ap (cond (eq_by_cmp name_cmp x e.0) (Some e.1)) (sym (at_found es x s))
    ∙ sym (finite.get-insert nat_list_cmp_total (variables_of es) e.0 e.1 x))

-- a version that was changed at one name
pub inserted : (es new : List Entry) (e : Entry) (v : Variables) → IsSorted es → variables_of es ≡ v → new ≡ put_entry e es → variables_of new ≡ finite.insert v e.0 e.1
inserted es new e v s is put = ap variables_of put ∙ put_is e es s ∙ ap (λ m. finite.insert m e.0 e.1) is

sorted_puts : (fs es : List Entry) → IsSorted es → IsSorted (puts fs es)
sorted_puts [] es s = s
sorted_puts (f ∷ fs) es s = sorted_put f (puts fs es) (sorted_puts fs es s)

pub puts_are : (fs es : List Entry) → IsSorted es → variables_of (puts fs es) ≡ kinds_back fs (variables_of es)
puts_are [] es s = refl
puts_are (f ∷ fs) es s = put_is f (puts fs es) (sorted_puts fs es s) ∙ ap (λ m. finite.insert m f.0 f.1) (puts_are fs es s)

pub all_put : (fs es new : List Entry) (u v : Variables) → IsSorted fs → IsSorted es → variables_of fs ≡ u → variables_of es ≡ v → new ≡ puts fs es → variables_of new ≡ kinds_back (finite.entries u) v
all_put fs es new u v sf se first second is =
    ap variables_of is ∙ puts_are fs es se ∙ ap (kinds_back fs) second
    ∙ ap (λ gs. kinds_back gs v) (sym (entries_of fs sf) ∙ ap finite.entries first)

-- ---- names

pub has_name : (v : Variables) (x : List ℕ) → set.contains (names_of v) x ≡ finite.contains_key v x
has_name v x = set.contains-from_list nat_list_cmp_total (finite.keys v) x ∙ sym (finite.contains_key-keys v x)

kept_here : (o p : Option KindTree) → kept_if (is_some o) (is_some p) o ≡ cond (is_some p) o None
kept_here None None = refl
kept_here None (Some L) = refl
kept_here (Some K) p = refl

pub names_kept : (es ns before new : List Entry) (v w : Variables) → IsSorted es → IsSorted ns → IsSorted new → variables_of es ≡ v → variables_of ns ≡ w → before ≡ es → IsKeptPart es ns before new → variables_of new ≡ finite.retain_keys v (λ x. set.contains (names_of w) x)
names_kept es ns before new v w se sn s first second same kept' =
    let kept : IsKeptPart es ns es new = subst (λ fs. IsKeptPart es ns fs new) same kept' in
    same_map _ _ (λ x.
    let found_name : is_some (found x ns) ≡ set.contains (names_of w) x =
    ap is_some (sym (at_found ns x sn) ∙ ap (λ m. finite.get m x) second) ∙ sym (has_name w x)
    in
    at_found new x s ∙ kept x ∙ kept_here (found x es) (found x ns)
    ∙ ap (λ b. cond b (found x es) None) found_name
    ∙ ap (λ o. cond (set.contains (names_of w) x) o None) (sym (at_found es x se) ∙ ap (λ m. finite.get m x) first)
    ∙ sym (at_kept v (λ y. set.contains (names_of w) y) x))

-- ---- what holds at each name

pub at_each : (P : List ℕ → Option KindTree → Type 0) (es : List Entry) (v : Variables) → IsSorted es → variables_of es ≡ v → ((x : List ℕ) → P x (finite.get v x)) → (x : List ℕ) → P x (found x es)
at_each P es v s is all x = subst (P x) (sym (ap (λ m. finite.get m x) is) ∙ at_found es x s) (all x)

pub of_each : (P : List ℕ → Option KindTree → Type 0) (es : List Entry) (v : Variables) → IsSorted es → variables_of es ≡ v → ((x : List ℕ) → P x (found x es)) → (x : List ℕ) → P x (finite.get v x)
of_each P es v s is all x = subst (P x) (sym (at_found es x s) ∙ ap (λ m. finite.get m x) is) (all x)

-- ---- joins and order

holds_itself : (o : Option KindTree) → HoldsIf o o
holds_itself None = tt
holds_itself (Some K) = refl

pub whole_is_part : (es before : List Entry) → before ≡ es → IsPartOf es before
whole_is_part es before same = subst (IsPartOf es) (sym same) (λ x. holds_itself (found x es))

joined_whole : (K L M : Option KindTree) → IsJoinedIf K L K M → IsEitherVariable K L M
joined_whole None L M is = is
joined_whole (Some K) L M is = is

pub all_joined : (es fs before new : List Entry) (u v : Variables) → IsSorted es → IsSorted fs → IsSorted new → variables_of es ≡ u → variables_of fs ≡ v → before ≡ es → IsJoinedPart es fs before new
    → (x : List ℕ) → IsEitherVariable (finite.get u x) (finite.get v x) (finite.get (variables_of new) x)
all_joined es fs before new u v se sf s first second same joined x =
    subst (λ o. IsEitherVariable o (finite.get v x) (finite.get (variables_of new) x)) (sym (at_found es x se) ∙ ap (λ m. finite.get m x) first)
    (subst (λ o. IsEitherVariable (found x es) o (finite.get (variables_of new) x)) (sym (at_found fs x sf) ∙ ap (λ m. finite.get m x) second)
    (subst (IsEitherVariable (found x es) (found x fs)) (sym (at_found new x s))
    (joined_whole (found x es) (found x fs) (found x new) (subst (λ gs. IsJoinedPart es fs gs new) same joined x))))

pub over_versions : (es fs : List Entry) (u v : Variables) → IsSorted es → IsSorted fs → variables_of es ≡ u → variables_of fs ≡ v
    → ((x : List ℕ) → IsVariableWithin (found x es) (found x fs)) ↔ ((x : List ℕ) → IsVariableWithin (finite.get u x) (finite.get v x))
over_versions es fs u v se sf first second =
    let left = λ (x : List ℕ). ap (λ m. finite.get m x) (sym first) ∙ at_found es x se in
    let right = λ (x : List ℕ). ap (λ m. finite.get m x) (sym second) ∙ at_found fs x sf in (
      λ all x. subst (λ o. IsVariableWithin o (finite.get v x)) (sym (left x)) (subst (IsVariableWithin (found x es)) (sym (right x)) (all x)),
      λ all x. subst (λ o. IsVariableWithin o (found x fs)) (left x) (subst (IsVariableWithin (finite.get u x)) (right x) (all x)),
    )
