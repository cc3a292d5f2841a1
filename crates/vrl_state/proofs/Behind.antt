-- What hidden names get back behind a scope.
use Rattle.std.proofs.Common.{◌≡◌, ◌||◌, ◌&&◌, ℕ, Bool, true, false, cond, List, [], ◌∷◌, length, Option, Some, None, is_some, bytes_eq, nat_cmp, refl, sym, ap, ◌∙◌}
use Rattle.std.proofs.lemmas.Bool.{true≢false}
use Rattle.std.proofs.lemmas.Cmp.{nat_list_cmp_total}
use Rattle.std.proofs.lemmas.Map.Text.{is_eq-slice_cmp}
use Rattle.std.proofs.lemmas.Slice.Eq.{bytes_eq-Decides}
use Rattle.std.specs.Cmp.Lexicographic.{slice_cmp}
use Rattle.std.specs.FinMap as map
use Rattle.std.specs.FinSet as set
use Rattle.std.specs.List.{list_any}
use Rattle.std.specs.Ordering.{eq_by_cmp}
use Rattle.vrl_value.specs.Tree.{Tree}
use Rattle.vrl_syntax.specs.Stores.{value_back, values_back, Values}
use Rattle.vrl_kind.specs.KindTree.{KindTree}
use Rattle.vrl_state.specs.Laws.{BlocksGiveNothingBack}
use Rattle.vrl_state.specs.States.{kept, kinds_back, RootMap, Scope, Variables}
use Rattle.vrl_state.specs.Stores.{FitsKind}
use Rattle.vrl_state.proofs.Finite.{at_kept}

abbrev pub first_of : {A : Type 0} → Option A → Option A → Option A
first_of (Some a) b = Some a
first_of None b = b

-- ---- kinds

first_found : (b : Bool) (K : KindTree) (o q : Option KindTree) → cond b (Some K) (first_of o q) ≡ first_of (cond b (Some K) o) q
first_found true K o q = refl
first_found false K o q = refl

kind_back : (es : List (List ℕ × KindTree)) (v : Variables) (x : List ℕ) → map.get (kinds_back es v) x ≡ first_of (map.find (slice_cmp nat_cmp) x es) (map.get v x)
kind_back [] v x = refl
kind_back (e ∷ es) v x =
    map.get-insert nat_list_cmp_total (kinds_back es v) e.0 e.1 x
    ∙ ap (λ o. cond (eq_by_cmp (slice_cmp nat_cmp) x e.0) (Some e.1) o) (kind_back es v x)
    ∙ first_found (eq_by_cmp (slice_cmp nat_cmp) x e.0) e.1 (map.find (slice_cmp nat_cmp) x es) (map.get v x)

-- what is known of a name behind a scope
pub at_behind : (scope : Scope) (v : Variables) (x : List ℕ)
    → map.get (kinds_back (map.entries scope.hidden) (map.retain_keys v (λ y. set.contains scope.known y))) x ≡ first_of (map.get scope.hidden x) (cond (set.contains scope.known x) (map.get v x) None)
at_behind scope v x =
    kind_back (map.entries scope.hidden) (map.retain_keys v (λ y. set.contains scope.known y)) x
    ∙ ap (λ o. first_of o (map.get (map.retain_keys v (λ y. set.contains scope.known y)) x)) (sym (map.get-entries scope.hidden x))
    ∙ ap (first_of (map.get scope.hidden x)) (at_kept v (λ y. set.contains scope.known y) x)

none_in : (es : List (List ℕ × KindTree)) → length es ≡ 0 → es ≡ []
none_in [] e = refl
none_in (x ∷ es) e = absurd cc

no_entries : map.entries {R = slice_cmp nat_cmp} (map.empty {X = KindTree}) ≡ []
no_entries = none_in _ (sym (map.len-entries map.empty) ∙ map.len-empty (slice_cmp nat_cmp) KindTree)

pub nothing_back : BlocksGiveNothingBack
nothing_back scope roots none =
    ap (λ es. record roots { variables = kinds_back es (map.retain_keys roots.variables (λ x. set.contains scope.known x)) }) (ap map.entries none ∙ no_entries)

-- a scope ends
pub scope_left : (scope : Scope) (event : KindTree) (m k n : Variables) (roots : RootMap) → record { event = event; variables = m } ≡ roots → k ≡ map.retain_keys m (λ x. set.contains scope.known x) → n ≡ kinds_back (map.entries scope.hidden) k
    → record { event = event; variables = n } ≡ kept scope roots
scope_left scope event m k n roots seen stays back = ap (λ v. record { event = event; variables = v }) (back ∙ ap (kinds_back (map.entries scope.hidden)) stays) ∙ ap (kept scope) seen

-- ---- values

-- what a hidden name, or another, has again
abbrev pub back_at : Bool → Option Tree → Option Tree → Option Tree
back_at false w o = o
back_at true None o = o
back_at true (Some v) o = Some v

nothing_to_give : (b : Bool) (o : Option Tree) → back_at b None o ≡ o
nothing_to_give false o = refl
nothing_to_give true o = refl

given_at : (x y : List ℕ) (b any : Bool) (w : Option Tree) (before m : Values) (o : Option Tree) → bytes_eq x y ≡ b → map.get before y ≡ w → map.get m x ≡ back_at any (map.get before x) o
    → map.get (value_back y w m) x ≡ back_at (b || any) (map.get before x) o
given_at x y false any None before m o is there so_far = so_far
given_at x y true any None before m o is there so_far =
    let lacks : map.get before x ≡ None = ap (map.get before) ((bytes_eq-Decides x y).0 is) ∙ there in
    so_far ∙ ap (λ w. back_at any w o) lacks ∙ nothing_to_give any o ∙ sym (ap (λ w. back_at true w o) lacks)
given_at x y false any (Some v) before m o is there so_far =
    map.get-insert nat_list_cmp_total m y v x ∙ ap (λ b. cond b (Some v) (map.get m x)) (is_eq-slice_cmp x y ∙ is) ∙ so_far
given_at x y true any (Some v) before m o is there so_far =
    map.get-insert nat_list_cmp_total m y v x ∙ ap (λ b. cond b (Some v) (map.get m x)) (is_eq-slice_cmp x y ∙ is)
    ∙ sym (ap (λ w. back_at true w o) (ap (map.get before) ((bytes_eq-Decides x y).0 is) ∙ there))

-- what a store holds at a name behind a scope
pub value_behind : (names : List (List ℕ)) (before m : Values) (x : List ℕ) → map.get (values_back names before m) x ≡ back_at (list_any (bytes_eq x) names) (map.get before x) (map.get m x)
value_behind [] before m x = refl
value_behind (y ∷ names) before m x = given_at x y (bytes_eq x y) (list_any (bytes_eq x) names) (map.get before y) before (values_back names before m) (map.get m x) refl refl (value_behind names before m x)

-- ---- both

pub fits_behind : (hidden : Option KindTree) (among knows : Bool) (before after : Option Tree) (K : Option KindTree) → is_some hidden ≡ (among && knows) → (knows ≡ true → is_some before ≡ true) → FitsKind before hidden → FitsKind after K
    → FitsKind (back_at among before (cond (is_some before) after None)) (first_of hidden (cond knows K None))
fits_behind None among false before after K is holds back fits = tt
fits_behind None true true before after K is holds back fits = absurd (true≢false (sym is))
fits_behind None false true None after K is holds back fits = absurd (true≢false (sym (holds refl)))
fits_behind None false true (Some v) after K is holds back fits = fits
fits_behind (Some L) false knows before after K is holds back fits = absurd (true≢false is)
fits_behind (Some L) true false before after K is holds back fits = absurd (true≢false is)
fits_behind (Some L) true true None after K is holds back fits = absurd back
fits_behind (Some L) true true (Some v) after K is holds back fits = back
