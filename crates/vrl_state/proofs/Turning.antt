-- Roots that are flattened or forgotten, and names that are hidden.
use Rattle.std.proofs.Common.{◌≡◌, ◌≢◌, ◌||◌, ◌&&◌, ◌+◌, ◌<◌, ℕ, Bool, true, false, cond, not, bytes_eq, List, [], ◌∷◌, ◌++◌, Option, Some, None, is_some, if◌then◌else◌, nat_cmp, option_map, take, length, get_or, refl, sym, ap, ◌∙◌, subst}
use Rattle.std.proofs.lemmas.Bool.{and_from, and_right, true≢false}
use Rattle.std.proofs.lemmas.Cmp.{nat_list_cmp_total}
use Rattle.std.proofs.lemmas.List.{take_more}
use Rattle.std.proofs.lemmas.Map.Text.{is_eq-slice_cmp}
use Rattle.std.proofs.lemmas.Slice.Eq.{bytes_eq-Decides}
use Rattle.std.specs.Cmp.Lexicographic.{slice_cmp}
use Rattle.std.specs.FinMap as map
use Rattle.std.specs.FinSet as set
use Rattle.std.specs.List.{list_any}
use Rattle.std.specs.Ordering.{eq_by_cmp}
use Rattle.vrl_value.specs.Tree.{Tree}
use Rattle.vrl_syntax.specs.declared.root.Root.{Root}
use Rattle.vrl_syntax.specs.declared.root.Root.TheVariants.{Event, Name}
use Rattle.vrl_kind.specs.Cut.{flat, flat_list, flat_object, IsCut}
use Rattle.vrl_kind.specs.KindTree.{KindTree, kind, ListTree, no_list, list_part, ObjectTree, no_object, object_part}
use Rattle.vrl_kind.specs.Kinds.{Inhabits}
use Rattle.vrl_state.specs.Laws.{HidingHides, HidingKeepsHeldNames}
use Rattle.vrl_state.specs.Merging.{IsTurnedAt}
use Rattle.vrl_state.specs.States.{hiding, kind_in, kind_of, same_root, with_kind, IsEachTurned, IsHidden, IsHiding, IsRootKind, IsRootKindIf, RootMap, Scope, Variables}
use Rattle.vrl_state.specs.Stores.{with_value, FitsKind, FitsKnown, HidesOf, HoldsNames, Store}
use Rattle.vrl_state.specs.View.{names_of, scope_of}
use Rattle.vrl_state.proofs.Fitting.{fits_with}
use Rattle.vrl_state.proofs.Finite.{at_name, at_other, by_name}
use Rattle.vrl_state.proofs.Versions.{has_name}

pub and_first : (a b : Bool) → (a && b) ≡ true → a ≡ true
and_first true b is = refl
and_first false b is = is

pub or_false : (b : Bool) → (b || false) ≡ b
or_false true = refl
or_false false = refl

or_assoc : (a b c : Bool) → ((a || b) || c) ≡ (a || (b || c))
or_assoc true b c = refl
or_assoc false b c = refl

turned_kind : (f : KindTree → KindTree) → ((v : Tree) (K : KindTree) → Inhabits v K → Inhabits v (f K)) → (among : Bool) (v : Option Tree) (K : Option KindTree) → FitsKind v K → FitsKind v (if among then option_map f K else K)
turned_kind f wider false v K fits = fits
turned_kind f wider true v None fits = tt
turned_kind f wider true None (Some K) fits = absurd fits
turned_kind f wider true (Some v) (Some K) fits = wider v K fits

-- what fits what is known fits it with wider kinds
pub turned_fits : (f : KindTree → KindTree) → ((v : Tree) (K : KindTree) → Inhabits v K → Inhabits v (f K)) → (roots : List Root) (known known' : Option RootMap) (store : Store) → IsEachTurned f roots known known' → FitsKnown store known → FitsKnown store known'
turned_fits f wider roots None known' store is fits = absurd fits
turned_fits f wider roots (Some a) None store is fits = absurd (true≢false (sym is.alive))
turned_fits f wider roots (Some a) (Some b) store is fits = record {
  event = subst (FitsKind (Some store.event)) (sym (is.kinds Event)) (turned_kind f wider (list_any (same_root Event) roots) (Some store.event) (Some a.event) fits.event);
  variables = λ x.
      subst (FitsKind (map.get store.variables x)) (sym (is.kinds (Name x)))
      (turned_kind f wider (list_any (same_root (Name x)) roots) (map.get store.variables x) (map.get a.variables x) (fits.variables x));
}

-- ---- one root

same_event : (r : Root) → same_root r Event ≡ true → r ≡ Event
same_event Event is = refl
same_event (Name x) is = absurd (true≢false (sym is))

same_name : (r : Root) (x : List ℕ) → same_root r (Name x) ≡ true → r ≡ Name x
same_name Event x is = absurd (true≢false (sym is))
same_name (Name y) x is = ap Name ((bytes_eq-Decides y x).0 is)

pub one_root : (r root : Root) → same_root r root ≡ true → r ≡ root
one_root r Event is = same_event r is
one_root r (Name x) is = same_name r x is

-- a root with a new kind
pub kind_with : (r root : Root) (K : KindTree) (roots : RootMap) → kind_of r (with_kind root K roots) ≡ (if same_root r root then Some K else kind_of r roots)
kind_with Event Event K roots = refl
kind_with Event (Name y) K roots = refl
kind_with (Name x) Event K roots = refl
kind_with (Name x) (Name y) K roots = map.get-insert nat_list_cmp_total roots.variables y K x ∙ ap (λ b. cond b (Some K) (map.get roots.variables x)) (is_eq-slice_cmp x y)

turned_at : (f : KindTree → KindTree) (b : Bool) (K L : Option KindTree) → (b ≡ true → L ≡ K) → (if b then option_map f K else L) ≡ (if b then option_map f L else L)
turned_at f true K L same = ap (option_map f) (sym (same refl))
turned_at f false K L same = refl

pub turned_put : (f : KindTree → KindTree) (root : Root) (K : KindTree) (before after : RootMap) → kind_of root before ≡ Some K → after ≡ with_kind root (f K) before → IsTurnedAt f root before after
turned_put f root K before after known is r =
    ap (kind_of r) is ∙ kind_with r root (f K) before
    ∙ turned_at f (same_root r root) (Some K) (kind_of r before) (λ same. ap (λ q. kind_of q before) (one_root r root same) ∙ known)

nothing_turned : (f : KindTree → KindTree) (b : Bool) (K : Option KindTree) → (b ≡ true → K ≡ None) → K ≡ (if b then option_map f K else K)
nothing_turned f true K none = none refl ∙ sym (ap (option_map f) (none refl))
nothing_turned f false K none = refl

pub turned_unknown : (f : KindTree → KindTree) (root : Root) (before after : RootMap) → kind_of root before ≡ None → after ≡ before → IsTurnedAt f root before after
turned_unknown f root before after none is r =
    ap (kind_of r) is ∙ nothing_turned f (same_root r root) (kind_of r before) (λ same. ap (λ q. kind_of q before) (one_root r root same) ∙ none)

-- ---- one root after another

pub turned_first : (f : KindTree → KindTree) (a b : RootMap) → b ≡ a → IsEachTurned f [] (Some a) (Some b)
turned_first f a b is = record { alive = refl; kinds = λ r. ap (kind_of r) is }

twice : (f : KindTree → KindTree) → ((K : KindTree) → f (f K) ≡ f K) → (a b : Bool) (K : Option KindTree) → (if b then option_map f (if a then option_map f K else K) else (if a then option_map f K else K)) ≡ (if a || b then option_map f K else K)
twice f idem a false K = ap (λ c. if c then option_map f K else K) (sym (or_false a))
twice f idem false true K = refl
twice f idem true true None = refl
twice f idem true true (Some K) = ap Some (idem K)

pub any-push : {A : Type 0} (test : A → Bool) (done : List A) (x : A) → list_any test (done ++ x ∷ []) ≡ (list_any test done || test x)
any-push test [] x = or_false (test x)
any-push test (d ∷ done) x = ap (λ b. test d || b) (any-push test done x) ∙ sym (or_assoc (test d) (list_any test done) (test x))

pub turned_next : (f : KindTree → KindTree) → ((K : KindTree) → f (f K) ≡ f K) → (done : List Root) (root : Root) (a b c : RootMap) → IsEachTurned f done (Some a) (Some b) → IsTurnedAt f root b c → IsEachTurned f (done ++ root ∷ []) (Some a) (Some c)
turned_next f idem done root a b c far step = record {
  alive = refl;
  kinds = λ r.
      step r
      ∙ ap (λ K. if same_root r root then option_map f K else K) (far.kinds r)
      ∙ twice f idem (list_any (same_root r) done) (same_root r root) (kind_of r a)
      ∙ ap (λ among. if among then option_map f (kind_of r a) else kind_of r a) (sym (any-push (same_root r) done root));
}

flat_list_once : (l : ListTree) → flat_list (flat_list l) ≡ flat_list l
flat_list_once no_list = refl
flat_list_once (list_part ps q) = refl

flat_object_once : (o : ObjectTree) → flat_object (flat_object o) ≡ flat_object o
flat_object_once no_object = refl
flat_object_once (object_part fs q) = refl

pub flat_once : (K : KindTree) → flat (flat K) ≡ flat K
flat_once (kind s l o) = λ i. kind s (flat_list_once l i) (flat_object_once o i)

-- one more of a list of roots
pub turned_on : (f : KindTree → KindTree) → ((K : KindTree) → f (f K) ≡ f K) → (roots : List Root) (i : ℕ) (root d : Root) (a b c : RootMap) → i < length roots → root ≡ get_or roots i d → IsEachTurned f (take i roots) (Some a) (Some b) → IsTurnedAt f root b c
    → IsEachTurned f (take (i + 1) roots) (Some a) (Some c)
turned_on f idem roots i root d a b c below is far step =
    subst (λ rs. IsEachTurned f rs (Some a) (Some c)) (sym (take_more roots i d below))
    (subst (λ r. IsEachTurned f (take i roots ++ r ∷ []) (Some a) (Some c)) is (turned_next f idem (take i roots) root a b c far step))

-- ---- hidden names

-- what is found is there
pub found_some : {A B : Type 0} (f : A → B) (o : Option A) (p : Option B) → option_map f o ≡ p → is_some o ≡ is_some p
found_some f None p is = ap is_some is
found_some f (Some x) p is = ap is_some is

-- one more name with a root's kind
pub hidden_roots : (m n : Variables) (x : List ℕ) (K : KindTree) → n ≡ map.insert m x K → IsRootKind K → ((y : List ℕ) → IsRootKindIf (map.get m y)) → (y : List ℕ) → IsRootKindIf (map.get n y)
hidden_roots m n x K is root all =
    subst (λ v. (y : List ℕ) → IsRootKindIf (map.get v y)) (sym is)
    (by_name (λ y. IsRootKindIf (map.get (map.insert m x K) y)) x (subst IsRootKindIf (sym (at_name m x K)) root) (λ y other. subst IsRootKindIf (sym (at_other m x K y other)) (all y)))

-- what a scope hides once a name is to be hidden
hidden_not : (x : List ℕ) (K : KindTree) (known hidden : Variables) → map.contains_key known x ≡ false → scope_of known hidden ≡ hiding x (Some K) (scope_of known hidden)
hidden_not x K known hidden is =
    let s = scope_of known hidden in
    ap (λ b. if b && not (map.contains_key hidden x) then record s { hidden = map.insert hidden x K } else s) (sym (has_name known x ∙ is))

hidden_yet : (x : List ℕ) (K : KindTree) (known hidden : Variables) → map.contains_key hidden x ≡ true → scope_of known hidden ≡ hiding x (Some K) (scope_of known hidden)
hidden_yet x K known hidden is =
    let s = scope_of known hidden in
    ap (λ b. if b then record s { hidden = map.insert hidden x K } else s) (sym (and_right (set.contains (names_of known) x) (not (map.contains_key hidden x)) (ap not is)))

hidden_now : (x : List ℕ) (K : KindTree) (known hidden after : Variables) → map.contains_key known x ≡ true → map.contains_key hidden x ≡ false → after ≡ map.insert hidden x K → scope_of known after ≡ hiding x (Some K) (scope_of known hidden)
hidden_now x K known hidden after knows lacks is =
    let s = scope_of known hidden in
    ap (scope_of known) is
    ∙ ap (λ b. if b then record s { hidden = map.insert hidden x K } else s) (sym (and_from (set.contains (names_of known) x) (not (map.contains_key hidden x)) (has_name known x ∙ knows) (ap not lacks)))

-- the scopes whose innermost one hides it
first_hides : (s t : Scope) (ss ts : List Scope) → s ≡ t → ts ≡ s ∷ ss → ts ≡ t ∷ ss
first_hides s t ss ts same is = is ∙ ap (λ u. u ∷ ss) same

pub opened_not : (x : List ℕ) (K : KindTree) (known hidden : Variables) (ss ts : List Scope) → map.contains_key known x ≡ false → ts ≡ scope_of known hidden ∷ ss → ts ≡ hiding x (Some K) (scope_of known hidden) ∷ ss
opened_not x K known hidden ss ts is = first_hides _ _ ss ts (hidden_not x K known hidden is)

pub opened_yet : (x : List ℕ) (K : KindTree) (known hidden : Variables) (ss ts : List Scope) → map.contains_key hidden x ≡ true → ts ≡ scope_of known hidden ∷ ss → ts ≡ hiding x (Some K) (scope_of known hidden) ∷ ss
opened_yet x K known hidden ss ts is = first_hides _ _ ss ts (hidden_yet x K known hidden is)

pub opened_now : (x : List ℕ) (K : KindTree) (known hidden after : Variables) (ss ts : List Scope) → map.contains_key known x ≡ true → map.contains_key hidden x ≡ false → after ≡ map.insert hidden x K → ts ≡ scope_of known after ∷ ss
    → ts ≡ hiding x (Some K) (scope_of known hidden) ∷ ss
opened_now x K known hidden after ss ts knows lacks is = first_hides _ _ ss ts (hidden_now x K known hidden after knows lacks is)

-- a name is hidden and bound
pub is_hidden : (x : List ℕ) (K M : KindTree) (known known' : Option RootMap) (ss ts : List Scope) → ss ≢ [] → IsHiding x (kind_in (Name x) known) ss ts → IsCut K M → known' ≡ option_map (with_kind (Name x) M) known
    → IsHidden x K (record { known = known; scopes = ss }) (record { known = known'; scopes = ts })
is_hidden x K M known known' [] ts some hides cut is = absurd (some refl)
is_hidden x K M known known' (s ∷ ss) ts some hides cut is = record { kind = M; cut = cut; scope = s; outer = ss; entered = refl; scopes = hides; known = is }

hidden_held : (b : Bool) (x : List ℕ) (K : KindTree) (scope : Scope) (store : Store) → HoldsNames store scope → FitsKind (map.get store.variables x) (Some K) → HoldsNames store (if b then record scope { hidden = map.insert scope.hidden x K } else scope)
hidden_held false x K scope store holds fits = holds
hidden_held true x K scope store holds fits = record {
  known = holds.known;
  hidden = by_name (λ y. FitsKind (map.get store.variables y) (map.get (map.insert scope.hidden x K) y)) x
      (subst (FitsKind (map.get store.variables x)) (sym (at_name scope.hidden x K)) fits)
      (λ y other. subst (FitsKind (map.get store.variables y)) (sym (at_other scope.hidden x K y other)) (holds.hidden y));
}

pub hiding_holds : HidingKeepsHeldNames
hiding_holds x None scope store holds fits = holds
hiding_holds x (Some K) scope store holds fits = hidden_held (set.contains scope.known x && not (map.contains_key scope.hidden x)) x K scope store holds fits

-- a name that is bound, in the store and in what is known
pub bound_fits : (x : List ℕ) (M : KindTree) (v : Tree) (known : Option RootMap) (store : Store) → Inhabits v M → FitsKnown store known → FitsKnown (with_value (Name x) v store) (option_map (with_kind (Name x) M) known)
bound_fits x M v None store h fits = absurd fits
bound_fits x M v (Some roots) store h fits = fits_with (Name x) store roots v M fits h

-- ---- which names a scope hides

stays : (same hides among knows : Bool) → hides ≡ (among && knows) → (same ≡ true → knows ≡ true → hides ≡ true) → hides ≡ ((same || among) && knows)
stays false hides among knows is here = is
stays true hides among false is here = is ∙ and_right among false refl
stays true hides among true is here = here refl refl

added : (same hides among knows : Bool) → hides ≡ (among && knows) → (same ≡ true → knows ≡ true) → (same || hides) ≡ ((same || among) && knows)
added false hides among knows is known = is
added true hides among knows is known = sym (known refl)

some_if : (b : Bool) (K : KindTree) (o : Option KindTree) → is_some (cond b (Some K) o) ≡ (b || is_some o)
some_if true K o = refl
some_if false K o = refl

known_hidden : (knows hides : Bool) → (knows && not hides) ≡ false → knows ≡ true → hides ≡ true
known_hidden true true is known = refl
known_hidden true false is known = absurd (true≢false is)
known_hidden false hides is known = absurd (true≢false (sym known))

hides_more : (b : Bool) (x : List ℕ) (K : KindTree) (scope : Scope) (names : List (List ℕ)) → (set.contains scope.known x && not (map.contains_key scope.hidden x)) ≡ b → HidesOf scope names
    → HidesOf (if b then record scope { hidden = map.insert scope.hidden x K } else scope) (x ∷ names)
hides_more true x K scope names is hides y =
    ap is_some (map.get-insert nat_list_cmp_total scope.hidden x K y)
    ∙ some_if (eq_by_cmp (slice_cmp nat_cmp) y x) K (map.get scope.hidden y)
    ∙ ap (λ b. b || map.contains_key scope.hidden y) (is_eq-slice_cmp y x)
    ∙ added (bytes_eq y x) (map.contains_key scope.hidden y) (list_any (bytes_eq y) names) (set.contains scope.known y) (hides y)
    (λ same. ap (set.contains scope.known) ((bytes_eq-Decides y x).0 same) ∙ and_first (set.contains scope.known x) (not (map.contains_key scope.hidden x)) is)
hides_more false x K scope names is hides y =
    stays (bytes_eq y x) (map.contains_key scope.hidden y) (list_any (bytes_eq y) names) (set.contains scope.known y) (hides y)
    (λ same known. let one = (bytes_eq-Decides y x).0 same in
    ap (map.contains_key scope.hidden) one ∙ known_hidden (set.contains scope.known x) (map.contains_key scope.hidden x) is (sym (ap (set.contains scope.known) one) ∙ known))

pub hiding_more : HidingHides
hiding_more x None scope names hides told y =
    stays (bytes_eq y x) (map.contains_key scope.hidden y) (list_any (bytes_eq y) names) (set.contains scope.known y) (hides y)
    (λ same known. absurd (true≢false (sym (told (sym (ap (set.contains scope.known) ((bytes_eq-Decides y x).0 same)) ∙ known)))))
hiding_more x (Some K) scope names hides told y = hides_more (set.contains scope.known x && not (map.contains_key scope.hidden x)) x K scope names refl hides y
