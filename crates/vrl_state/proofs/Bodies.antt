-- The body of a closure: its scope, its names, and that stores go on fitting what is known in it and behind it.
use Rattle.std.proofs.Common.{◌≡◌, ◌||◌, ◌&&◌, ◌++◌, ℕ, Bool, true, false, cond, not, bytes_eq, codes, List, [], ◌∷◌, Option, Some, None, IfSome, is_some, if◌then◌else◌, length, option_map, refl, sym, ap, ◌∙◌, subst, arith}
use Rattle.std.proofs.lemmas.Bool.{and_right, true≢false}
use Rattle.std.proofs.lemmas.Cmp.{nat_list_cmp_total}
use Rattle.std.proofs.lemmas.Map.Text.{is_eq-slice_cmp}
use Rattle.std.proofs.lemmas.Slice.Eq.{bytes_eq-Decides}
use Rattle.std.specs.FinMap as map
use Rattle.std.specs.FinSet as set
use Rattle.std.specs.List.{list_any}
use Rattle.vrl_value.specs.Tree.{Tree}
use Rattle.vrl_syntax.specs.Stores.{hidden_by}
use Rattle.vrl_syntax.specs.declared.root.Root.TheVariants.{Event, Name}
use Rattle.vrl_kind.specs.Canonical.{any_kind, with_absent}
use Rattle.vrl_kind.specs.KindTree.{KindTree, kind}
use Rattle.vrl_kind.specs.Kinds as kinds
use Rattle.vrl_kind.specs.Kinds.{Inhabits}
use Rattle.vrl_kind.proofs.Inclusion.{within_any}
use Rattle.vrl_state.specs.Laws.{BodiesKeepFits, ForgettingWidens, NamesKeepFits}
use Rattle.vrl_state.specs.States.{body_scope, hiding, kind_in, knows, same_root, with_kind, with_names, BeginsAt, IsEntered, IsHidden, IsPresent, IsRootKind, IsRootKindIf, IsVariableWithin, RootMap, Scope, State}
use Rattle.vrl_state.specs.Stores.{with_value, FitsMap, HidesOf, Store}
use Rattle.vrl_state.proofs.Finite.{at_kept, one_name, same_map}
use Rattle.vrl_state.proofs.Fitting.{blocks_fit, fits_with, names_held}
use Rattle.vrl_state.proofs.JoinedScopes.{first_or, others_of}
use Rattle.vrl_state.proofs.Turning.{any-push, or_false}
use Rattle.vrl_state.proofs.Versions.{has_name}

-- ---- what fits

name_fits : (x : List ℕ) (b : Bool) (v : Tree) (K : KindTree) (store : Store) (roots : RootMap) → Inhabits v K → FitsMap store roots → FitsMap (if b then store else with_value (Name x) v store) (if b then roots else with_kind (Name x) K roots)
name_fits x true v K store roots h fits = fits
name_fits x false v K store roots h fits = fits_with (Name x) store roots v K fits h

-- names that are bound, in the store and in what is known
pub names_fit : NamesKeepFits
names_fit [] vs Ks store roots are fits = fits
names_fit (x ∷ names) [] [] store roots are fits = fits
names_fit (x ∷ names) [] (K ∷ Ks) store roots are fits = absurd are
names_fit (x ∷ names) (v ∷ vs) [] store roots are fits = absurd are
names_fit (x ∷ names) (v ∷ vs) (K ∷ Ks) store roots are fits = names_fit names vs Ks _ _ are.1 (name_fits x (bytes_eq x (codes "_")) v K store roots are.0 fits)

known_kept : (b : Bool) (o : Option KindTree) → IfSome (cond b o None) (λ K. o ≡ Some K)
known_kept false o = tt
known_kept true None = tt
known_kept true (Some K) = refl

some_kept : (b : Bool) (o : Option KindTree) → is_some (cond b o None) ≡ (b && is_some o)
some_kept false o = refl
some_kept true o = refl

-- a body's scope begins where it is told
pub body_begins : (names : List (List ℕ)) (roots : RootMap) → BeginsAt (Some roots) (body_scope names roots)
body_begins bound roots = record {
  names = λ x. has_name roots.variables x;
  hidden = λ x.
      subst (λ o. IfSome o (λ K. map.get roots.variables x ≡ Some K)) (sym (at_kept roots.variables (λ y. list_any (bytes_eq y) bound) x))
      (known_kept (list_any (bytes_eq x) bound) (map.get roots.variables x));
}

-- .. and hides those of the names that are known there
pub body_hides : (names : List (List ℕ)) (roots : RootMap) → HidesOf (body_scope names roots) names
body_hides names roots x =
    ap is_some (at_kept roots.variables (λ y. list_any (bytes_eq y) names) x)
    ∙ some_kept (list_any (bytes_eq x) names) (map.get roots.variables x)
    ∙ ap (λ b. list_any (bytes_eq x) names && b) (sym (has_name roots.variables x))

-- behind a body the store has back what its names hid
pub bodies_fit : BodiesKeepFits
bodies_fit names roots known before after fits fits' =
    blocks_fit (body_scope names roots) names known before after (body_hides names roots) (names_held (body_scope names roots) (Some roots) before (body_begins names roots) fits) fits'

-- ---- roots that are forgotten

present_itself : (K : KindTree) → IsPresent K → with_absent false K ≡ K
present_itself (kind s l o) present = λ i. kind (record s { absent = sym present i }) l o

within_every : (K : KindTree) → IsPresent K → kinds.IsWithin K any_kind
within_every K present = subst (λ L. kinds.IsWithin L any_kind) (present_itself K present) (within_any false false K (λ is. is))

within_forgotten : (among : Bool) (K : Option KindTree) → IsRootKindIf K → IsVariableWithin K (if among then option_map (λ L. any_kind) K else K)
within_forgotten true None root = tt
within_forgotten true (Some K) root = within_every K root.present
within_forgotten false None root = tt
within_forgotten false (Some K) root = λ p t is. is

-- what is known is within what is left of it
pub forgotten_is_wider : ForgettingWidens
forgotten_is_wider roots None known' all is = tt
forgotten_is_wider roots (Some a) None all is = absurd (true≢false (sym is.alive))
forgotten_is_wider roots (Some a) (Some b) all is = record {
  event = subst (IsVariableWithin (Some a.event)) (sym (is.kinds Event)) (within_forgotten (list_any (same_root Event) roots) (Some a.event) all.event);
  variables = λ x.
      subst (IsVariableWithin (map.get a.variables x)) (sym (is.kinds (Name x))) (within_forgotten (list_any (same_root (Name x)) roots) (map.get a.variables x) (all.variables x));
}

-- ---- the scope of a body, as it comes about name by name

-- what it is at every name makes a scope that of a body
pub is_body_scope : (names : List (List ℕ)) (roots : RootMap) (scope : Scope) → ((x : List ℕ) → set.contains scope.known x ≡ knows (Some roots) x)
    → ((x : List ℕ) → map.get scope.hidden x ≡ cond (list_any (bytes_eq x) names) (map.get roots.variables x) None) → scope ≡ body_scope names roots
is_body_scope names roots scope known hidden =
    let same : scope.known ≡ set.from_list (map.keys roots.variables) = set.same_set nat_list_cmp_total one_name _ _ (λ x. known x ∙ sym (has_name roots.variables x)) in
    let back : scope.hidden ≡ map.retain_keys roots.variables (λ y. list_any (bytes_eq y) names) = same_map _ _ (λ x. hidden x ∙ sym (at_kept roots.variables (λ y. list_any (bytes_eq y) names) x)) in
    λ i. record { known = same i; hidden = back i }

-- a scope that begins where this is known, and hides no name yet
body_opened : (scope : Scope) (known : Option RootMap) (roots : RootMap) → ((x : List ℕ) → set.contains scope.known x ≡ knows known x) → scope.hidden ≡ map.empty → known ≡ Some roots → scope ≡ body_scope [] roots
body_opened scope known roots names none is = is_body_scope [] roots scope (λ x. names x ∙ ap (λ k. knows k x) is) (λ x. ap (λ m. map.get m x) none ∙ map.get-empty _ x)

-- what a scope hides of a name, once it hides another or the same: now, where it didn't yet
abbrev hidden_at : Bool → Bool → Option KindTree → Option KindTree → Option KindTree
hidden_at now same None old = old
hidden_at now same (Some K) old = cond (now && same) (Some K) old

hides_at : (x : List ℕ) (K : Option KindTree) (scope : Scope) (y : List ℕ)
    → map.get (hiding x K scope).hidden y ≡ hidden_at (set.contains scope.known x && not (map.contains_key scope.hidden x)) (bytes_eq y x) K (map.get scope.hidden y)
hides_at x None scope y = refl
hides_at x (Some K) scope y = by (set.contains scope.known x && not (map.contains_key scope.hidden x)) where
  by : (b : Bool) → map.get (if b then record scope { hidden = map.insert scope.hidden x K } else scope).hidden y ≡ cond (b && bytes_eq y x) (Some K) (map.get scope.hidden y)
  by true = map.get-insert nat_list_cmp_total scope.hidden x K y ∙ ap (λ b. cond b (Some K) (map.get scope.hidden y)) (is_eq-slice_cmp y x)
  by false = refl

knows_same : (x : List ℕ) (K : Option KindTree) (scope : Scope) → (hiding x K scope).known ≡ scope.known
knows_same x None scope = refl
knows_same x (Some K) scope = by (set.contains scope.known x && not (map.contains_key scope.hidden x)) where
  by : (b : Bool) → (if b then record scope { hidden = map.insert scope.hidden x K } else scope).known ≡ scope.known
  by true = refl
  by false = refl

-- at the name itself: one that is among the names already stays hidden as it is, and else K is what is known of it
next_here : (among : Bool) (known K : Option KindTree) → (among ≡ false → K ≡ known) → hidden_at (is_some known && not (is_some (cond among known None))) true K (cond among known None) ≡ cond (among || true) known None
next_here true known None told = refl
next_here true None (Some K) told = refl
next_here true (Some L) (Some K) told = refl
next_here false None None told = refl
next_here false None (Some K) told = refl
next_here false (Some L) None told = told refl
next_here false (Some L) (Some K) told = told refl

-- at each name
next_at : (same among_it among : Bool) (it known K : Option KindTree) → (same ≡ true → among_it ≡ among) → (same ≡ true → it ≡ known) → (among ≡ false → K ≡ known)
    → hidden_at (is_some known && not (is_some (cond among known None))) same K (cond among_it it None) ≡ cond (among_it || same) it None
next_at false among_it among it known None alike is told = ap (λ b. cond b it None) (sym (or_false among_it))
next_at false among_it among it known (Some K) alike is told =
    ap (λ b. cond b (Some K) (cond among_it it None)) (and_right (is_some known && not (is_some (cond among known None))) false refl)
    ∙ ap (λ b. cond b it None) (sym (or_false among_it))
next_at true among_it among it known K alike is told =
    (λ i. hidden_at (is_some known && not (is_some (cond among known None))) true K (cond (alike refl i) (is refl i) None))
    ∙ next_here among known K told
    ∙ (λ i. cond (sym (alike refl) i || true) (sym (is refl) i) None)

-- the scope hides one name more, where K is what is known of it, unless it is among the names already
pub body_next : (names : List (List ℕ)) (x : List ℕ) (K : Option KindTree) (roots : RootMap) → (list_any (bytes_eq x) names ≡ false → K ≡ map.get roots.variables x) → hiding x K (body_scope names roots) ≡ body_scope (names ++ x ∷ []) roots
body_next names x K roots told =
    let scope = body_scope names roots in
    let among : List ℕ → Bool = λ y. list_any (bytes_eq y) names in
    is_body_scope (names ++ x ∷ []) roots (hiding x K scope) (λ y. ap (λ known. set.contains known y) (knows_same x K scope) ∙ has_name roots.variables y)
    (λ y.
    hides_at x K scope y
    ∙ (λ i. hidden_at (has_name roots.variables x i && not (is_some (at_kept roots.variables among x i))) (bytes_eq y x) K (at_kept roots.variables among y i))
    ∙ next_at (bytes_eq y x) (among y) (among x) (map.get roots.variables y) (map.get roots.variables x) K (λ same. ap among ((bytes_eq-Decides y x).0 same)) (λ same. ap (map.get roots.variables) ((bytes_eq-Decides y x).0 same)) told
    ∙ ap (λ b. cond b (map.get roots.variables y) None) (sym (any-push (bytes_eq y) names x)))

-- ---- a body that begins

or_lacks : (a b : Bool) → (a || b) ≡ false → (a ≡ false) × (b ≡ false)
or_lacks true b is = absurd (true≢false is)
or_lacks false b is = (refl, is)

beside_one : (x y : List ℕ) (b : Bool) (names : List (List ℕ)) (Ks : List KindTree) (K : KindTree) (roots : RootMap)
    → ((to : RootMap) → list_any (bytes_eq x) (hidden_by names) ≡ false → map.get (with_names names Ks to).variables x ≡ map.get to.variables x)
    → list_any (bytes_eq x) (if b then hidden_by names else y ∷ hidden_by names) ≡ false → map.get (with_names names Ks (if b then roots else with_kind (Name y) K roots)).variables x ≡ map.get roots.variables x
beside_one x y true names Ks K roots others lacks = others roots lacks
beside_one x y false names Ks K roots others lacks =
    let parts = or_lacks (bytes_eq x y) (list_any (bytes_eq x) (hidden_by names)) lacks in
    others (with_kind (Name y) K roots) parts.1
    ∙ map.get-insert nat_list_cmp_total roots.variables y K x
    ∙ ap (λ b. cond b (Some K) (map.get roots.variables x)) (is_eq-slice_cmp x y ∙ parts.0)

-- of a name that isn't among them as much is known as before
pub names_beside : (names : List (List ℕ)) (Ks : List KindTree) (roots : RootMap) (x : List ℕ) → list_any (bytes_eq x) (hidden_by names) ≡ false → map.get (with_names names Ks roots).variables x ≡ map.get roots.variables x
names_beside [] Ks roots x lacks = refl
names_beside (y ∷ names) [] roots x lacks = refl
names_beside (y ∷ names) (K ∷ Ks) roots x lacks = beside_one x y (bytes_eq y (codes "_")) names Ks K roots (λ to. names_beside names Ks to x) lacks

-- one name more
names_more : (names : List (List ℕ)) (Ks : List KindTree) (x : List ℕ) (K : KindTree) (roots : RootMap) → length Ks ≡ length names
    → with_names (names ++ x ∷ []) (Ks ++ K ∷ []) roots ≡ (if bytes_eq x (codes "_") then with_names names Ks roots else with_kind (Name x) K (with_names names Ks roots))
names_more [] [] x K roots many = refl
names_more [] (L ∷ Ks) x K roots many = absurd cc
names_more (y ∷ names) [] x K roots many = absurd cc
names_more (y ∷ names) (L ∷ Ks) x K roots many = names_more names Ks x K (if bytes_eq y (codes "_") then roots else with_kind (Name y) L roots) (omega (arith, many))

hides_one : (y : List ℕ) (b among : Bool) (hidden more : List (List ℕ)) (x : List ℕ) → more ≡ (if b then hidden else hidden ++ x ∷ [])
    → (if among then more else y ∷ more) ≡ (if b then (if among then hidden else y ∷ hidden) else (if among then hidden else y ∷ hidden) ++ x ∷ [])
hides_one y b true hidden more x is = is
hides_one y true false hidden more x is = ap (λ names. y ∷ names) is
hides_one y false false hidden more x is = ap (λ names. y ∷ names) is

hidden_more : (names : List (List ℕ)) (x : List ℕ) → hidden_by (names ++ x ∷ []) ≡ (if bytes_eq x (codes "_") then hidden_by names else hidden_by names ++ x ∷ [])
hidden_more [] x = refl
hidden_more (y ∷ names) x = hides_one y (bytes_eq x (codes "_")) (bytes_eq y (codes "_")) (hidden_by names) (hidden_by (names ++ x ∷ [])) x (hidden_more names x)

-- So far a body has begun: its scope is open, and these of its names have these kinds.
pub record IsBegun (names : List (List ℕ)) (Ks : List KindTree) (before after : State) : Type 0 where
  pub scope : Scope
  pub scopes : after.scopes ≡ scope ∷ before.scopes
  pub is : (roots : RootMap) → before.known ≡ Some roots → scope ≡ body_scope (hidden_by names) roots
  pub known : after.known ≡ option_map (with_names names Ks) before.known

none_named : (known : Option RootMap) → option_map (with_names [] []) known ≡ known
none_named None = refl
none_named (Some roots) = refl

-- its scope is open, and no name has a kind yet
pub begun : (before after : State) → IsEntered before after → IsBegun [] [] before after
begun before after entered = record {
  scope = entered.scope;
  scopes = entered.scopes;
  is = λ roots known. body_opened entered.scope before.known roots entered.names entered.hidden known;
  known = entered.known ∙ sym (none_named before.known);
}

known_more : (names : List (List ℕ)) (Ks : List KindTree) (x : List ℕ) (K : KindTree) (a b c : Option RootMap) → length Ks ≡ length names → bytes_eq x (codes "_") ≡ false
    → b ≡ option_map (with_names names Ks) a → c ≡ option_map (with_kind (Name x) K) b → c ≡ option_map (with_names (names ++ x ∷ []) (Ks ++ K ∷ [])) a
known_more names Ks x K None b c many named before is = is ∙ ap (option_map (with_kind (Name x) K)) before
known_more names Ks x K (Some roots) b c many named before is =
    let now = with_names names Ks roots in
    is ∙ ap (option_map (with_kind (Name x) K)) before ∙ ap Some (sym (names_more names Ks x K roots many ∙ ap (λ b. if b then now else with_kind (Name x) K now) named))

-- one name more is hidden, and has its kind
pub begun_more : (names : List (List ℕ)) (Ks : List KindTree) (x : List ℕ) (K : KindTree) (a b c : State) → length Ks ≡ length names → bytes_eq x (codes "_") ≡ false → IsRootKind K → IsBegun names Ks a b → IsHidden x K b c
    → IsBegun (names ++ x ∷ []) (Ks ++ K ∷ []) a c
begun_more names Ks x K a b c many named root before step =
    let one : step.scope ∷ step.outer ≡ before.scope ∷ a.scopes = sym step.entered ∙ before.scopes in
    let whole : step.kind ≡ K = step.cut.kept root.nodes root.levels in
    record {
      scope = hiding x (kind_in (Name x) b.known) before.scope;
      scopes = step.scopes ∙ (λ i. hiding x (kind_in (Name x) b.known) (first_or before.scope (one i)) ∷ others_of (one i));
      is = λ roots known.
          let now : b.known ≡ Some (with_names names Ks roots) = before.known ∙ ap (option_map (with_names names Ks)) known in
          ap (λ k. hiding x (kind_in (Name x) k) before.scope) now
          ∙ ap (hiding x (map.get (with_names names Ks roots).variables x)) (before.is roots known)
          ∙ body_next (hidden_by names) x (map.get (with_names names Ks roots).variables x) roots (names_beside names Ks roots x)
          ∙ ap (λ hidden. body_scope hidden roots) (sym (hidden_more names x ∙ ap (λ b. if b then hidden_by names else hidden_by names ++ x ∷ []) named));
      known = known_more names Ks x K a.known b.known c.known many named before.known (step.known ∙ ap (λ M. option_map (with_kind (Name x) M) b.known) whole);
    }

known_passed : (names : List (List ℕ)) (Ks : List KindTree) (x : List ℕ) (K : KindTree) (a b : Option RootMap) → length Ks ≡ length names → bytes_eq x (codes "_") ≡ true
    → b ≡ option_map (with_names names Ks) a → b ≡ option_map (with_names (names ++ x ∷ []) (Ks ++ K ∷ [])) a
known_passed names Ks x K None b many passed is = is
known_passed names Ks x K (Some roots) b many passed is =
    let now = with_names names Ks roots in
    is ∙ ap Some (sym (names_more names Ks x K roots many ∙ ap (λ b. if b then now else with_kind (Name x) K now) passed))

-- `_` is passed over
pub begun_passed : (names : List (List ℕ)) (Ks : List KindTree) (x : List ℕ) (K : KindTree) (a b : State) → length Ks ≡ length names → bytes_eq x (codes "_") ≡ true → IsBegun names Ks a b → IsBegun (names ++ x ∷ []) (Ks ++ K ∷ []) a b
begun_passed names Ks x K a b many passed before = record {
  scope = before.scope;
  scopes = before.scopes;
  is = λ roots known. before.is roots known ∙ ap (λ hidden. body_scope hidden roots) (sym (hidden_more names x ∙ ap (λ b. if b then hidden_by names else hidden_by names ++ x ∷ []) passed));
  known = known_passed names Ks x K a.known b.known many passed before.known;
}
