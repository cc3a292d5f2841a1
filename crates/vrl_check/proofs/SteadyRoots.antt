-- What goes on being known of roots while a part of a script is judged that writes only some of them: each root that was known stays known, and one that
-- isn't written keeps its kind.
use Rattle.std.proofs.Common.{◌≡◌, ℕ, Bool, true, false, ◌||◌, cond, All, List, [], ◌∷◌, ◌++◌, Option, Some, None, option_map, is_some, bytes_eq, codes, if◌then◌else◌, MatchOption, refl, sym, ap, ◌∙◌, subst}
use Rattle.std.proofs.lemmas.Bool.{false≢true, true≢false, or_left, or_right}
use Rattle.std.proofs.lemmas.Cmp.{nat_list_cmp_total}
use Rattle.std.proofs.lemmas.List.Elements.{All-head, All-tail}
use Rattle.std.proofs.lemmas.List.Folds.{list_any-append}
use Rattle.std.proofs.lemmas.Map.Text.{is_eq-slice_cmp}
use Rattle.std.proofs.lemmas.Slice.Eq.{bytes_eq-Decides}
use Rattle.std.specs.FinMap as map
use Rattle.std.specs.FinSet as set
use Rattle.std.specs.List.{list_any}
use Rattle.std.specs.Prelude.{⊤}
use Rattle.vrl_path.specs.declared.path.Step.{Step}
use Rattle.vrl_syntax.specs.Stores.{hidden_by}
use Rattle.vrl_syntax.specs.Written.{exprs_write, target_roots}
use Rattle.vrl_syntax.specs.declared.root.Root.{Root}
use Rattle.vrl_syntax.specs.declared.root.Root.TheVariants.{Event, Name}
use Rattle.vrl_syntax.specs.declared.root.Target.{Target}
use Rattle.vrl_syntax.specs.declared.root.Target.TheVariants.{Nowhere, Place}
use Rattle.vrl_kind.specs.Canonical.{any_kind}
use Rattle.vrl_kind.specs.Cut.{flat}
use Rattle.vrl_kind.specs.KindTree.{KindTree}
use Rattle.vrl_kind.specs.Kinds.{tags_at, IsWithin}
use Rattle.vrl_state.specs.Laws.{ForgettingWidens, RootKindsJoinThemselves}
use Rattle.vrl_state.specs.States.{body_scope, kept, kind_in, kind_of, same_root, with_kind, with_names, written_from, HasNow, HasRootKinds, IsEachTurned, IsEither, IsEitherMap, IsEitherVariable, IsForgotten, IsJoined, IsKnownWithin, IsLeftKind, IsRootKind, IsRootKindIf, IsVariableWithin, RootMap, Scope, Variables}
use Rattle.vrl_state.specs.View.{names_of}
use Rattle.vrl_state.proofs.Behind.{at_behind, first_of}
use Rattle.vrl_state.proofs.Finite.{at_kept}
use Rattle.vrl_state.proofs.Limits.{either_roots, flat_root, left_roots, removed_root, root_of, sets_root, with_root, written_root}
use Rattle.vrl_judge.specs.Closures.{ClosureBody, Try, first_try, second_try, third_try, IsNextTry}
use Rattle.vrl_judge.specs.Rules.{if_state, without_new_names, IsDeleted, IsTargetWritten}
use Rattle.vrl_judge.proofs.Deleted.{left_present}
use Rattle.vrl_judge.proofs.RootKinds.{any_root}

-- ---- roots that are written

-- each of the first roots is one of the others
abbrev pub AreAmong : List Root → List Root → Type 0
AreAmong roots written = (r : Root) → list_any (same_root r) roots ≡ true → list_any (same_root r) written ≡ true

pub first_among : (W roots others : List Root) → AreAmong (roots ++ others) W → AreAmong roots W
first_among W roots others among r is = among r (list_any-append (same_root r) roots others ∙ or_left (list_any (same_root r) roots) (list_any (same_root r) others) is)

pub second_among : (W roots others : List Root) → AreAmong (roots ++ others) W → AreAmong others W
second_among W roots others among r is = among r (list_any-append (same_root r) roots others ∙ or_right (list_any (same_root r) roots) (list_any (same_root r) others) is)

pub root_itself : (r : Root) → same_root r r ≡ true
root_itself Event = refl
root_itself (Name x) = (bytes_eq-Decides x x).1 refl

one_root : (r root : Root) → same_root r root ≡ true → r ≡ root
one_root Event Event is = refl
one_root Event (Name y) wrong = absurd (false≢true wrong)
one_root (Name x) Event wrong = absurd (false≢true wrong)
one_root (Name x) (Name y) is = ap Name ((bytes_eq-Decides x y).0 is)

-- ---- one root

-- a root that was known stays known, and has its kind if it isn't written
abbrev pub IsSteadyAt : Bool → Option KindTree → Option KindTree → Type 0
IsSteadyAt written None L = ⊤
IsSteadyAt written (Some K) None = ⊥
IsSteadyAt true (Some K) (Some L) = ⊤
IsSteadyAt false (Some K) (Some L) = L ≡ K

steady_itself : (written : Bool) (K : Option KindTree) → IsSteadyAt written K K
steady_itself written None = tt
steady_itself true (Some K) = tt
steady_itself false (Some K) = refl

steady_written : (K : Option KindTree) (M : KindTree) → IsSteadyAt true K (Some M)
steady_written None M = tt
steady_written (Some K) M = tt

-- of this root something else is known, if it is one that is written
steady_turned : (here written : Bool) (K L M : Option KindTree) → (here ≡ true → written ≡ true) → IsSteadyAt written K L → (IsSteadyAt true K L → IsSteadyAt true K M) → IsSteadyAt written K (if here then M else L)
steady_turned false written K L M among is turned = is
steady_turned true true K L M among is turned = turned is
steady_turned true false K L M among is turned = absurd (false≢true (among refl))

-- a name that is bound has one kind on both sides
steady_bound : (here written : Bool) (K : KindTree) (A B : Option KindTree) → IsSteadyAt written A B → IsSteadyAt written (if here then Some K else A) (if here then Some K else B)
steady_bound false written K A B is = is
steady_bound true written K A B is = steady_itself written (Some K)

steady_joined : RootKindsJoinThemselves → (written : Bool) (K A B C : Option KindTree) → IsRootKindIf A → IsEitherVariable A B C → IsSteadyAt written K A → IsSteadyAt written K B → IsSteadyAt written K C
steady_joined joins written None A B C root is one two = tt
steady_joined joins written (Some K) None B C root is one two = absurd one
steady_joined joins written (Some K) (Some A) None C root is one two = absurd two
steady_joined joins written (Some K) (Some A) (Some B) None root is one two = absurd is
steady_joined joins true (Some K) (Some A) (Some B) (Some C) root is one two = tt
steady_joined joins false (Some K) (Some A) (Some B) (Some C) root is one two =
    joins K C (subst IsRootKind one root) (subst (λ N. IsEither K N C) two (subst (λ N. IsEither N B C) one is))

-- behind a scope that began where N was known: a hidden name has N again, and another what it has there
steady_left : (hidden written : Bool) (K N B A : Option KindTree) → (hidden ≡ false → B ≡ K) → IsSteadyAt written K N → IsSteadyAt written B A → IsSteadyAt written K (first_of (cond hidden N None) (cond (is_some N) A None))
steady_left hidden written None N B A same began ends = tt
steady_left hidden written (Some K) None B A same began ends = absurd began
steady_left true written (Some K) (Some N) B A same began ends = began
steady_left false written (Some K) (Some N) B A same began ends = subst (λ M. IsSteadyAt written M A) (same refl) ends

-- ---- all roots

pub record IsSteadyMap (W : List Root) (base now : RootMap) : Type 0 where
  pub roots : HasRootKinds now
  pub kinds : (r : Root) → IsSteadyAt (list_any (same_root r) W) (kind_of r base) (kind_of r now)

-- where no way leads nothing has to go on
abbrev pub IsSteady : List Root → RootMap → Option RootMap → Type 0
IsSteady W base None = ⊤
IsSteady W base (Some now) = IsSteadyMap W base now

pub steady_start : (W : List Root) (base : RootMap) → HasRootKinds base → IsSteadyMap W base base
steady_start W base roots = record { roots = roots; kinds = λ r. steady_itself (list_any (same_root r) W) (kind_of r base) }

pub steady_if : (W : List Root) (base : RootMap) (b : Bool) (known : Option RootMap) → IsSteady W base known → IsSteady W base (if_state b known)
steady_if W base true known is = is
steady_if W base false known is = tt

-- what is known is that
pub steady_as : (W : List Root) (base : RootMap) {known known' : Option RootMap} → known' ≡ known → IsSteady W base known → IsSteady W base known'
steady_as W base same is = subst (IsSteady W base) (sym same) is

-- ---- joins

joined_at : RootKindsJoinThemselves → (W : List Root) (base a b c : RootMap) → IsEitherMap a b c → IsSteadyMap W base a → IsSteadyMap W base b → (r : Root) → IsSteadyAt (list_any (same_root r) W) (kind_of r base) (kind_of r c)
joined_at joins W base a b c is one two Event =
    steady_joined joins (list_any (same_root Event) W) (Some base.event) (Some a.event) (Some b.event) (Some c.event) one.roots.event is.event (one.kinds Event) (two.kinds Event)
joined_at joins W base a b c is one two (Name x) =
    steady_joined joins (list_any (same_root (Name x)) W) (map.get base.variables x) (map.get a.variables x) (map.get b.variables x) (map.get c.variables x) (one.roots.variables x) (is.variables x) (one.kinds (Name x)) (two.kinds (Name x))

pub joined_steady : RootKindsJoinThemselves → (W : List Root) (base : RootMap) (a b c : Option RootMap) → IsJoined a b c → IsSteady W base a → IsSteady W base b → IsSteady W base c
joined_steady joins W base None b c is one two = steady_as W base is two
joined_steady joins W base (Some a) None c is one two = steady_as W base is one
joined_steady joins W base (Some a) (Some b) None is one two = absurd is
joined_steady joins W base (Some a) (Some b) (Some c) is one two = record { roots = either_roots a b c is one.roots two.roots; kinds = joined_at joins W base a b c is one two }

-- ---- a root with a new kind

kind_with : (r root : Root) (K : KindTree) (roots : RootMap) → kind_of r (with_kind root K roots) ≡ (if same_root r root then Some K else kind_of r roots)
kind_with Event Event K roots = refl
kind_with Event (Name y) K roots = refl
kind_with (Name x) Event K roots = refl
kind_with (Name x) (Name y) K roots = map.get-insert nat_list_cmp_total roots.variables y K x ∙ ap (λ b. cond b (Some K) (map.get roots.variables x)) (is_eq-slice_cmp x y)

pub with_steady : (W : List Root) (base now : RootMap) (root : Root) (M : KindTree) → list_any (same_root root) W ≡ true → IsRootKind M → IsSteadyMap W base now → IsSteadyMap W base (with_kind root M now)
with_steady W base now root M among is steady = record {
  roots = with_root root M now is steady.roots;
  kinds = λ r.
      subst (IsSteadyAt (list_any (same_root r) W) (kind_of r base)) (sym (kind_with r root M now))
      (steady_turned (same_root r root) (list_any (same_root r) W) (kind_of r base) (kind_of r now) (Some M) (λ same. subst (λ q. list_any (same_root q) W ≡ true) (sym (one_root r root same)) among)
      (steady.kinds r) (λ _. steady_written (kind_of r base) M));
}

pub has_now_steady : (W : List Root) (base now : RootMap) (root : Root) (M : KindTree) (after : Option RootMap) → list_any (same_root root) W ≡ true → IsRootKind M → after ≡ Some (with_kind root M now) → IsSteadyMap W base now → IsSteady W base after
has_now_steady W base now root M after among is same steady = steady_as W base same (with_steady W base now root M among is steady)

-- a target is written
pub target_steady : (W : List Root) (base : RootMap) (t : Target) (N : KindTree) (before after : Option RootMap) → AreAmong (target_roots t) W → IsRootKind N → IsTargetWritten t N before after → IsSteady W base before → IsSteady W base after
target_steady W base Nowhere N before after among root is steady = steady_as W base is steady
target_steady W base (Place span r path) N None after among root is steady = steady_as W base is steady
target_steady W base (Place span r path) N (Some now) after among root is steady =
    has_now_steady W base now r is.0 after (among r (or_left (same_root r r) false (root_itself r))) (written_root (written_from (kind_of r now)) N is.0 path root.present is.1) is.2 steady

-- what stands at a path is taken out
taken_steady : (W : List Root) (base now : RootMap) (root : Root) (path : List Step) (found : Option KindTree) (after : Option RootMap) → list_any (same_root root) W ≡ true → IsRootKindIf found
    → MatchOption found (after ≡ Some now) (λ K. HasNow root (IsLeftKind K path) now after) → IsSteadyMap W base now → IsSteady W base after
taken_steady W base now root path None after among here is steady = steady_as W base is steady
taken_steady W base now root path (Some K) after among here is steady = has_now_steady W base now root is.0 after among (removed_root K is.0 path here is.1) is.2 steady

pub deleted_steady : (W : List Root) (base : RootMap) (root : Root) (path : List Step) (before after : Option RootMap) → list_any (same_root root) W ≡ true → IsDeleted root path before after → IsSteady W base before → IsSteady W base after
deleted_steady W base root [] None after among is steady = steady_as W base is.2 tt
deleted_steady W base root [] (Some now) after among is steady = has_now_steady W base now root is.0 after among (sets_root _ is.0 is.1 (left_present root)) is.2 steady
deleted_steady W base root (step ∷ path) None after among is steady = steady_as W base is tt
deleted_steady W base root (step ∷ path) (Some now) after among is steady = taken_steady W base now root (step ∷ path) (kind_of root now) after among (root_of root now steady.roots) is steady

-- ---- the next try at a body

turned_known : (f : KindTree → KindTree) (K L : Option KindTree) → IsSteadyAt true K L → IsSteadyAt true K (option_map f L)
turned_known f None L is = tt
turned_known f (Some K) None is = is
turned_known f (Some K) (Some L) is = tt

turned_root : (f : KindTree → KindTree) → ((K : KindTree) → IsRootKind K → IsRootKind (f K)) → (among : Bool) (K : Option KindTree) → IsRootKindIf K → IsRootKindIf (if among then option_map f K else K)
turned_root f keeps false K is = is
turned_root f keeps true None is = tt
turned_root f keeps true (Some K) is = keeps K is

turned_roots : (f : KindTree → KindTree) → ((K : KindTree) → IsRootKind K → IsRootKind (f K)) → (roots : List Root) (before after : RootMap) → IsEachTurned f roots (Some before) (Some after) → HasRootKinds before → HasRootKinds after
turned_roots f keeps roots before after is all = record {
  event = subst IsRootKindIf (sym (is.kinds Event)) (turned_root f keeps (list_any (same_root Event) roots) (Some before.event) all.event);
  variables = λ x. subst IsRootKindIf (sym (is.kinds (Name x))) (turned_root f keeps (list_any (same_root (Name x)) roots) (map.get before.variables x) (all.variables x));
}

turned_steady : (f : KindTree → KindTree) → ((K : KindTree) → IsRootKind K → IsRootKind (f K)) → (W : List Root) (base : RootMap) (roots : List Root) (before after : Option RootMap) → AreAmong roots W → IsEachTurned f roots before after → IsSteady W base before → IsSteady W base after
turned_steady f keeps W base roots before None among is steady = tt
turned_steady f keeps W base roots None (Some after) among is steady = absurd (true≢false is.alive)
turned_steady f keeps W base roots (Some before) (Some after) among is steady = record {
  roots = turned_roots f keeps roots before after is steady.roots;
  kinds = λ r.
      subst (IsSteadyAt (list_any (same_root r) W) (kind_of r base)) (sym (is.kinds r))
      (steady_turned (list_any (same_root r) roots) (list_any (same_root r) W) (kind_of r base) (kind_of r before) (option_map f (kind_of r before)) (among r) (steady.kinds r) (turned_known f (kind_of r base) (kind_of r before)));
}

pub next_steady : RootKindsJoinThemselves → (W : List Root) (base : RootMap) (try : Try) (b : ClosureBody) (known behind next : Option RootMap) → AreAmong (exprs_write b.items) W → IsNextTry try b known behind next → IsSteady W base known → IsSteady W base behind → IsSteady W base next
next_steady joins W base first_try b known behind next among is here there =
    turned_steady flat (λ K root. flat_root K (flat K) refl root.present) W base (exprs_write b.items) is.0 next among is.2 (joined_steady joins W base known behind is.0 is.1 here there)
next_steady joins W base second_try b known behind next among is here there = turned_steady (λ K. any_kind) (λ K root. any_root) W base (exprs_write b.items) known next among is here
next_steady joins W base third_try b known behind next among is here there = absurd is

-- ---- the names of a body

-- one name, if it isn't `_`
name_steady : (W : List Root) (base now : RootMap) (skips : Bool) (x : List ℕ) (K : KindTree) → IsRootKind K → IsSteadyMap W base now → IsSteadyMap W (if skips then base else with_kind (Name x) K base) (if skips then now else with_kind (Name x) K now)
name_steady W base now true x K is steady = steady
name_steady W base now false x K is steady = record {
  roots = with_root (Name x) K now is steady.roots;
  kinds = λ r.
      subst (λ L. IsSteadyAt (list_any (same_root r) W) L (kind_of r (with_kind (Name x) K now))) (sym (kind_with r (Name x) K base))
      (subst (IsSteadyAt (list_any (same_root r) W) (if same_root r (Name x) then Some K else kind_of r base)) (sym (kind_with r (Name x) K now))
      (steady_bound (same_root r (Name x)) (list_any (same_root r) W) K (kind_of r base) (kind_of r now) (steady.kinds r)));
}

pub names_steady : (W : List Root) (names : List (List ℕ)) (Ks : List KindTree) (base now : RootMap) → All IsRootKind Ks → IsSteadyMap W base now → IsSteadyMap W (with_names names Ks base) (with_names names Ks now)
names_steady W [] Ks base now all steady = steady
names_steady W (x ∷ names) [] base now all steady = steady
names_steady W (x ∷ names) (K ∷ Ks) base now all steady =
    names_steady W names Ks _ _ (All-tail IsRootKind K Ks all) (name_steady W base now (bytes_eq x (codes "_")) x K (All-head IsRootKind K Ks all) steady)

-- what isn't one of the names stays
event_stays : (names : List (List ℕ)) (Ks : List KindTree) (roots : RootMap) → (with_names names Ks roots).event ≡ roots.event
event_stays [] Ks roots = refl
event_stays (x ∷ names) [] roots = refl
event_stays (x ∷ names) (K ∷ Ks) roots = event_stays names Ks (if bytes_eq x (codes "_") then roots else with_kind (Name x) K roots) ∙ by (bytes_eq x (codes "_")) where
  by : (skips : Bool) → (if skips then roots else with_kind (Name x) K roots).event ≡ roots.event
  by true = refl
  by false = refl

-- a name that isn't hidden is neither the first, if that isn't `_`, nor one of the others
passed_over : (skips same others : Bool) → (cond skips others (same || others)) ≡ false → (skips ≡ false → same ≡ false) × (others ≡ false)
passed_over true same others none = ((λ wrong. absurd (true≢false wrong)), none)
passed_over false true others none = absurd (true≢false none)
passed_over false false others none = ((λ _. refl), none)

hidden_first : (skips : Bool) (x y : List ℕ) (names : List (List ℕ)) → list_any (bytes_eq x) (if skips then hidden_by names else y ∷ hidden_by names) ≡ cond skips (list_any (bytes_eq x) (hidden_by names)) (bytes_eq x y || list_any (bytes_eq x) (hidden_by names))
hidden_first true x y names = refl
hidden_first false x y names = refl

name_stays : (skips : Bool) (x y : List ℕ) (K : KindTree) (roots : RootMap) → (skips ≡ false → bytes_eq x y ≡ false) → map.get (if skips then roots else with_kind (Name y) K roots).variables x ≡ map.get roots.variables x
name_stays true x y K roots other = refl
name_stays false x y K roots other = kind_with (Name x) (Name y) K roots ∙ ap (λ b. cond b (Some K) (map.get roots.variables x)) (other refl)

names_stay : (names : List (List ℕ)) (Ks : List KindTree) (roots : RootMap) (x : List ℕ) → list_any (bytes_eq x) (hidden_by names) ≡ false → map.get (with_names names Ks roots).variables x ≡ map.get roots.variables x
names_stay [] Ks roots x none = refl
names_stay (y ∷ names) [] roots x none = refl
names_stay (y ∷ names) (K ∷ Ks) roots x none =
    let passed = passed_over (bytes_eq y (codes "_")) (bytes_eq x y) (list_any (bytes_eq x) (hidden_by names)) (sym (hidden_first (bytes_eq y (codes "_")) x y names) ∙ none) in
    names_stay names Ks (if bytes_eq y (codes "_") then roots else with_kind (Name y) K roots) x passed.1 ∙ name_stays (bytes_eq y (codes "_")) x y K roots passed.0

-- ---- ends of scopes

kept_root : (keeps : Bool) (K : Option KindTree) → IsRootKindIf K → IsRootKindIf (cond keeps K None)
kept_root true K is = is
kept_root false K is = tt

-- behind a block
block_at : (W : List Root) (base before after : RootMap) → IsSteadyMap W base before → IsSteadyMap W base after → (r : Root) → IsSteadyAt (list_any (same_root r) W) (kind_of r base) (kind_of r (without_new_names before after))
block_at W base before after began ends Event = ends.kinds Event
block_at W base before after began ends (Name x) =
    subst (IsSteadyAt (list_any (same_root (Name x)) W) (map.get base.variables x)) (sym (at_kept after.variables (λ y. map.contains_key before.variables y) x))
    (steady_left false (list_any (same_root (Name x)) W) (map.get base.variables x) (map.get before.variables x) (map.get base.variables x) (map.get after.variables x) (λ _. refl) (began.kinds (Name x)) (ends.kinds (Name x)))

pub block_steady : (W : List Root) (base before : RootMap) (after : Option RootMap) → IsSteadyMap W base before → IsSteady W base after → IsSteady W base (option_map (without_new_names before) after)
block_steady W base before None began ends = tt
block_steady W base before (Some after) began ends = record {
  roots = record {
    event = ends.roots.event;
    variables = λ x. subst IsRootKindIf (sym (at_kept after.variables (λ y. map.contains_key before.variables y) x)) (kept_root (map.contains_key before.variables x) (map.get after.variables x) (ends.roots.variables x));
  };
  kinds = block_at W base before after began ends;
}

-- behind the body of a closure
knows_name : (v : Variables) (x : List ℕ) → set.contains (names_of v) x ≡ is_some (map.get v x)
knows_name v x = set.contains-from_list nat_list_cmp_total (map.keys v) x ∙ sym (map.contains_key-keys v x)

body_at : (W : List Root) (names : List (List ℕ)) (Ks : List KindTree) (base before after : RootMap) → IsSteadyMap W base before → IsSteadyMap W (with_names names Ks base) after → (r : Root) → IsSteadyAt (list_any (same_root r) W) (kind_of r base) (kind_of r (kept (body_scope (hidden_by names) before) after))
body_at W names Ks base before after began ends Event = subst (λ K. IsSteadyAt (list_any (same_root Event) W) (Some K) (Some after.event)) (event_stays names Ks base) (ends.kinds Event)
body_at W names Ks base before after began ends (Name x) =
    let hides : List ℕ → Bool = λ y. list_any (bytes_eq y) (hidden_by names) in
    let scope : Scope = body_scope (hidden_by names) before in
    subst (IsSteadyAt (list_any (same_root (Name x)) W) (map.get base.variables x))
    (sym (at_behind scope after.variables x ∙ ap (λ o. first_of o (cond (set.contains scope.known x) (map.get after.variables x) None)) (at_kept before.variables hides x) ∙ ap (λ b. first_of (cond (hides x) (map.get before.variables x) None) (cond b (map.get after.variables x) None)) (knows_name before.variables x)))
    (steady_left (hides x) (list_any (same_root (Name x)) W) (map.get base.variables x) (map.get before.variables x) (map.get (with_names names Ks base).variables x) (map.get after.variables x) (names_stay names Ks base x) (began.kinds (Name x)) (ends.kinds (Name x)))

pub body_steady : (W : List Root) (names : List (List ℕ)) (Ks : List KindTree) (base before : RootMap) (after : Option RootMap) → IsSteadyMap W base before → IsSteady W (with_names names Ks base) after → IsSteady W base (option_map (kept (body_scope (hidden_by names) before)) after)
body_steady W names Ks base before None began ends = tt
body_steady W names Ks base before (Some after) began ends = record {
  roots = left_roots (body_scope (hidden_by names) before) after.event after.variables _ _ refl refl
      (λ x. subst IsRootKindIf (sym (at_kept before.variables (λ y. list_any (bytes_eq y) (hidden_by names)) x)) (kept_root (list_any (bytes_eq x) (hidden_by names)) (map.get before.variables x) (began.roots.variables x)))
      ends.roots;
  kinds = body_at W names Ks base before after began ends;
}

-- ---- within what is left once the written roots are forgotten

-- each root's kind is within that of every value
abbrev alone : KindTree → RootMap
alone K = record { event = K; variables = map.empty }

alone_forgotten : (K : KindTree) (r : Root) → kind_of r (alone any_kind) ≡ (if list_any (same_root r) (Event ∷ []) then option_map (λ L. any_kind) (kind_of r (alone K)) else kind_of r (alone K))
alone_forgotten K Event = refl
alone_forgotten K (Name x) = refl

alone_roots : (K : KindTree) → IsRootKind K → HasRootKinds (alone K)
alone_roots K root = record { event = root; variables = λ x. subst IsRootKindIf (sym (map.get-empty _ x)) tt }

any_is_wider : ForgettingWidens → (K : KindTree) → IsRootKind K → IsWithin K any_kind
any_is_wider widens K root = (widens (Event ∷ []) (Some (alone K)) (Some (alone any_kind)) (alone_roots K root) (record { alive = refl; kinds = alone_forgotten K })).event

steady_within : ForgettingWidens → (written : Bool) (K L : Option KindTree) → IsRootKindIf L → (written ≡ true → (M : KindTree) → K ≡ Some M → M ≡ any_kind) → IsSteadyAt written K L → IsVariableWithin L K
steady_within widens written None L root forgotten is = tt
steady_within widens written (Some K) None root forgotten is = absurd is
steady_within widens true (Some K) (Some L) root forgotten is = subst (IsWithin L) (sym (forgotten refl K refl)) (any_is_wider widens L root)
steady_within widens false (Some K) (Some L) root forgotten is = subst (IsWithin L) is (λ p t allowed. allowed)

-- of a root that is forgotten nothing is known
nothing_known : (written : Bool) (before K : Option KindTree) → K ≡ (if written then option_map (λ L. any_kind) before else before) → written ≡ true → (M : KindTree) → K ≡ Some M → M ≡ any_kind
nothing_known true None K is forgotten M here = let wrong : None ≡ Some M = sym is ∙ here in cc
nothing_known true (Some L) K is forgotten M here = some_is M any_kind (sym here ∙ is) where
  some_is : (a b : KindTree) → Some a ≡ Some b → a ≡ b
  some_is a b same = cc
nothing_known false before K is wrong M here = absurd (false≢true wrong)

pub within_forgotten : ForgettingWidens → (W : List Root) (before : Option RootMap) (base : RootMap) (now : Option RootMap) → IsForgotten W before (Some base) → IsSteady W base now → IsKnownWithin now (Some base)
within_forgotten widens W before base None forgotten steady = tt
within_forgotten widens W before base (Some now) forgotten steady = record {
  event = steady_within widens (list_any (same_root Event) W) (Some base.event) (Some now.event) steady.roots.event (nothing_known (list_any (same_root Event) W) (kind_in Event before) (Some base.event) (forgotten.kinds Event)) (steady.kinds Event);
  variables = λ x.
      steady_within widens (list_any (same_root (Name x)) W) (map.get base.variables x) (map.get now.variables x) (steady.roots.variables x)
      (nothing_known (list_any (same_root (Name x)) W) (kind_in (Name x) before) (map.get base.variables x) (forgotten.kinds (Name x))) (steady.kinds (Name x));
}
