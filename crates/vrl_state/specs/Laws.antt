-- Laws of states: what a store holds goes on fitting what is known of it.
use Rattle.std.specs.Prelude.{◌≡◌, ◌⊎◌, false, [], ◌∷◌, ℕ, List, Option, Some, IfSome, IsSome, IsTrue, option_map, ⊤}
use Rattle.std.specs.FinMap as map
use Rattle.std.specs.FinSet as set
use Rattle.vrl_value.specs.Tree.{Tree}
use Rattle.vrl_value.specs.declared.value.Tag.TheVariants as tag
use Rattle.vrl_path.specs.declared.path.Step.{Step}
use Rattle.vrl_syntax.specs.Stores.{bound_to}
use Rattle.vrl_syntax.specs.declared.root.Root.{Root}
use Rattle.vrl_syntax.specs.declared.root.Root.TheVariants.{Name}
use Rattle.vrl_kind.specs.KindTree.{KindTree}
use Rattle.vrl_kind.specs.Kinds.{Inhabits}
use Rattle.vrl_kind.specs.Sets.{Sets, IsAllowed}
use Rattle.vrl_state.specs.Known.{known_as, FitsListed, IsReplaced}
use Rattle.vrl_state.specs.States.{body_scope, hiding, kept, with_names, AreScopesJoined, BeginsAt, HasRootKinds, IsCutOf, IsEither, IsFlattened, IsForgotten, IsHidden, IsJoined, IsKnownWithin, IsRootKind, IsRootKindIf, IsScopeJoined, IsStart, IsTakenOut, IsWritten, RootMap, Scope, State}
use Rattle.vrl_state.specs.Stores.{store_back, with_value, AreOfKinds, Fits, FitsKind, FitsKnown, HidesOf, HoldsNames, IsStoreTakenOut, IsStoreWritten, Store}
use Rattle.vrl_state.specs.declared.known.Known.{Known}

-- a value that the sets allow is of the kind that has them, cut
abbrev pub CutsHoldTheAllowed : Type 0
CutsHoldTheAllowed = (value : Tree) (A : Sets) (M : KindTree) → IsCutOf A M → IsAllowed value A → Inhabits value M

-- the kind that has sets without absent at the root, cut, is a root's
abbrev pub CutsAreRootKinds : Type 0
CutsAreRootKinds = (A : Sets) (M : KindTree) → IsCutOf A M → A [] tag.Absent ≡ false → IsRootKind M

-- a value of one kind or of another is of either
abbrev pub EitherHoldsBoth : Type 0
EitherHoldsBoth =
    (value : Tree) (K L M : KindTree) → IsEither K L M → Inhabits value K ⊎ Inhabits value L → Inhabits value M

-- a store that fits the start's event fits the start
abbrev pub StartsFit : Type 0
StartsFit = (K : KindTree) (state : State) (store : Store) → IsStart K state → Inhabits store.event K → Fits store state

-- a store in which a value was written fits what is known after a write of its kind
abbrev pub WritesKeepFits : Type 0
WritesKeepFits = (root : Root) (p : List Step) (N : KindTree) (value : Tree) (known known' : Option RootMap)
    (before after : Store) → IsWritten root p N known known' → FitsKnown before known → Inhabits value N
    → IsStoreWritten root p value before after → FitsKnown after known'

-- a store from which something was taken out fits what is known after that
abbrev pub RemovalsKeepFits : Type 0
RemovalsKeepFits = (root : Root) (p : List Step) (known known' : Option RootMap) (before after : Store)
    → IsTakenOut root p known known' → FitsKnown before known → IsStoreTakenOut root p before after
    → FitsKnown after known'

-- a store that fits either side of a join fits the join
abbrev pub JoinsKeepFits : Type 0
JoinsKeepFits = (a b c : Option RootMap) (store : Store) → IsJoined a b c → FitsKnown store a ⊎ FitsKnown store b
    → FitsKnown store c

-- a store that holds values of the kinds that a list gives fits what is known once that list is
-- taken over
abbrev pub ReplacingKeepsFits : Type 0
ReplacingKeepsFits = (known : Known) (after : Option RootMap) (store : Store)
    → IsReplaced known after → FitsListed store known → FitsKnown store after

-- what is known stays where its own list is taken over
abbrev pub KnownReplacesItself : Type 0
KnownReplacesItself = (known after : Option RootMap) → IfSome known HasRootKinds
    → IsReplaced (known_as known) after → after ≡ known

-- a store that fits what is known fits what that is within
abbrev pub WithinKeepsFits : Type 0
WithinKeepsFits = (a b : Option RootMap) (store : Store) → FitsKnown store a → IsKnownWithin a b → FitsKnown store b

-- ---- scopes

-- the hidden kinds of each scope are those of roots
abbrev pub HideRootKinds : List Scope → Type 0
HideRootKinds [] = ⊤
HideRootKinds (s ∷ ss) = ((x : List ℕ) → IsRootKindIf (map.get s.hidden x)) × HideRootKinds ss

-- a join of states with the same scopes, hidden kinds too, has these scopes
abbrev pub JoinsKeepScopes : Type 0
JoinsKeepScopes =
    (a b : Option RootMap) (ss ts us : List Scope) → HideRootKinds ss → ss ≡ ts → AreScopesJoined a b ss ts us → us ≡ ss

-- a scope that hides no name gives none back
abbrev pub BlocksGiveNothingBack : Type 0
BlocksGiveNothingBack = (scope : Scope) (roots : RootMap) → scope.hidden ≡ map.empty
    → kept scope roots ≡ record roots { variables = map.retain_keys roots.variables (λ x. set.contains scope.known x) }

-- a store that fits what is known where a scope begins holds its names
abbrev pub BlocksKeepHeldNames : Type 0
BlocksKeepHeldNames = (scope : Scope) (known : Option RootMap) (store : Store) → BeginsAt known scope
    → FitsKnown store known → HoldsNames store scope

-- one that holds the names of either scope holds those of the join
abbrev pub JoinsKeepHeldNames : Type 0
JoinsKeepHeldNames = (s t u : Scope) (store : Store) → t.known ≡ s.known → IsScopeJoined s t u → HoldsNames store s
    ⊎ HoldsNames store t → HoldsNames store u

-- a store that holds only what it held where a scope began, and in hidden names what these held
-- there, fits what is known behind the scope
abbrev pub BlocksKeepFits : Type 0
BlocksKeepFits = (scope : Scope) (names : List (List ℕ)) (known : Option RootMap) (before after : Store)
    → HidesOf scope names → HoldsNames before scope → FitsKnown after known
    → FitsKnown (store_back names before after) (option_map (kept scope) known)

-- ---- closures

-- a store that fits what is known goes on fitting it once roots are flattened
abbrev pub FlatteningKeepsFits : Type 0
FlatteningKeepsFits = (roots : List Root) (known known' : Option RootMap) (store : Store)
    → IsFlattened roots known known' → FitsKnown store known → FitsKnown store known'

-- .. and once they are forgotten
abbrev pub ForgettingKeepsFits : Type 0
ForgettingKeepsFits = (roots : List Root) (known known' : Option RootMap) (store : Store)
    → IsForgotten roots known known' → FitsKnown store known → FitsKnown store known'

-- a store in which a closure's name is bound to a value of its kind fits the state in which it has
-- this kind
abbrev pub HidingKeepsFits : Type 0
HidingKeepsFits = (x : List ℕ) (K : KindTree) (value : Tree) (before after : State) (store : Store)
    → IsHidden x K before after → Fits store before → Inhabits value K → Fits (with_value (Name x) value store) after

-- a store that holds the names of a scope, and in one of them a value of the kind that is hidden,
-- holds those of the scope that hides it
abbrev pub HidingKeepsHeldNames : Type 0
HidingKeepsHeldNames = (x : List ℕ) (K : Option KindTree) (scope : Scope) (store : Store) → HoldsNames store scope
    → FitsKind (map.get store.variables x) K → HoldsNames store (hiding x K scope)

-- a scope that hides some names hides one name more, where the kind of what it knows is told
abbrev pub HidingHides : Type 0
HidingHides = (x : List ℕ) (K : Option KindTree) (scope : Scope) (names : List (List ℕ)) → HidesOf scope names
    → (IsTrue (set.contains scope.known x) → IsSome K) → HidesOf (hiding x K scope) (x ∷ names)

-- a store whose closure's names are bound to values of their kinds fits the state in which they
-- have these
abbrev pub NamesKeepFits : Type 0
NamesKeepFits = (names : List (List ℕ)) (vs : List Tree) (Ks : List KindTree) (store : Store) (roots : RootMap)
    → AreOfKinds vs Ks → FitsKnown store (Some roots)
    → FitsKnown (bound_to names vs store) (Some (with_names names Ks roots))

-- a store fits what is known behind a closure's body where it fitted what was known before it, once
-- the hidden names have their values back
abbrev pub BodiesKeepFits : Type 0
BodiesKeepFits = (names : List (List ℕ)) (roots : RootMap) (known : Option RootMap) (before after : Store)
    → FitsKnown before (Some roots) → FitsKnown after known
    → FitsKnown (store_back names before after) (option_map (kept (body_scope names roots)) known)

-- ---- what stays in a join, where both sides have it alike, and what is wider

-- a root's kind joined with itself is the same
abbrev pub RootKindsJoinThemselves : Type 0
RootKindsJoinThemselves = (K M : KindTree) → IsRootKind K → IsEither K K M → M ≡ K

-- each kind of a root is within that of every value, so what is known is within what is left once
-- roots are forgotten
abbrev pub ForgettingWidens : Type 0
ForgettingWidens = (roots : List Root) (known known' : Option RootMap) → IfSome known HasRootKinds
    → IsForgotten roots known known' → IsKnownWithin known known'
