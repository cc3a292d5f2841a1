-- What is known at a place of a script, before any event is there: the kinds of the event and of
-- the variables, and the scopes that are open. The rules are those by which the Vector Remap
-- Language types a script: a write changes what is known from there on, and behind branches only
-- what each of them leaves is known.
use Rattle.std.specs.Prelude.{◌≡◌, ◌≤◌, Bool, ◌||◌, ◌&&◌, not, true, false, bytes_eq, codes, if◌then◌else◌, ℕ, List, [], ◌∷◌, Option, Some, None, map as each, option_map, is_some, IfSome, IsSomeAnd, MatchOption, ⊤}
use Rattle.std.specs.Cmp.Lexicographic.{slice_cmp}
use Rattle.std.specs.FinMap as map
use Rattle.std.specs.FinSet as set
use Rattle.std.specs.List.{list_any}
use Rattle.std.specs.Ordering.{nat_cmp}
use Rattle.vrl_value.specs.declared.value.Tag.TheVariants as tag
use Rattle.vrl_path.specs.declared.path.Step.{Step}
use Rattle.vrl_syntax.specs.declared.root.Root.{Root}
use Rattle.vrl_syntax.specs.declared.root.Root.TheVariants.{Event, Name}
use Rattle.vrl_kind.specs.Canonical.{IsCanonical, any_kind}
use Rattle.vrl_kind.specs.Count.{nodes, levels}
use Rattle.vrl_kind.specs.Cut.{flat, IsCut, level_limit, node_limit}
use Rattle.vrl_kind.specs.KindTree.{KindTree, json_rest, no_fields}
use Rattle.vrl_kind.specs.Kinds as kinds
use Rattle.vrl_kind.specs.Kinds.{tags_at}
use Rattle.vrl_kind.specs.Make.{object_kind}
use Rattle.vrl_kind.specs.Sets.{Sets, SameSets}
use Rattle.vrl_place.specs.Far.{IsRemovedCut, IsWrittenCut}

-- ---- what a state is

-- the kinds of variables, by the bytes of their names
abbrev pub Variables : Type 0
Variables = map.FinMap (slice_cmp nat_cmp) KindTree

-- each root with its kind: the event, and each variable that is known
pub record RootMap : Type 0 where
  pub event : KindTree
  pub variables : Variables

-- names of variables, by their bytes
abbrev pub NameSet : Type 0
NameSet = set.FinSet (slice_cmp nat_cmp)

-- a block, or the body of a closure, that is open
pub record Scope : Type 0 where
  -- the names of the variables that were known where it began
  pub known : NameSet
  -- those of them that it hides, with the kinds that they get back where it ends
  pub hidden : Variables

pub record State : Type 0 where
  -- none where no way leads: the state is dead
  pub known : Option RootMap
  -- the innermost scope first
  pub scopes : List Scope

-- the kind of a root; a variable that isn't known has none
abbrev pub kind_of : Root → RootMap → Option KindTree
kind_of Event roots = Some roots.event
kind_of (Name x) roots = map.get roots.variables x

-- the same of a state: a dead one knows no root
abbrev pub kind_in : Root → Option RootMap → Option KindTree
kind_in root None = None
kind_in root (Some roots) = kind_of root roots

-- the root has this kind
abbrev pub with_kind : Root → KindTree → RootMap → RootMap
with_kind Event K roots = record roots { event = K }
with_kind (Name x) K roots = record roots { variables = map.insert roots.variables x K }

-- ---- the kinds of a state

-- the kind that allows these tags at each path, cut to the limits
pub record IsCutOf (A : Sets) (M : KindTree) : Type 0 where
  pub whole : KindTree
  pub canonical : IsCanonical whole
  pub tags : SameSets (tags_at whole) A
  pub cut : IsCut whole M

-- what is of the kind is never absent
abbrev pub IsPresent : KindTree → Type 0
IsPresent K = tags_at K [] tag.Absent ≡ false

-- a root's kind is within the limits, and the root is never absent
pub record IsRootKind (K : KindTree) : Type 0 where
  pub canonical : IsCanonical K
  pub present : IsPresent K
  pub nodes : nodes K ≤ node_limit
  pub levels : levels K ≤ level_limit

abbrev pub IsRootKindIf : Option KindTree → Type 0
IsRootKindIf None = ⊤
IsRootKindIf (Some K) = IsRootKind K

-- each root's kind is one
pub record HasRootKinds (roots : RootMap) : Type 0 where
  pub event : IsRootKind roots.event
  pub variables : (x : List ℕ) → IsRootKindIf (map.get roots.variables x)

-- objects of which nothing is known but that they are JSON
abbrev pub json_object : KindTree
json_object = object_kind no_fields json_rest

-- ---- the state at the start of a script, whose event is of this kind
pub record IsStart (K : KindTree) (state : State) : Type 0 where
  pub roots : RootMap
  pub known : state.known ≡ Some roots
  pub event : IsCut K roots.event
  pub variables : roots.variables ≡ map.empty
  pub scopes : state.scopes ≡ []

-- ---- writes and removals

-- the kind that a write starts from. A variable that isn't known may still be there, from a way
-- that a join dropped, with any value
abbrev pub written_from : Option KindTree → KindTree
written_from None = any_kind
written_from (Some K) = K

-- M is K with N written at the path, cut
abbrev pub IsWrittenKind : KindTree → List Step → KindTree → KindTree → Type 0
IsWrittenKind = IsWrittenCut

-- M is K without what stands at the path, cut
abbrev pub IsLeftKind : KindTree → List Step → KindTree → Type 0
IsLeftKind = IsRemovedCut

-- the root has a kind of which this holds
abbrev pub HasNow : Root → (KindTree → Type 0) → RootMap → Option RootMap → Type 0
HasNow root Is roots after = (M : KindTree) × Is M × (after ≡ Some (with_kind root M roots))

-- the root's kind with N written at the path; a dead state stays dead
abbrev pub IsWritten : Root → List Step → KindTree → Option RootMap → Option RootMap → Type 0
IsWritten root p N None after = after ≡ None
IsWritten root p N (Some roots) after =
    HasNow root (IsWrittenKind (written_from (kind_of root roots)) p N) roots after

-- the root's kind without what stands at the path; a root that isn't known is passed over
abbrev pub IsTakenOut : Root → List Step → Option RootMap → Option RootMap → Type 0
IsTakenOut root p None after = after ≡ None
IsTakenOut root p (Some roots) after =
    MatchOption (kind_of root roots) (after ≡ Some roots) (λ K. HasNow root (IsLeftKind K p) roots after)

-- ---- joins

-- at each path the tags of both
abbrev pub either : KindTree → KindTree → Sets
either K L p t = tags_at K p t || tags_at L p t

abbrev pub IsEither : KindTree → KindTree → KindTree → Type 0
IsEither K L M = IsCutOf (either K L) M

-- a variable that only one side knows is dropped
abbrev pub IsEitherVariable : Option KindTree → Option KindTree → Option KindTree → Type 0
IsEitherVariable None L M = M ≡ None
IsEitherVariable (Some K) None M = M ≡ None
IsEitherVariable (Some K) (Some L) M = IsSomeAnd M (IsEither K L)

-- what is known on either way
pub record IsEitherMap (a b c : RootMap) : Type 0 where
  pub event : IsEither a.event b.event c.event
  pub variables : (x : List ℕ)
      → IsEitherVariable (map.get a.variables x) (map.get b.variables x) (map.get c.variables x)

-- a dead side gives the other
abbrev pub IsJoined : Option RootMap → Option RootMap → Option RootMap → Type 0
IsJoined None b c = c ≡ b
IsJoined (Some a) None c = c ≡ Some a
IsJoined (Some a) (Some b) c = IsSomeAnd c (IsEitherMap a b)

-- a hidden name has either kind
pub record IsScopeJoined (a b c : Scope) : Type 0 where
  pub known : c.known ≡ a.known
  pub hidden : (x : List ℕ) → IsEitherVariable (map.get a.hidden x) (map.get b.hidden x) (map.get c.hidden x)

abbrev pub IsEachScopeJoined : List Scope → List Scope → List Scope → Type 0
IsEachScopeJoined [] [] [] = ⊤
IsEachScopeJoined (s ∷ ss) (t ∷ ts) (u ∷ us) = IsScopeJoined s t u × IsEachScopeJoined ss ts us
IsEachScopeJoined ss ts us = ⊥

-- what is known on either way has these scopes: a dead side gives the other's, and where both are
-- alive the hidden kinds are joined name by name
abbrev pub AreScopesJoined : Option RootMap → Option RootMap → List Scope → List Scope → List Scope → Type 0
AreScopesJoined None b ss ts us = us ≡ ts
AreScopesJoined (Some a) None ss ts us = us ≡ ss
AreScopesJoined (Some a) (Some b) ss ts us = IsEachScopeJoined ss ts us

-- the names that a scope knows, and those that it hides
abbrev pub scope_names : Scope → NameSet × List (List ℕ)
scope_names scope = (scope.known, map.keys scope.hidden)

-- both stand in the same scopes: these know the same names and hide the same names. The hidden
-- kinds may differ
abbrev pub HaveSameScopes : State → State → Type 0
HaveSameScopes a b = each scope_names a.scopes ≡ each scope_names b.scopes

-- ---- order

-- a variable that the second side knows, the first knows with a kind within it
abbrev pub IsVariableWithin : Option KindTree → Option KindTree → Type 0
IsVariableWithin K None = ⊤
IsVariableWithin None (Some L) = ⊥
IsVariableWithin (Some K) (Some L) = kinds.IsWithin K L

pub record IsMapWithin (a b : RootMap) : Type 0 where
  pub event : kinds.IsWithin a.event b.event
  pub variables : (x : List ℕ) → IsVariableWithin (map.get a.variables x) (map.get b.variables x)

-- a dead state is within each other one
abbrev pub IsKnownWithin : Option RootMap → Option RootMap → Type 0
IsKnownWithin None b = ⊤
IsKnownWithin (Some a) None = ⊥
IsKnownWithin (Some a) (Some b) = IsMapWithin a b

-- ---- scopes

-- whether a variable is known
abbrev pub knows : Option RootMap → List ℕ → Bool
knows known x = is_some (kind_in (Name x) known)

-- a scope that begins where this is known: it knows the names that are known, and a name that it
-- hides had the hidden kind
pub record BeginsAt (known : Option RootMap) (scope : Scope) : Type 0 where
  pub names : (x : List ℕ) → set.contains scope.known x ≡ knows known x
  pub hidden : (x : List ℕ) → IfSome (map.get scope.hidden x) (λ K. kind_in (Name x) known ≡ Some K)

-- a block begins: what is known stays, its names are kept, and none is hidden
pub record IsEntered (before after : State) : Type 0 where
  pub scope : Scope
  pub names : (x : List ℕ) → set.contains scope.known x ≡ knows before.known x
  pub hidden : scope.hidden ≡ map.empty
  pub scopes : after.scopes ≡ scope ∷ before.scopes
  pub known : after.known ≡ before.known

-- each of these variables with its kind, whatever was known of it
abbrev pub kinds_back : List (List ℕ × KindTree) → Variables → Variables
kinds_back [] variables = variables
kinds_back (e ∷ es) variables = map.insert (kinds_back es variables) e.0 e.1

-- behind a scope: its own variables, which weren't known where it began, end with it, and hidden
-- names have their kinds back
abbrev pub kept : Scope → RootMap → RootMap
kept scope roots = record roots {
  variables = kinds_back (map.entries scope.hidden)
      (map.retain_keys roots.variables (λ x. set.contains scope.known x));
}

-- the innermost scope ends
pub record IsLeft (before after : State) : Type 0 where
  pub scope : Scope
  pub scopes : before.scopes ≡ scope ∷ after.scopes
  pub known : after.known ≡ option_map (kept scope) before.known

-- ---- roots that the body of a closure writes

-- whether two are one root: the event, or variables of one name
abbrev pub same_root : Root → Root → Bool
same_root Event Event = true
same_root Event (Name y) = false
same_root (Name x) Event = false
same_root (Name x) (Name y) = bytes_eq x y

-- each of these roots that is known has the kind that f makes of its own; what else is known stays
pub record IsEachTurned (f : KindTree → KindTree) (roots : List Root) (before after : Option RootMap) : Type 0 where
  -- a dead state stays dead, and no other becomes so
  pub alive : is_some after ≡ is_some before
  pub kinds : (root : Root)
      → kind_in root after ≡
      (if list_any (same_root root) roots then option_map f (kind_in root before) else kind_in root before)

-- each keeps its outer tags, with every value inside
abbrev pub IsFlattened : List Root → Option RootMap → Option RootMap → Type 0
IsFlattened roots before after = IsEachTurned flat roots before after

-- of each nothing is known but that it is there
abbrev pub IsForgotten : List Root → Option RootMap → Option RootMap → Type 0
IsForgotten roots before after = IsEachTurned (λ K. any_kind) roots before after

-- ---- names that a closure binds

-- a scope hides a name that has this kind, where it knows the name and doesn't hide it yet
abbrev pub hiding : List ℕ → Option KindTree → Scope → Scope
hiding x None scope = scope
hiding x (Some K) scope = if set.contains scope.known x && not
    (map.contains_key scope.hidden x) then record scope { hidden = map.insert scope.hidden x K } else scope

-- the innermost scope hides the name
abbrev pub IsHiding : List ℕ → Option KindTree → List Scope → List Scope → Type 0
IsHiding x K [] after = after ≡ []
IsHiding x K (s ∷ ss) after = after ≡ hiding x K s ∷ ss

-- a name has this kind, cut, from here to the end of the innermost scope, which hides what was
-- known of it; a dead state stays dead
pub record IsHidden (x : List ℕ) (K : KindTree) (before after : State) : Type 0 where
  pub kind : KindTree
  pub cut : IsCut K kind
  pub scope : Scope
  pub outer : List Scope
  pub entered : before.scopes ≡ scope ∷ outer
  pub scopes : after.scopes ≡ hiding x (kind_in (Name x) before.known) scope ∷ outer
  pub known : after.known ≡ option_map (with_kind (Name x) kind) before.known

-- ---- the body of a closure, told of what is known alone

-- its names have these kinds, in order; `_` takes none
abbrev pub with_names : List (List ℕ) → List KindTree → RootMap → RootMap
with_names [] Ks roots = roots
with_names (x ∷ names) [] roots = roots
with_names (x ∷ names) (K ∷ Ks) roots =
    with_names names Ks (if bytes_eq x (codes "_") then roots else with_kind (Name x) K roots)

-- the scope of a body that hides names and begins where this is known: it knows the names that are
-- known, and hides those of these that are
abbrev pub body_scope : List (List ℕ) → RootMap → Scope
body_scope names roots = record {
  known = set.from_list
      (map.keys roots.variables);
  hidden = map.retain_keys roots.variables (λ x. list_any (bytes_eq x) names);
}
