-- What stands in the event and the variables while a script runs, and how that goes with what is
-- known of them.
use Rattle.std.specs.Prelude.{◌≡◌, ◌&&◌, ℕ, List, [], ◌∷◌, Option, Some, None, MatchOption, bytes_eq, unwrap_or, ⊤, IsTrue}
use Rattle.std.specs.FinMap as map
use Rattle.std.specs.FinSet as set
use Rattle.std.specs.List.{list_any}
use Rattle.vrl_value.specs.Tree.{Tree, null}
use Rattle.vrl_path.specs.Remove.{removable_at, IsRemoved}
use Rattle.vrl_path.specs.Write.{IsSet}
use Rattle.vrl_path.specs.declared.path.Step.{Step}
pub use Rattle.vrl_syntax.specs.Stores.{Store, value_of, with_value, store_back}
use Rattle.vrl_syntax.specs.declared.root.Root.{Root}
use Rattle.vrl_kind.specs.KindTree.{KindTree}
use Rattle.vrl_kind.specs.Kinds.{Inhabits}
use Rattle.vrl_state.specs.States.{RootMap, Scope, State}

-- ---- a store fits what is known

-- what is known is there, and of its kind; the store may hold more
abbrev pub FitsKind : Option Tree → Option KindTree → Type 0
FitsKind v None = ⊤
FitsKind None (Some K) = ⊥
FitsKind (Some v) (Some K) = Inhabits v K

-- values of these kinds, in order
abbrev pub AreOfKinds : List Tree → List KindTree → Type 0
AreOfKinds [] [] = ⊤
AreOfKinds [] (K ∷ Ks) = ⊥
AreOfKinds (v ∷ vs) [] = ⊥
AreOfKinds (v ∷ vs) (K ∷ Ks) = Inhabits v K × AreOfKinds vs Ks

pub record FitsMap (store : Store) (roots : RootMap) : Type 0 where
  pub event : Inhabits store.event roots.event
  pub variables : (x : List ℕ) → FitsKind (map.get store.variables x) (map.get roots.variables x)

-- nothing fits a dead state
abbrev pub FitsKnown : Store → Option RootMap → Type 0
FitsKnown store None = ⊥
FitsKnown store (Some roots) = FitsMap store roots

abbrev pub Fits : Store → State → Type 0
Fits store state = FitsKnown store state.known

-- ---- what a store is once a script has changed it

-- n is written at a path; a variable that isn't there is as null
pub record IsStoreWritten (root : Root) (p : List Step) (n : Tree) (before after : Store) : Type 0 where
  pub value : Tree
  pub set : IsSet (unwrap_or (value_of root before) null) p n value
  pub store : after ≡ with_value root value before

-- w is v without what stands at the path, or v itself where nothing does
abbrev pub IsWithout : Tree → List Step → Tree → Type 0
IsWithout v p w = MatchOption (removable_at v p) (w ≡ v) (λ t. IsRemoved v p w)

-- what stands at a path is taken out; a variable that isn't there stays so
abbrev pub IsStoreTakenOut : Root → List Step → Store → Store → Type 0
IsStoreTakenOut root p before after = MatchOption (value_of root before) (after ≡ before)
    (λ v. (w : Tree) × IsWithout v p w × (after ≡ with_value root w before))

-- ---- a store where a scope begins

-- it holds each name that the scope knows, and in each hidden name a value of its kind
pub record HoldsNames (store : Store) (scope : Scope) : Type 0 where
  pub known : (x : List ℕ) → IsTrue (set.contains scope.known x) → IsTrue (map.contains_key store.variables x)
  pub hidden : (x : List ℕ) → FitsKind (map.get store.variables x) (map.get scope.hidden x)

-- of these names the scope hides those that it knows, and it hides no other name
abbrev pub HidesOf : Scope → List (List ℕ) → Type 0
HidesOf scope names =
    (x : List ℕ) → map.contains_key scope.hidden x ≡ (list_any (bytes_eq x) names && set.contains scope.known x)
