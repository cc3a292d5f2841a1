-- The store of the code as that of the meaning: variables have numbers there, which stand for their
-- names.
use Rattle.std.specs.Prelude.{◌≡◌, ℕ, ◌<◌, Bool, true, false, ◌==◌, List, [], ◌∷◌, ◌++◌, length, map, Option, Some, None, slice_get, unwrap_or, IsTrue, ⊤}
use Rattle.std.specs.Cmp.Lexicographic.{slice_cmp}
use Rattle.std.specs.FinMap as finite
use Rattle.std.specs.List.{list_any}
use Rattle.std.specs.Ordering.{eq_by_cmp, nat_cmp}
use Rattle.std.specs.declared.result.Result.{Result}
use Rattle.std.specs.declared.result.Result.TheVariants.{Ok, Err}
use Rattle.vrl_value.specs.Tree.{Tree, Members, no_members, member}
use Rattle.vrl_value.specs.View.{tree_of}
use Rattle.vrl_path.specs.declared.fault.SetFault.{SetFault}
use Rattle.vrl_path.specs.declared.fault.SetFault.TheVariants as fault
use Rattle.vrl_path.specs.declared.path.Step.{Step}
use Rattle.vrl_syntax.specs.Stores.{Store, metadata_name, with_value}
use Rattle.vrl_syntax.specs.declared.root.Root.{Root}
use Rattle.vrl_syntax.specs.declared.root.Root.TheVariants.{Event, Name}
use Rattle.vrl_store.specs.Kept.{trees_of}
use Rattle.vrl_store.specs.Places.{is_within, root_with}
use Rattle.vrl_store.specs.declared.hidden_value.HiddenValue.{HiddenValue}
use Rattle.vrl_store.specs.declared.target_path.Base.{Base}
use Rattle.vrl_store.specs.declared.target_path.Base.TheVariants as base
use Rattle.vrl_store.specs.declared.store.Store.{Store as CodeStore}

abbrev pub Names : Type 0
Names = List (List ℕ)

abbrev pub Variables : Type 0
Variables = finite.FinMap (slice_cmp nat_cmp) Tree

-- the name of a variable
abbrev pub name_at : Names → ℕ → List ℕ
name_at names number = unwrap_or (slice_get names number) []

abbrev pub root_of : Names → Base → Root
root_of names base.Event = Event
root_of names (base.Variable number) = Name (name_at names number)

-- the variables that are there, each at its name
abbrev pub with_variable : List ℕ → Option Tree → Variables → Variables
with_variable x None vs = vs
with_variable x (Some v) vs = finite.insert vs x v

abbrev pub variables_of : Names → List (Option Tree) → Variables
variables_of [] vs = finite.empty
variables_of (x ∷ names) [] = finite.empty
variables_of (x ∷ names) (v ∷ vs) = with_variable x v (variables_of names vs)

abbrev pub store_in : Names → CodeStore → Store
store_in names s = record { event = tree_of s.event; variables = variables_of names (trees_of s.variables.items) }

-- ---- what it has in memory

-- the event
abbrev pub event_of : CodeStore → Tree
event_of s = tree_of s.event

-- the numbers of the variables that are there beside the metadata, in the order in which they came
abbrev pub present_of : CodeStore → List ℕ
present_of s = s.present.items

-- how many variables there may be
abbrev pub count_of : CodeStore → ℕ
count_of s = length s.variables.items

-- the value that a name of a closure hides
abbrev pub hidden_tree : HiddenValue → Tree
hidden_tree h = tree_of h.value

-- ---- names

abbrev pub is_among : List ℕ → Names → Bool
is_among x names = list_any (eq_by_cmp (slice_cmp nat_cmp) x) names

-- no name stands twice
abbrev pub AreDistinct : Names → Type 0
AreDistinct [] = ⊤
AreDistinct (x ∷ names) = (is_among x names ≡ false) × AreDistinct names

-- the first of the names is that of the metadata
abbrev pub BeginWithMetadata : Names → Type 0
BeginWithMetadata names = slice_get names 0 ≡ Some metadata_name

-- the names of the variables, of which no two are equal, with the metadata first
pub record AreNames (names : Names) (s : CodeStore) : Type 0 where
  pub as_many : count_of s ≡ length names
  pub distinct : AreDistinct names
  pub first : BeginWithMetadata names

-- ---- what the calls of a store say of it, whatever names the numbers stand for

-- a root that a store of so many variables has
abbrev pub IsKnown : ℕ → Base → Type 0
IsKnown count base.Event = ⊤
IsKnown count (base.Variable number) = number < count

-- the numbers that were there come first
abbrev pub IsFront : List ℕ → List ℕ → Type 0
IsFront xs ys = (more : List ℕ) × (ys ≡ xs ++ more)

-- a value was written at a path; where the root would be too deep, and at want of memory, all stays
-- as it was
abbrev pub IsWritten : Root → List Step → Tree → Store → Store → Result (Unit {0}) SetFault → Type 0
IsWritten root path v before after (Ok done) =
    (is_within (root_with root path v before) ≡ true) × (after ≡ with_value root (root_with root path v before) before)
IsWritten root path v before after (Err fault.TooDeep) =
    (is_within (root_with root path v before) ≡ false) × (after ≡ before)
IsWritten root path v before after (Err fault.Memory) = after ≡ before

-- only the metadata and the variables with these numbers are left
abbrev pub left_with : Names → List ℕ → Store → Store
left_with names numbers store = record store {
  variables = finite.retain_keys store.variables (λ x. is_among x (map (name_at names) (0 ∷ numbers)));
}

-- the variables with these numbers stay as they were
abbrev pub Stay : List (Option Tree) → List (Option Tree) → List ℕ → Type 0
Stay before after numbers = (number : ℕ) → IsTrue (list_any (λ n. n == number) numbers)
    → unwrap_or (slice_get after number) None ≡ unwrap_or (slice_get before number) None

-- the values of an object, each at its name
abbrev pub map_of : Members → Variables
map_of no_members = finite.empty
map_of (member x v ms) = finite.insert (map_of ms) x v
