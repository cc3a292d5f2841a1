-- What stands in the event and the variables while a script runs.
use Rattle.std.specs.Prelude.{ℕ, Bool, false, List, [], ◌∷◌, Option, Some, None, bytes_eq, codes, if◌then◌else◌}
use Rattle.std.specs.Cmp.Lexicographic.{slice_cmp}
use Rattle.std.specs.FinMap as map
use Rattle.std.specs.Ordering.{nat_cmp}
use Rattle.vrl_value.specs.Tree.{Tree, null, object, no_members}
use Rattle.vrl_syntax.specs.declared.root.Root.{Root}
use Rattle.vrl_syntax.specs.declared.root.Root.TheVariants.{Event, Name}

-- the values of variables by the bytes of their names
abbrev pub Values : Type 0
Values = map.FinMap (slice_cmp nat_cmp) Tree

-- the name of the metadata, which no name in a script is spelt as
abbrev pub metadata_name : List ℕ
metadata_name = codes "%"

abbrev pub metadata : Root
metadata = Name metadata_name

abbrev pub is_metadata : Root → Bool
is_metadata Event = false
is_metadata (Name x) = bytes_eq x metadata_name

-- the event, and the variables with the metadata among them
pub record Store : Type 0 where
  pub event : Tree
  pub variables : Values

-- the store that a run starts with: the metadata is there, and no other variable
abbrev pub store_of : Tree → Tree → Store
store_of event beside = record { event = event; variables = map.insert map.empty metadata_name beside }

-- what stands in a root; none in a variable that isn't there
abbrev pub value_of : Root → Store → Option Tree
value_of Event store = Some store.event
value_of (Name x) store = map.get store.variables x

abbrev pub with_value : Root → Tree → Store → Store
with_value Event v store = record store { event = v }
with_value (Name x) v store = record store { variables = map.insert store.variables x v }

-- what is left in a root that is removed: an empty object of the event and of the metadata, and
-- null in any other variable
abbrev pub left_in : Root → Tree
left_in Event = object no_members
left_in (Name x) = if bytes_eq x metadata_name then object no_members else null

-- behind a block only what the store held where it began
abbrev pub store_kept : Store → Store → Store
store_kept before after =
    record after { variables = map.retain_keys after.variables (λ x. map.contains_key before.variables x) }

-- ---- the body of a closure

-- the names that a closure binds, which hide names of the store: all but `_`
abbrev pub hidden_by : List (List ℕ) → List (List ℕ)
hidden_by [] = []
hidden_by (x ∷ names) = if bytes_eq x (codes "_") then hidden_by names else x ∷ hidden_by names

-- the store with the names of a closure bound to values, in order; `_` takes none
abbrev pub bound_to : List (List ℕ) → List Tree → Store → Store
bound_to [] vs store = store
bound_to (x ∷ names) [] store = store
bound_to (x ∷ names) (v ∷ vs) store =
    bound_to names vs (if bytes_eq x (codes "_") then store else with_value (Name x) v store)

-- a name with the value that it had; one that wasn't there stays as it is
abbrev pub value_back : List ℕ → Option Tree → Values → Values
value_back x None values = values
value_back x (Some v) values = map.insert values x v

abbrev pub values_back : List (List ℕ) → Values → Values → Values
values_back [] before values = values
values_back (x ∷ names) before values = value_back x (map.get before x) (values_back names before values)

-- behind a closure's body: what the store held where it began, and in it the hidden names with the
-- values that they had there; where none is hidden that is the end of a block
abbrev pub store_back : List (List ℕ) → Store → Store → Store
store_back hidden before after =
    record after { variables = values_back hidden before.variables (store_kept before after).variables }
