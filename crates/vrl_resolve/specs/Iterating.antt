-- The loops over a collection: what the run for a part binds, and what is made of the parts that
-- are left, behind what was made so far.
use Rattle.std.specs.Prelude.{◌≡◌, ℕ, Bool, true, false, List, [], ◌∷◌, ◌++◌, Option, Some, None, option_map, IfSome, IsTrue, ⊤}
use Rattle.vrl_value.specs.Tree.{Tree, null, string as text, array as items, object as members, Items, item, Members, member, put_all}
use Rattle.vrl_value.specs.View.{items_of_trees, members_of, tree_of}
use Rattle.vrl_value.specs.declared.value.Value.{Value}
use Rattle.vrl_syntax.specs.Calls.{for_names}
use Rattle.vrl_syntax.specs.Stores.{Store, value_of, with_value}
use Rattle.vrl_syntax.specs.declared.root.Root.TheVariants.{Name}
use Rattle.vrl_store.specs.Kept.{is_held}
use Rattle.vrl_store.specs.Operators.{is_true}
use Rattle.vrl_store.specs.Outcomes.{Outcome, value, error}
use Rattle.vrl_store.specs.StoreView.{hidden_tree, name_at, present_of, store_in, AreNames, Names}
use Rattle.vrl_store.specs.declared.hidden_value.HiddenValue.{HiddenValue}
use Rattle.vrl_store.specs.declared.store.Store.{Store as CodeStore}
use Rattle.vrl_resolve.specs.Calls.{renamed_or_else, within_limit, Body}
use Rattle.vrl_resolve.specs.Iteration.{kept_items, kept_members, new_members, renamed}
use Rattle.vrl_resolve.specs.Linked.{Parts}
use Rattle.vrl_resolve.specs.LinkedMeaning.{body_means, form_in, slots_in}
use Rattle.vrl_resolve.specs.Walking.{names_in, setting_in}
use Rattle.vrl_resolve.specs.declared.iteration.Bindings.{Bindings}
use Rattle.vrl_resolve.specs.declared.iteration.Bindings.TheVariants as bindings
use Rattle.vrl_resolve.specs.declared.iteration.Held.{Held}
use Rattle.vrl_resolve.specs.declared.iteration.Held.TheVariants as held
use Rattle.vrl_resolve.specs.declared.iteration.MadeFields.{MadeFields}
use Rattle.vrl_resolve.specs.declared.node.Loop.{Loop}
use Rattle.vrl_resolve.specs.declared.node.Loop.TheVariants as loops
use Rattle.vrl_resolve.specs.declared.walk.Context.{Context}

-- ---- what a run binds

-- its variables and their values, in order
abbrev pub bound_variables : Bindings → List (Option ℕ)
bound_variables (bindings.One slot v) = slot ∷ []
bound_variables (bindings.Two first v second w) = first ∷ second ∷ []

abbrev pub bound_values : Bindings → List Tree
bound_values (bindings.One slot v) = tree_of v ∷ []
bound_values (bindings.Two first v second w) = tree_of v ∷ tree_of w ∷ []

-- those of the function, for a part with this key and this value
pub record Binds (f : Loop) (key part : Tree) (b : Bindings) : Type 0 where
  pub variables : bound_variables b ≡ slots_in f
  pub values : bound_values b ≡ for_names (form_in f) key part

-- the run of the function's closure
abbrev pub body_in : Context → Loop → Parts → Body
body_in x f ns = body_means (names_in x) (setting_in x) (slots_in f) ns

-- ---- a variable that is bound

abbrev pub bound_slot : Names → Option ℕ → Tree → Store → Store
bound_slot names None v store = store
bound_slot names (Some number) v store = with_value (Name (name_at names number)) v store

-- the value that it had, and its number is among those of the variables that were there
abbrev pub IsHiddenBy : Option ℕ → Option HiddenValue → CodeStore → Type 0
IsHiddenBy None hidden before = ⊤
IsHiddenBy (Some number) hidden before =
    ((names : Names) → AreNames names before
    → option_map hidden_tree hidden ≡ value_of (Name (name_at names number)) (store_in names before))
    × IfSome hidden (λ v. IsTrue (is_held number (present_of before)))

-- a value that is given back is that of a variable that is there
abbrev pub MayBeGivenBack : Option ℕ → Option HiddenValue → List ℕ → Type 0
MayBeGivenBack None hidden numbers = ⊤
MayBeGivenBack (Some number) hidden numbers = IfSome hidden (λ v. IsTrue (is_held number numbers))

abbrev pub given_back : Names → Option ℕ → Option Tree → Store → Store
given_back names None hidden store = store
given_back names (Some number) None store = store
given_back names (Some number) (Some v) store = with_value (Name (name_at names number)) v store

-- ---- arrays

-- the function takes arrays
abbrev pub takes_arrays : Loop → Bool
takes_arrays (loops.MapKeys key) = false
takes_arrays f = true

-- what the runs of its closure give is asked for
abbrev pub is_body_asked : Loop → Bool
is_body_asked (loops.ForEach key v) = false
is_body_asked f = true

-- items in order, before others
abbrev pub items_onto : List Tree → Items → Items
items_onto [] ts = ts
items_onto (v ∷ vs) ts = item v (items_onto vs ts)

-- what is made of the items that are left, whose runs give these values, behind what was made so
-- far
abbrev pub made_items : Loop → List Tree → Items → List Tree → Outcome
made_items (loops.ForEach key v) made ts rs = value null
made_items (loops.Filter key v) made ts rs = within_limit (items (items_onto made (kept_items ts rs)))
made_items (loops.MapValues v) made ts rs = within_limit (items (items_of_trees (made ++ rs)))
made_items (loops.MapKeys key) made ts rs = value null

-- a filter keeps the item at hand
abbrev pub IsItemHeld : Loop → Tree → Option Value → Type 0
IsItemHeld (loops.Filter key v) t kept = option_map tree_of kept ≡ Some t
IsItemHeld f t kept = ⊤

-- the value of an item's run is taken
abbrev pub TakesItem : Loop → List Tree → List Tree → Option Value → Tree → Type 0
TakesItem f before after kept r = (t : Tree) → IsItemHeld f t kept → (ts : Items) (rs : List Tree)
    → made_items f after ts rs ≡ made_items f before (item t ts) (r ∷ rs)

-- what the run for an item gave, or the item, is put behind the others
abbrev pub adds_item : Loop → Tree → Bool
adds_item (loops.ForEach key v) r = false
adds_item (loops.Filter key v) r = is_true r
adds_item (loops.MapValues v) r = true
adds_item (loops.MapKeys key) r = false

-- ---- objects

abbrev pub made_fields : Loop → Bool → Members → Members → List Tree → Outcome
made_fields (loops.ForEach key v) named made ms rs = value null
made_fields (loops.Filter key v) named made ms rs = within_limit (members (put_all (kept_members ms rs) made))
made_fields (loops.MapValues v) named made ms rs = within_limit (members (put_all (new_members ms rs) made))
-- a name so far was no text
made_fields (loops.MapKeys key) false made ms rs = error []
made_fields (loops.MapKeys key) true made ms rs =
    renamed_or_else (option_map (λ done. members done) (renamed ms rs made))

abbrev pub made_in : Loop → MadeFields → Members → List Tree → Outcome
made_in f m ms rs = made_fields f m.are_named (members_of m.fields) ms rs

-- what the function keeps of a field at hand
abbrev pub IsFieldHeld : Loop → List ℕ → Tree → Held → Type 0
IsFieldHeld (loops.ForEach key v) k t held.Nothing = ⊤
IsFieldHeld (loops.Filter key v) k t (held.Field name part) = (name ≡ k) × (tree_of part ≡ t)
IsFieldHeld (loops.MapValues v) k t (held.Name name) = name ≡ k
IsFieldHeld (loops.MapKeys key) k t (held.Part part) = tree_of part ≡ t
IsFieldHeld f k t kept = ⊥

-- the value of a field's run is taken
abbrev pub TakesField : MadeFields → MadeFields → Held → Tree → Type 0
TakesField before after kept r = (f : Loop) (k : List ℕ) (t : Tree) → IsFieldHeld f k t kept
    → (ms : Members) (rs : List Tree) → made_in f after ms rs ≡ made_in f before (member k t ms) (r ∷ rs)

-- the same of a new name, and of the value that stands at it
abbrev pub TakesName : MadeFields → MadeFields → Tree → Tree → Type 0
TakesName before after r t = (key : Option ℕ) (k : List ℕ) (ms : Members) (rs : List Tree)
    → made_in (loops.MapKeys key) after ms rs ≡ made_in (loops.MapKeys key) before (member k t ms) (r ∷ rs)

-- only a text names a field
abbrev pub is_name : Tree → Bool
is_name (text k) = true
is_name r = false

-- a field is put among the others
abbrev pub adds_field : Held → Tree → Bool
adds_field held.Nothing r = false
adds_field (held.Field k v) r = is_true r
adds_field (held.Name k) r = true
adds_field (held.Part v) r = is_name r
