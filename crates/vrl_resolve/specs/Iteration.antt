-- The runs of a closure for the parts of a collection, which is an array or an object, and what the
-- four functions make of what they give.
--
-- The runs are told first, and what is made of their values behind the last one; the code makes it
-- as it goes.
use Rattle.std.specs.Prelude.{ℕ, suc, pos, List, [], ◌∷◌, ◌++◌, map, Option, Some, None, option_map, if◌then◌else◌}
use Rattle.vrl_value.specs.Tree.{Tree, string, integer, array as items, object as members, Items, no_items, item, Members, no_members, member, put}
use Rattle.vrl_value.specs.View.{items_of_trees}
use Rattle.vrl_syntax.specs.Calls.{for_names}
use Rattle.vrl_syntax.specs.Stores.{Store}
use Rattle.vrl_syntax.specs.declared.call_form.CallForm.{CallForm}
use Rattle.vrl_store.specs.Operators.{is_true}
use Rattle.vrl_store.specs.Outcomes.{value, Ended, ends, on_value}

-- ---- the runs

-- The run of a closure's body: it is given values for the closure's names and a store, and says how
-- it ends.
abbrev pub Body : Type 0
Body = List Tree → Store → Ended

-- the parts in order, each with its key: of an array by place, and of an object by name
abbrev pub parts_from : ℕ → Items → List (Tree × Tree)
parts_from n no_items = []
parts_from n (item v ts) = (integer (pos n), v) ∷ parts_from (suc n) ts

abbrev pub parts_by_name : Members → List (Tree × Tree)
parts_by_name no_members = []
parts_by_name (member k v ms) = (string k, v) ∷ parts_by_name ms

abbrev pub parts_in : Tree → List (Tree × Tree)
parts_in (items ts) = parts_from 0 ts
parts_in (members ms) = parts_by_name ms
parts_in v = []

-- what the closure's names stand for at each of them
abbrev pub given_by : CallForm → Tree → List (List Tree)
given_by f v = map (λ p. for_names f p.0 p.1) (parts_in v)

-- the body is run with each of these in order; the array of the values that the runs give, behind
-- those of runs before them. What one run leaves in the store the next one finds, and a run that
-- ends without a value ends all
abbrev pub runs : Body → List (List Tree) → List Tree → Store → Ended
runs body [] rs store = ends (value (items (items_of_trees rs))) store
runs body (vs ∷ vss) rs store = on_value (body vs store) (λ r after. runs body vss (rs ++ r ∷ []) after)

-- ---- what is made of the values that they give, one for each part

-- the parts whose run gave true
abbrev pub kept_items : Items → List Tree → Items
kept_items (item v ts) (r ∷ rs) = if is_true r then item v (kept_items ts rs) else kept_items ts rs
kept_items ts rs = no_items

abbrev pub kept_members : Members → List Tree → Members
kept_members (member k v ms) (r ∷ rs) = if is_true r then member k v (kept_members ms rs) else kept_members ms rs
kept_members ms rs = no_members

abbrev pub filtered : Tree → List Tree → Tree
filtered (items ts) rs = items (kept_items ts rs)
filtered (members ms) rs = members (kept_members ms rs)
filtered v rs = v

-- the parts with these in the place of their values
abbrev pub new_members : Members → List Tree → Members
new_members (member k v ms) (r ∷ rs) = member k r (new_members ms rs)
new_members ms rs = no_members

abbrev pub with_values : Tree → List Tree → Tree
with_values (items ts) rs = items (items_of_trees rs)
with_values (members ms) rs = members (new_members ms rs)
with_values v rs = v

-- the parts with these in the place of their names, put behind others; of equal names the last
-- counts. None where one of them is no text
abbrev pub renamed : Members → List Tree → Members → Option Members
renamed (member k v ms) (string s ∷ rs) done = renamed ms rs (put s v done)
renamed (member k v ms) rs done = None
renamed no_members rs done = Some done

abbrev pub with_keys : Tree → List Tree → Option Tree
with_keys (members ms) rs = option_map (λ done. members done) (renamed ms rs no_members)
with_keys v rs = Some v
