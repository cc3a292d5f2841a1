-- What is made of a collection and of the values that a closure's runs gave is well-formed where these are.
use Rattle.std.specs.Prelude.{◌≡◌, ℕ, suc, pos, Bool, true, false, List, [], ◌∷◌, map, Option, Some, None, IfSome, option_map, ⊤, if◌then◌else◌}
use Rattle.std.proofs.lemmas.Bool.{and_from, and_parts}
use Rattle.std.specs.Cmp.Lexicographic.{slice_cmp}
use Rattle.std.specs.Ordering.{nat_cmp}
use Rattle.std.specs.declared.cmp.Ordering.TheVariants.{Less}
use Rattle.vrl_value.specs.Regexes.{items_regexes_below, members_regexes_below, regexes_below}
use Rattle.vrl_value.specs.Tree.{Tree, string, integer, boolean, null, timestamp, regex, array as items, object as members, Items, no_items, item, Members, no_members, member, put, IsBefore}
use Rattle.vrl_syntax.specs.Calls.{for_names}
use Rattle.vrl_syntax.specs.declared.call_form.CallForm.{CallForm}
use Rattle.vrl_syntax.specs.declared.call_form.CallForm.TheVariants as form
use Rattle.vrl_builtin.specs.Listed.{list_in, trees_in}
use Rattle.vrl_store.specs.Operators.{is_true}
use Rattle.vrl_store.specs.WellFormed.{AreWellFormed, IsWellFormed}
use Rattle.vrl_resolve.specs.Iteration.{filtered, given_by, kept_items, kept_members, new_members, parts_by_name, parts_from, renamed, with_keys, with_values}
use Rattle.vrl_resolve.proofs.WellFormedValues.{Laws, array_is, no_items_is, no_members_is, number_is, put_is, text_is}

-- ---- parts

pub first_item : (count : ℕ) (v : Tree) (ts : Items) → IsWellFormed count (items (item v ts)) → IsWellFormed count v
first_item count v ts is = record { ordered = is.ordered.0; below = (and_parts (regexes_below count v) (items_regexes_below count ts) is.below).0 }

pub other_items : (count : ℕ) (v : Tree) (ts : Items) → IsWellFormed count (items (item v ts)) → IsWellFormed count (items ts)
other_items count v ts is = record { ordered = is.ordered.1; below = (and_parts (regexes_below count v) (items_regexes_below count ts) is.below).1 }

with_item : (count : ℕ) (v : Tree) (ts : Items) → IsWellFormed count v → IsWellFormed count (items ts) → IsWellFormed count (items (item v ts))
with_item count v ts one is = record { ordered = (one.ordered, is.ordered); below = and_from (regexes_below count v) (items_regexes_below count ts) one.below is.below }

pub first_member : (count : ℕ) (k : List ℕ) (v : Tree) (ms : Members) → IsWellFormed count (members (member k v ms)) → IsWellFormed count v
first_member count k v ms is = record { ordered = is.ordered.1; below = (and_parts (regexes_below count v) (members_regexes_below count ms) is.below).0 }

pub other_members : (count : ℕ) (k : List ℕ) (v : Tree) (ms : Members) → IsWellFormed count (members (member k v ms)) → IsWellFormed count (members ms)
other_members count k v ms is = record { ordered = is.ordered.2; below = (and_parts (regexes_below count v) (members_regexes_below count ms) is.below).1 }

with_member : (count : ℕ) (k : List ℕ) (v : Tree) (ms : Members) → IsBefore k ms → IsWellFormed count v → IsWellFormed count (members ms) → IsWellFormed count (members (member k v ms))
with_member count k v ms before one is = record { ordered = (before, one.ordered, is.ordered); below = and_from (regexes_below count v) (members_regexes_below count ms) one.below is.below }

-- ---- what the closure's names stand for

abbrev pub EachWellFormed : ℕ → List (List Tree) → Type 0
EachWellFormed count [] = ⊤
EachWellFormed count (vs ∷ vss) = AreWellFormed count vs × EachWellFormed count vss

pub names_formed : (count : ℕ) (f : CallForm) (key v : Tree) → IsWellFormed count key → IsWellFormed count v → AreWellFormed count (for_names f key v)
names_formed count form.ForEach key v one is = (one, (is, tt))
names_formed count form.Filter key v one is = (one, (is, tt))
names_formed count form.MapValues key v one is = (is, tt)
names_formed count form.MapKeys key v one is = (one, tt)
names_formed count form.Del key v one is = tt
names_formed count form.Exists key v one is = tt

items_given : (count : ℕ) (f : CallForm) (n : ℕ) (ts : Items) → IsWellFormed count (items ts) → EachWellFormed count (map (λ p. for_names f p.0 p.1) (parts_from n ts))
items_given count f n no_items is = tt
items_given count f n (item v ts) is =
    (names_formed count f (integer (pos n)) v (number_is count (pos n)) (first_item count v ts is), items_given count f (suc n) ts (other_items count v ts is))

members_given : (count : ℕ) (f : CallForm) (ms : Members) → IsWellFormed count (members ms) → EachWellFormed count (map (λ p. for_names f p.0 p.1) (parts_by_name ms))
members_given count f no_members is = tt
members_given count f (member k v ms) is =
    (names_formed count f (string k) v (text_is count k) (first_member count k v ms is), members_given count f ms (other_members count k v ms is))

pub given_formed : (count : ℕ) (f : CallForm) (v : Tree) → IsWellFormed count v → EachWellFormed count (given_by f v)
given_formed count f (items ts) is = items_given count f 0 ts is
given_formed count f (members ms) is = members_given count f ms is
given_formed count f (string s) is = tt
given_formed count f (integer n) is = tt
given_formed count f (boolean b) is = tt
given_formed count f null is = tt
given_formed count f (timestamp n) is = tt
given_formed count f (regex n) is = tt

-- ---- the values of runs

trees_formed : (count : ℕ) (ts : Items) → IsWellFormed count (items ts) → AreWellFormed count (trees_in ts)
trees_formed count no_items is = tt
trees_formed count (item v ts) is = (first_item count v ts is, trees_formed count ts (other_items count v ts is))

pub list_formed : (count : ℕ) (v : Tree) → IsWellFormed count v → AreWellFormed count (list_in v)
list_formed count (items ts) is = trees_formed count ts is
list_formed count (members ms) is = tt
list_formed count (string s) is = tt
list_formed count (integer n) is = tt
list_formed count (boolean b) is = tt
list_formed count null is = tt
list_formed count (timestamp n) is = tt
list_formed count (regex n) is = tt

-- ---- parts that are kept

either_items : (count : ℕ) (b : Bool) (v : Tree) (ts : Items) → IsWellFormed count v → IsWellFormed count (items ts) → IsWellFormed count (items (if b then item v ts else ts))
either_items count true v ts one is = with_item count v ts one is
either_items count false v ts one is = is

items_kept : (count : ℕ) (ts : Items) (rs : List Tree) → IsWellFormed count (items ts) → IsWellFormed count (items (kept_items ts rs))
items_kept count no_items rs is = no_items_is count
items_kept count (item v ts) [] is = no_items_is count
items_kept count (item v ts) (r ∷ rs) is = either_items count (is_true r) v (kept_items ts rs) (first_item count v ts is) (items_kept count ts rs (other_items count v ts is))

before_either : (b : Bool) (k l : List ℕ) (v : Tree) (ms : Members) → slice_cmp nat_cmp k l ≡ Less → IsBefore k ms → IsBefore k (if b then member l v ms else ms)
before_either true k l v ms here others = (here, others)
before_either false k l v ms here others = others

pub before_kept : (k : List ℕ) (ms : Members) (rs : List Tree) → IsBefore k ms → IsBefore k (kept_members ms rs)
before_kept k no_members rs before = tt
before_kept k (member l v ms) [] before = tt
before_kept k (member l v ms) (r ∷ rs) before = before_either (is_true r) k l v (kept_members ms rs) before.0 (before_kept k ms rs before.1)

either_members : (count : ℕ) (b : Bool) (k : List ℕ) (v : Tree) (ms : Members) → IsBefore k ms → IsWellFormed count v → IsWellFormed count (members ms) → IsWellFormed count (members (if b then member k v ms else ms))
either_members count true k v ms before one is = with_member count k v ms before one is
either_members count false k v ms before one is = is

pub members_kept : (count : ℕ) (ms : Members) (rs : List Tree) → IsWellFormed count (members ms) → IsWellFormed count (members (kept_members ms rs))
members_kept count no_members rs is = no_members_is count
members_kept count (member k v ms) [] is = no_members_is count
members_kept count (member k v ms) (r ∷ rs) is =
    either_members count (is_true r) k v (kept_members ms rs) (before_kept k ms rs is.ordered.0) (first_member count k v ms is) (members_kept count ms rs (other_members count k v ms is))

pub filtered_is : (count : ℕ) (v : Tree) (rs : List Tree) → IsWellFormed count v → IsWellFormed count (filtered v rs)
filtered_is count (items ts) rs is = items_kept count ts rs is
filtered_is count (members ms) rs is = members_kept count ms rs is
filtered_is count (string s) rs is = is
filtered_is count (integer n) rs is = is
filtered_is count (boolean b) rs is = is
filtered_is count null rs is = is
filtered_is count (timestamp n) rs is = is
filtered_is count (regex n) rs is = is

-- ---- new values

pub before_new : (k : List ℕ) (ms : Members) (rs : List Tree) → IsBefore k ms → IsBefore k (new_members ms rs)
before_new k no_members rs before = tt
before_new k (member l v ms) [] before = tt
before_new k (member l v ms) (r ∷ rs) before = (before.0, before_new k ms rs before.1)

pub members_new : (count : ℕ) (ms : Members) (rs : List Tree) → IsWellFormed count (members ms) → AreWellFormed count rs → IsWellFormed count (members (new_members ms rs))
members_new count no_members rs is are = no_members_is count
members_new count (member k v ms) [] is are = no_members_is count
members_new count (member k v ms) (r ∷ rs) is are = with_member count k r (new_members ms rs) (before_new k ms rs is.ordered.0) are.0 (members_new count ms rs (other_members count k v ms is) are.1)

pub with_values_is : (count : ℕ) (v : Tree) (rs : List Tree) → IsWellFormed count v → AreWellFormed count rs → IsWellFormed count (with_values v rs)
with_values_is count (items ts) rs is are = array_is count rs are
with_values_is count (members ms) rs is are = members_new count ms rs is are
with_values_is count (string s) rs is are = is
with_values_is count (integer n) rs is are = is
with_values_is count (boolean b) rs is are = is
with_values_is count null rs is are = is
with_values_is count (timestamp n) rs is are = is
with_values_is count (regex n) rs is are = is

-- ---- new names

members_of_done : (count : ℕ) (done : Option Members) → IfSome done (λ ms. IsWellFormed count (members ms)) → IfSome (option_map (λ ms. members ms) done) (IsWellFormed count)
members_of_done count None is = tt
members_of_done count (Some ms) is = is

renamed_is : (laws : Laws) (count : ℕ) (ms : Members) (rs : List Tree) (done : Members) → IsWellFormed count (members ms) → IsWellFormed count (members done) → IfSome (renamed ms rs done) (λ all. IsWellFormed count (members all))
renamed_is laws count no_members rs done is formed = formed
renamed_is laws count (member k v ms) [] done is formed = tt
renamed_is laws count (member k v ms) (string s ∷ rs) done is formed = renamed_is laws count ms rs (put s v done) (other_members count k v ms is) (put_is laws count s v done (first_member count k v ms is) formed)
renamed_is laws count (member k v ms) (integer n ∷ rs) done is formed = tt
renamed_is laws count (member k v ms) (boolean b ∷ rs) done is formed = tt
renamed_is laws count (member k v ms) (null ∷ rs) done is formed = tt
renamed_is laws count (member k v ms) (timestamp n ∷ rs) done is formed = tt
renamed_is laws count (member k v ms) (regex n ∷ rs) done is formed = tt
renamed_is laws count (member k v ms) (items ts ∷ rs) done is formed = tt
renamed_is laws count (member k v ms) (members ns ∷ rs) done is formed = tt

pub with_keys_is : (laws : Laws) (count : ℕ) (v : Tree) (rs : List Tree) → IsWellFormed count v → IfSome (with_keys v rs) (IsWellFormed count)
with_keys_is laws count (members ms) rs is = members_of_done count (renamed ms rs no_members) (renamed_is laws count ms rs no_members is (no_members_is count))
with_keys_is laws count (items ts) rs is = is
with_keys_is laws count (string s) rs is = is
with_keys_is laws count (integer n) rs is = is
with_keys_is laws count (boolean b) rs is = is
with_keys_is laws count null rs is = is
with_keys_is laws count (timestamp n) rs is = is
with_keys_is laws count (regex n) rs is = is
