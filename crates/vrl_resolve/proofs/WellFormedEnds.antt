-- Outcomes and stores stay well-formed: what operators give, what is written to a store, and what follows how an expression ended.
use Rattle.std.specs.Prelude.{◌≡◌, ℕ, Bool, true, false, cond, List, [], ◌∷◌, Option, Some, None, IfSome, bytes_eq, codes, refl, if◌then◌else◌}
use Rattle.std.proofs.Common.{Ordering, sym, ap, subst}
use Rattle.std.proofs.lemmas.Bool.{and_parts}
use Rattle.std.proofs.lemmas.Cmp.{nat_list_cmp_total}
use Rattle.std.specs.Cmp.Lexicographic.{slice_cmp}
use Rattle.std.specs.FinMap as finite
use Rattle.std.specs.FinMap.{nat_cmp-IsAntisymmetric, slice_cmp-IsAntisymmetric}
use Rattle.std.specs.Ordering.{eq_by_cmp, nat_cmp}
use Rattle.vrl_value.specs.Order.{order_of}
use Rattle.vrl_value.specs.Regexes.{members_regexes_below, regexes_below}
use Rattle.vrl_value.specs.Tree.{Tree, string, integer, boolean, null, object, Members, no_members, member, put, put_all}
use Rattle.vrl_value.specs.declared.value.Tag.{Tag}
use Rattle.vrl_value.specs.declared.value.Tag.TheVariants as tag
use Rattle.vrl_path.specs.declared.path.Step.{Step}
use Rattle.vrl_syntax.specs.ErrorAssignments.{empty_value}
use Rattle.vrl_syntax.specs.Stores.{Store, Values, bound_to, left_in, metadata_name, store_back, store_kept, value_back, value_of, values_back, with_value}
use Rattle.vrl_syntax.specs.declared.root.Op.{Op}
use Rattle.vrl_syntax.specs.declared.root.Op.TheVariants as op
use Rattle.vrl_syntax.specs.declared.root.Root.{Root}
use Rattle.vrl_syntax.specs.declared.root.Root.TheVariants.{Event, Name}
use Rattle.vrl_syntax.specs.declared.root.Target.{Target}
use Rattle.vrl_syntax.specs.declared.root.Target.TheVariants.{Nowhere, Place}
use Rattle.vrl_store.specs.Operators.{applied, cannot_apply, compared, difference_of, is_falsy, merged, negated, product_of, sum_of, truth_of}
use Rattle.vrl_store.specs.Outcomes.{Outcome, value, error, aborted, returned, banged, deep, Ended, banged_if, block_left, ends, error_then, on_error, on_value, value_then}
use Rattle.vrl_store.specs.Places.{is_within, part_of, read_in, removed, root_value, root_with, root_without, target_value, writes_to}
use Rattle.vrl_store.specs.WellFormed.{AreWellFormed, IsWellFormed, IsWellFormedEnded, IsWellFormedOutcome, IsWellFormedStore}
use Rattle.vrl_resolve.specs.Meaning.{aborted_with, assigned, body_left, both_assigned, combined, written_both}
use Rattle.vrl_resolve.proofs.WellFormedValues.{Laws, boolean_is, moment_is, no_items_is, no_members_is, null_is, number_is, or_null, put_is, read_is, remove_is, set_is, text_is}

-- ---- operators

sum_is : (count : ℕ) (v w : Tree) → IsWellFormedOutcome count (sum_of v w)
sum_is count (integer m) (integer n) = number_is count _
sum_is count (string s) (string t) = text_is count _
sum_is count (string s) null = text_is count s
sum_is count null (string t) = text_is count t
sum_is count v w = tt

difference_is : (count : ℕ) (v w : Tree) → IsWellFormedOutcome count (difference_of v w)
difference_is count (integer m) (integer n) = number_is count _
difference_is count v w = tt

product_is : (count : ℕ) (v w : Tree) → IsWellFormedOutcome count (product_of v w)
product_is count (integer m) (integer n) = number_is count _
product_is count v w = tt

compared_is : (count : ℕ) (o : Op) (ordering : Option Ordering) (v w : Tree) → IsWellFormedOutcome count (compared o ordering (cannot_apply o v w))
compared_is count o None v w = tt
compared_is count o (Some ordering) v w = boolean_is count _

put_all_is : (laws : Laws) (count : ℕ) (ns ms : Members) → IsWellFormed count (object ns) → IsWellFormed count (object ms) → IsWellFormed count (object (put_all ns ms))
put_all_is laws count no_members ms new is = is
put_all_is laws count (member k t ns) ms new is =
    let parts = and_parts (regexes_below count t) (members_regexes_below count ns) new.below in
    put_all_is laws count ns (put k t ms) (record { ordered = new.ordered.2; below = parts.1 }) (put_is laws count k t ms (record { ordered = new.ordered.1; below = parts.0 }) is)

merged_is : (laws : Laws) (count : ℕ) (v w : Tree) → IsWellFormed count v → IsWellFormed count w → IsWellFormedOutcome count (merged v w)
merged_is laws count (object ms) (object ns) left right = put_all_is laws count ns ms right left
merged_is laws count v w left right = tt

applied_is : (laws : Laws) (count : ℕ) (o : Op) (v w : Tree) → IsWellFormed count v → IsWellFormed count w → IsWellFormedOutcome count (applied o v w)
applied_is laws count op.Equal v w left right = boolean_is count _
applied_is laws count op.Unequal v w left right = boolean_is count _
applied_is laws count op.Less v w left right = compared_is count op.Less (order_of v w) v w
applied_is laws count op.AtMost v w left right = compared_is count op.AtMost (order_of v w) v w
applied_is laws count op.More v w left right = compared_is count op.More (order_of v w) v w
applied_is laws count op.AtLeast v w left right = compared_is count op.AtLeast (order_of v w) v w
applied_is laws count op.Merge v w left right = merged_is laws count v w left right
applied_is laws count op.Plus v w left right = sum_is count v w
applied_is laws count op.Minus v w left right = difference_is count v w
applied_is laws count op.Times v w left right = product_is count v w
applied_is laws count o v w left right = tt

truth_is : (count : ℕ) (v : Tree) → IsWellFormedOutcome count (truth_of v)
truth_is count null = boolean_is count false
truth_is count (boolean b) = boolean_is count b
truth_is count v = tt

pub negated_is : (count : ℕ) (v : Tree) → IsWellFormedOutcome count (negated v)
negated_is count (boolean b) = boolean_is count _
negated_is count v = tt

pub aborted_is : (count : ℕ) (v : Tree) → IsWellFormedOutcome count (aborted_with v)
aborted_is count (string s) = tt
aborted_is count v = tt

empty_is : (count : ℕ) (t : Tag) → IsWellFormed count (empty_value t)
empty_is count tag.Text = text_is count []
empty_is count tag.Int = number_is count _
empty_is count tag.Bool = boolean_is count false
empty_is count tag.Object = no_members_is count
empty_is count tag.List = no_items_is count
empty_is count tag.Time = moment_is count _
empty_is count t = null_is count

-- ---- stores

root_is : (count : ℕ) (root : Root) (store : Store) → IsWellFormedStore count store → IfSome (value_of root store) (IsWellFormed count)
root_is count Event store is = is.event
root_is count (Name x) store is = is.variables x

pub part_of_is : (laws : Laws) (count : ℕ) (path : List Step) (v : Tree) → IsWellFormed count v → IsWellFormed count (part_of v path)
part_of_is laws count path v is = or_null count _ (read_is laws count path v is)

pub read_in_is : (laws : Laws) (count : ℕ) (root : Root) (path : List Step) (store : Store) → IsWellFormedStore count store → IsWellFormed count (read_in root path store)
read_in_is laws count root path store is = part_of_is laws count path (root_value root store) (or_null count (value_of root store) (root_is count root store is))

chosen : (count : ℕ) (b : Bool) (v : Tree) (other : Option Tree) → IsWellFormed count v → IfSome other (IsWellFormed count) → IfSome (cond b (Some v) other) (IsWellFormed count)
chosen count true v other is others = is
chosen count false v other is others = others

pub with_value_is : (count : ℕ) (root : Root) (v : Tree) (store : Store) → IsWellFormed count v → IsWellFormedStore count store → IsWellFormedStore count (with_value root v store)
with_value_is count Event v store new is = record { event = new; variables = is.variables }
with_value_is count (Name x) v store new is = record {
  event = is.event;
  variables = λ y. subst (λ found. IfSome found (IsWellFormed count)) (sym (finite.get-insert nat_list_cmp_total store.variables x v y)) (chosen count (eq_by_cmp (slice_cmp nat_cmp) y x) v (finite.get store.variables y) new (is.variables y));
}

if_kept : (count : ℕ) (b : Bool) (found : Option Tree) → IfSome found (IsWellFormed count) → IfSome (cond b found None) (IsWellFormed count)
if_kept count true found is = is
if_kept count false found is = tt

kept_is : (count : ℕ) (before after : Store) → IsWellFormedStore count after → IsWellFormedStore count (store_kept before after)
kept_is count before after is = record {
  event = is.event;
  variables = λ x. subst (λ found. IfSome found (IsWellFormed count))
      (sym (finite.get-retain_keys after.variables (λ y. finite.contains_key before.variables y) x (λ y same. ap (finite.contains_key before.variables) (sym (slice_cmp-IsAntisymmetric nat_cmp-IsAntisymmetric x y same)))))
      (if_kept count (finite.contains_key before.variables x) (finite.get after.variables x) (is.variables x));
}

-- the names of a closure
abbrev AreHeld : ℕ → Values → Type 0
AreHeld count values = (x : List ℕ) → IfSome (finite.get values x) (IsWellFormed count)

bound_one : (count : ℕ) (skipped : Bool) (x : List ℕ) (v : Tree) (store : Store) → IsWellFormed count v → IsWellFormedStore count store → IsWellFormedStore count (if skipped then store else with_value (Name x) v store)
bound_one count true x v store new is = is
bound_one count false x v store new is = with_value_is count (Name x) v store new is

pub bound_is : (count : ℕ) (names : List (List ℕ)) (vs : List Tree) (store : Store) → AreWellFormed count vs → IsWellFormedStore count store → IsWellFormedStore count (bound_to names vs store)
bound_is count [] vs store are is = is
bound_is count (x ∷ names) [] store are is = is
bound_is count (x ∷ names) (v ∷ vs) store are is = bound_is count names vs _ are.1 (bound_one count (bytes_eq x (codes "_")) x v store are.0 is)

one_back : (count : ℕ) (x : List ℕ) (found : Option Tree) (values : Values) → IfSome found (IsWellFormed count) → AreHeld count values → AreHeld count (value_back x found values)
one_back count x None values is are = are
one_back count x (Some v) values is are = (with_value_is count (Name x) v (record { event = null; variables = values }) is (record { event = null_is count; variables = are })).variables

all_back : (count : ℕ) (names : List (List ℕ)) (before values : Values) → AreHeld count before → AreHeld count values → AreHeld count (values_back names before values)
all_back count [] before values were are = are
all_back count (x ∷ names) before values were are = one_back count x (finite.get before x) (values_back names before values) (were x) (all_back count names before values were are)

store_back_is : (count : ℕ) (hidden : List (List ℕ)) (before after : Store) → IsWellFormedStore count before → IsWellFormedStore count after → IsWellFormedStore count (store_back hidden before after)
store_back_is count hidden before after was is = record { event = is.event; variables = all_back count hidden before.variables (store_kept before after).variables was.variables (kept_is count before after is).variables }

without : (laws : Laws) (count : ℕ) (root : Root) (path : List Step) (v : Option Tree) (store : Store) → IfSome v (IsWellFormed count) → IsWellFormedStore count store → IsWellFormedStore count (root_without root path v store)
without laws count root path None store there is = is
without laws count root path (Some v) store there is = with_value_is count root _ store (remove_is laws count path v there) is

object_or_null : (count : ℕ) (b : Bool) → IsWellFormed count (if b then object no_members else null)
object_or_null count true = no_members_is count
object_or_null count false = null_is count

left_is : (count : ℕ) (root : Root) → IsWellFormed count (left_in root)
left_is count Event = no_members_is count
left_is count (Name x) = object_or_null count (bytes_eq x metadata_name)

pub removed_is : (laws : Laws) (count : ℕ) (root : Root) (path : List Step) (store : Store) → IsWellFormedStore count store → IsWellFormedStore count (removed root path store)
removed_is laws count root [] store is = with_value_is count root (left_in root) store (left_is count root) is
removed_is laws count root (s ∷ path) store is = without laws count root (s ∷ path) (value_of root store) store (root_is count root store is) is

-- ---- what follows

pub block_is : (count : ℕ) (before : Store) (ended : Ended) → IsWellFormedEnded count ended → IsWellFormedEnded count (block_left before ended)
block_is count before ended is = (is.0, kept_is count before ended.store is.1)

pub body_left_is : (count : ℕ) (hidden : List (List ℕ)) (before : Store) (ended : Ended) → IsWellFormedStore count before → IsWellFormedEnded count ended → IsWellFormedEnded count (body_left hidden before ended)
body_left_is count hidden before ended was is = (is.0, store_back_is count hidden before ended.store was is.1)

value_then_is : (count : ℕ) (outcome : Outcome) (store : Store) (next : Tree → Store → Ended) → IsWellFormedOutcome count outcome → IsWellFormedStore count store →
    ((v : Tree) (after : Store) → IsWellFormed count v → IsWellFormedStore count after → IsWellFormedEnded count (next v after)) → IsWellFormedEnded count (value_then outcome store next)
value_then_is count (value v) store next is stored then_is = then_is v store is stored
value_then_is count (error text) store next is stored then_is = (tt, stored)
value_then_is count (aborted m) store next is stored then_is = (tt, stored)
value_then_is count (returned v) store next is stored then_is = (is, stored)
value_then_is count (banged text) store next is stored then_is = (tt, stored)
value_then_is count deep store next is stored then_is = (tt, stored)

pub on_value_is : (count : ℕ) (ended : Ended) (next : Tree → Store → Ended) → IsWellFormedEnded count ended →
    ((v : Tree) (after : Store) → IsWellFormed count v → IsWellFormedStore count after → IsWellFormedEnded count (next v after)) → IsWellFormedEnded count (on_value ended next)
on_value_is count ended next is then_is = value_then_is count ended.outcome ended.store next is.0 is.1 then_is

-- with how it ended
value_known : (count : ℕ) (outcome : Outcome) (store : Store) (next : Tree → Store → Ended) → IsWellFormedOutcome count outcome → IsWellFormedStore count store →
    ((v : Tree) → outcome ≡ value v → IsWellFormed count v → IsWellFormedEnded count (next v store)) → IsWellFormedEnded count (value_then outcome store next)
value_known count (value v) store next is stored then_is = then_is v refl is
value_known count (error text) store next is stored then_is = (tt, stored)
value_known count (aborted m) store next is stored then_is = (tt, stored)
value_known count (returned v) store next is stored then_is = (is, stored)
value_known count (banged text) store next is stored then_is = (tt, stored)
value_known count deep store next is stored then_is = (tt, stored)

pub on_value_known : (count : ℕ) (ended : Ended) (next : Tree → Store → Ended) → IsWellFormedEnded count ended →
    ((v : Tree) → ended.outcome ≡ value v → IsWellFormed count v → IsWellFormedEnded count (next v ended.store)) → IsWellFormedEnded count (on_value ended next)
on_value_known count ended next is then_is = value_known count ended.outcome ended.store next is.0 is.1 then_is

-- values of equal outcomes are equal
pub same_value : (v w : Tree) → value v ≡ value w → w ≡ v
same_value v w is = cc

-- a value that came of what followed one
value_came : (outcome : Outcome) (store : Store) (next : Tree → Store → Ended) (u : Tree) → (value_then outcome store next).outcome ≡ value u → (v : Tree) × ((outcome ≡ value v) × ((next v store).outcome ≡ value u))
value_came (value v) store next u came = (v, (refl, came))
value_came (error text) store next u came = cc
value_came (aborted m) store next u came = cc
value_came (returned v) store next u came = cc
value_came (banged text) store next u came = cc
value_came deep store next u came = cc

pub came_of : (ended : Ended) (next : Tree → Store → Ended) (u : Tree) → (on_value ended next).outcome ≡ value u → (v : Tree) × ((ended.outcome ≡ value v) × ((next v ended.store).outcome ≡ value u))
came_of ended next u came = value_came ended.outcome ended.store next u came

error_then_is : (count : ℕ) (outcome : Outcome) (store : Store) (next : List ℕ → Store → Ended) → IsWellFormedOutcome count outcome → IsWellFormedStore count store →
    ((text : List ℕ) (after : Store) → IsWellFormedStore count after → IsWellFormedEnded count (next text after)) → IsWellFormedEnded count (error_then outcome store next)
error_then_is count (value v) store next is stored then_is = (is, stored)
error_then_is count (error text) store next is stored then_is = then_is text store stored
error_then_is count (aborted m) store next is stored then_is = (tt, stored)
error_then_is count (returned v) store next is stored then_is = (is, stored)
error_then_is count (banged text) store next is stored then_is = (tt, stored)
error_then_is count deep store next is stored then_is = (tt, stored)

on_error_is : (count : ℕ) (ended : Ended) (next : List ℕ → Store → Ended) → IsWellFormedEnded count ended →
    ((text : List ℕ) (after : Store) → IsWellFormedStore count after → IsWellFormedEnded count (next text after)) → IsWellFormedEnded count (on_error ended next)
on_error_is count ended next is then_is = error_then_is count ended.outcome ended.store next is.0 is.1 then_is

pub banged_is : (count : ℕ) (bang : Bool) (ended : Ended) → IsWellFormedEnded count ended → IsWellFormedEnded count (banged_if bang ended)
banged_is count true ended is = on_error_is count ended _ is (λ text after stored. (tt, stored))
banged_is count false ended is = is

pub either_is : (count : ℕ) (b : Bool) (first second : Ended) → IsWellFormedEnded count first → IsWellFormedEnded count second → IsWellFormedEnded count (if b then first else second)
either_is count true first second one other = one
either_is count false first second one other = other

pub writes_is : (laws : Laws) (count : ℕ) (target : Target) (v : Tree) (store : Store) (next : Store → Ended) → IsWellFormed count v → IsWellFormedStore count store →
    ((after : Store) → IsWellFormedStore count after → IsWellFormedEnded count (next after)) → IsWellFormedEnded count (writes_to target v store next)
writes_is laws count Nowhere v store next new is then_is = then_is store is
writes_is laws count (Place span root path) v store next new is then_is =
    let written = set_is laws count path (root_value root store) v (or_null count (value_of root store) (root_is count root store is)) new in
    either_is count (is_within (root_with root path v store)) _ _ (then_is _ (with_value_is count root (root_with root path v store) store written is)) (tt, is)

pub target_is : (laws : Laws) (count : ℕ) (target : Target) (store : Store) → IsWellFormedStore count store → IsWellFormed count (target_value target store)
target_is laws count Nowhere store is = null_is count
target_is laws count (Place span root path) store is = read_in_is laws count root path store is

-- ---- forms

right_is : (laws : Laws) (count : ℕ) (o : Op) (left : Ended) (right : Store → Ended) → IsWellFormedEnded count left →
    ((after : Store) → IsWellFormedStore count after → IsWellFormedEnded count (right after)) → IsWellFormedEnded count (on_value left (λ v after. on_value (right after) (λ w end. ends (applied o v w) end)))
right_is laws count o left right is others =
    on_value_is count left _ is (λ v after one stored. on_value_is count (right after) _ (others after stored) (λ w end other kept. (applied_is laws count o v w one other, kept)))

pub combined_is : (laws : Laws) (count : ℕ) (o : Op) (left : Ended) (right : Store → Ended) → IsWellFormedEnded count left →
    ((after : Store) → IsWellFormedStore count after → IsWellFormedEnded count (right after)) → IsWellFormedEnded count (combined o left right)
combined_is laws count op.Coalesce left right is others = on_error_is count left _ is (λ text after stored. others after stored)
combined_is laws count op.Or left right is others = on_value_is count left _ is (λ v after one stored. either_is count (is_falsy v) _ _ (others after stored) (one, stored))
combined_is laws count op.And left right is others =
    on_value_is count left _ is (λ v after one stored. either_is count (is_falsy v) _ _ (boolean_is count false, stored)
    (on_value_is count (ends (truth_of v) after) _ (truth_is count v, stored) (λ t same truth kept. on_value_is count (right same) _ (others same kept) (λ w end other kept_too. (truth_is count w, kept_too)))))
combined_is laws count op.Equal left right is others = right_is laws count op.Equal left right is others
combined_is laws count op.Unequal left right is others = right_is laws count op.Unequal left right is others
combined_is laws count op.Less left right is others = right_is laws count op.Less left right is others
combined_is laws count op.AtMost left right is others = right_is laws count op.AtMost left right is others
combined_is laws count op.More left right is others = right_is laws count op.More left right is others
combined_is laws count op.AtLeast left right is others = right_is laws count op.AtLeast left right is others
combined_is laws count op.Merge left right is others = right_is laws count op.Merge left right is others
combined_is laws count op.Plus left right is others = right_is laws count op.Plus left right is others
combined_is laws count op.Minus left right is others = right_is laws count op.Minus left right is others
combined_is laws count op.Times left right is others = right_is laws count op.Times left right is others

pub assigned_is : (laws : Laws) (count : ℕ) (target : Target) (given : Ended) → IsWellFormedEnded count given → IsWellFormedEnded count (assigned target given)
assigned_is laws count target given is = on_value_is count given _ is (λ v after one stored. writes_is laws count target v after _ one stored (λ end kept. (one, kept)))

written_both_is : (laws : Laws) (count : ℕ) (ok err : Target) (v w : Tree) (store : Store) → IsWellFormed count v → IsWellFormed count w → IsWellFormedStore count store →
    IsWellFormedEnded count (written_both ok err v w store)
written_both_is laws count ok err v w store one other is = writes_is laws count ok v store _ one is (λ after stored. writes_is laws count err w after _ other stored (λ end kept. (one, kept)))

pub both_is : (laws : Laws) (count : ℕ) (ok err : Target) (t : Tag) (outcome : Outcome) (store : Store) → IsWellFormedOutcome count outcome → IsWellFormedStore count store →
    IsWellFormedEnded count (both_assigned ok err t outcome store)
both_is laws count ok err t (value v) store is stored = written_both_is laws count ok err v null store is (null_is count) stored
both_is laws count ok err t (error text) store is stored = written_both_is laws count ok err (empty_value t) (string text) store (empty_is count t) (text_is count text) stored
both_is laws count ok err t (aborted m) store is stored = (tt, stored)
both_is laws count ok err t (returned v) store is stored = (is, stored)
both_is laws count ok err t (banged text) store is stored = (tt, stored)
both_is laws count ok err t deep store is stored = (tt, stored)
