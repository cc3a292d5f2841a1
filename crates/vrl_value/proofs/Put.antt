-- A value put at a name among an object's members.
use Rattle.std.proofs.Common.{◌≡◌, List, [], ◌∷◌, ◌++◌, length, String, Global, ℕ, suc, BTreeMap, Ordering, Less, Equal, Greater, true, string_bytes, string_cmp, nat_cmp, IsTrue, refl, ap, ◌∙◌, rules}
use Rattle.std.proofs.lemmas.Bool.{and_from, and_parts}
use Rattle.std.proofs.lemmas.Cmp.{nat_list_cmp_total}
use Rattle.std.specs.BTreeMap.{insert_entry}
use Rattle.std.specs.Cmp.Lexicographic.{slice_cmp}
use Rattle.std.specs.List.{AllByRecursion}
use Rattle.std.specs.List.Sorted.{IsStrictlySortedBy}
use Rattle.std.specs.Map.{keys_of}
use Rattle.std.specs.Ordering.{match_ordering, ordering_reverse}
use Rattle.vrl_value.specs.Parts.{members_count}
use Rattle.vrl_value.specs.Tree.{Tree, Members, no_members, member, put, is_json, members_are_json}
use Rattle.vrl_value.specs.View.{members_of, members_view, tree_of}
use Rattle.vrl_value.specs.declared.value.Value.{Value, the_lemmas}
use Rattle.vrl_value.specs.declared.value.Fields.{Fields, out-Fields}
use Rattle.vrl_value.specs.declared.value.Value.TheViews.{roll-Fields}

members_view-match_ordering : (o : Ordering) (a b c : List (String Global × Value)) → members_view (match_ordering o a b c) ≡ match_ordering o (members_view a) (members_view b) (members_view c)
members_view-match_ordering Less a b c = refl
members_view-match_ordering Equal a b c = refl
members_view-match_ordering Greater a b c = refl

-- an entry in a map is a member at the entry's name
pub members_view-insert_entry : (es : List (String Global × Value)) (name : String Global) (value : Value) → members_view (insert_entry string_cmp es name value) ≡ put (string_bytes name) (tree_of value) (members_view es)
members_view-insert_entry [] name value = refl
members_view-insert_entry (e ∷ es) name value =
    members_view-match_ordering (string_cmp name e.0) _ _ _ ∙ rw (members_view-insert_entry es name value)

-- what is below each key of a list is below the key in its middle
below_middle : (first : String Global) (done : List (String Global × Value)) (e : String Global × Value) (left : List (String Global × Value))
    → AllByRecursion (λ key. string_cmp first key ≡ Less) (keys_of (done ++ e ∷ left)) → string_cmp first e.0 ≡ Less
below_middle first [] e left below = below.0
below_middle first (d ∷ done) e left below = below_middle first done e left below.1

-- an entry whose key comes after those before it goes to their end
pub put_last : (done : List (String Global × Value)) (e : String Global × Value) (left : List (String Global × Value)) → IsStrictlySortedBy string_cmp (keys_of (done ++ e ∷ left))
    → put (string_bytes e.0) (tree_of e.1) (members_view done) ≡ members_view (done ++ e ∷ [])
unfolding IsStrictlySortedBy
put_last [] e left sorted = refl
put_last (d ∷ done) e left sorted =
    let k = string_bytes e.0 in
    let l = string_bytes d.0 in
    let after : slice_cmp nat_cmp k l ≡ Greater = nat_list_cmp_total.antisymm k l ∙ ap ordering_reverse (below_middle d.0 done e left sorted.0) in
    rw after (ap (member l (tree_of d.1)) (put_last done e left sorted.1))

json_cases : (o : Ordering) (t u : Tree) (k l : List ℕ) (ms rest : Members) → IsTrue (is_json t) → IsTrue (is_json u) → IsTrue (members_are_json ms) → IsTrue (members_are_json rest)
    → IsTrue (members_are_json (match_ordering o (member k t (member l u ms)) (member l t ms) (member l u rest)))
json_cases Less t u k l ms rest new first others after = and_from _ _ new (and_from _ _ first others)
json_cases Equal t u k l ms rest new first others after = and_from _ _ new others
json_cases Greater t u k l ms rest new first others after = and_from _ _ first after

-- members that are JSON are so with a value that is JSON put among them
pub members_are_json-put : (k : List ℕ) (t : Tree) (ms : Members) → IsTrue (is_json t) → IsTrue (members_are_json ms) → IsTrue (members_are_json (put k t ms))
members_are_json-put k t no_members new before = and_from (is_json t) true new before
members_are_json-put k t (member l u ms) new before =
    let parts = and_parts (is_json u) (members_are_json ms) before in
    json_cases (slice_cmp nat_cmp k l) t u k l ms (put k t ms) new parts.0 parts.1 (members_are_json-put k t ms new parts.1)

pub members_of-roll : (map : BTreeMap (String Global) Value) → members_of (roll-Fields record { map = map }) ≡ members_view map.entries
members_of-roll map = search (rules, the_lemmas)

pub members_of-out : (fields : Fields) → members_view (out-Fields fields).map.entries ≡ members_of fields
members_of-out fields = search (rules, the_lemmas)

entries_count : (es : List (String Global × Value)) → length es ≡ members_count (members_view es)
entries_count [] = refl
entries_count (e ∷ es) = ap suc (entries_count es)

-- the fields over a map are as many as its entries
pub members_count-out : (fields : Fields) → length (out-Fields fields).map.entries ≡ members_count (members_of fields)
members_count-out fields = entries_count (out-Fields fields).map.entries ∙ ap members_count (members_of-out fields)

-- the fields over a map into which an entry was inserted
pub members_of-insert_entry : (fields : Fields) (map : BTreeMap (String Global) Value) (key : String Global) (name : List ℕ) (value : Value)
    → map.entries ≡ insert_entry string_cmp (out-Fields fields).map.entries key value → string_bytes key ≡ name
    → members_of (roll-Fields record { map = map }) ≡ put name (tree_of value) (members_of fields)
members_of-insert_entry fields map key name value entries bytes =
    members_of-roll map
    ∙ ap members_view entries
    ∙ members_view-insert_entry (out-Fields fields).map.entries key value
    ∙ ap (λ bs. put bs (tree_of value) (members_view (out-Fields fields).map.entries)) bytes
    ∙ ap (put name (tree_of value)) (members_of-out fields)
