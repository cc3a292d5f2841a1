-- The members of a map are in order.
use Rattle.std.proofs.Common.{◌≡◌, List, [], ◌∷◌, String, Global, Less, string_bytes, string_cmp}
use Rattle.std.specs.List.{AllByRecursion}
use Rattle.std.specs.List.Sorted.{IsStrictlySortedBy}
use Rattle.std.specs.Map.{keys_of}
use Rattle.vrl_value.specs.Tree.{IsBefore}
use Rattle.vrl_value.specs.View.{members_view, tree_of}
use Rattle.vrl_value.specs.declared.value.Value.{Value}
use Rattle.vrl_json.specs.Held.{IsHeld, MembersAreHeld}

abbrev Entry : Type 0
Entry = String Global × Value

-- a key before those of the entries is before those of the members
is_before : (key : String Global) (es : List Entry) → AllByRecursion (λ k. string_cmp key k ≡ Less) (keys_of es) → IsBefore (string_bytes key) (members_view es)
is_before key [] before = tt
is_before key (e ∷ es) before = (before.0, is_before key es before.1)

-- an entry before those that are held
pub members_held : (e : Entry) (es : List Entry) → IsStrictlySortedBy string_cmp (keys_of (e ∷ es)) → IsHeld (tree_of e.1) → MembersAreHeld (members_view es) → MembersAreHeld (members_view (e ∷ es))
unfolding IsStrictlySortedBy
members_held e es sorted first rest = ((is_before e.0 es sorted.0, first.0, rest.0), (first.1, rest.1))

pub sorted_behind : (e : Entry) (es : List Entry) → IsStrictlySortedBy string_cmp (keys_of (e ∷ es)) → IsStrictlySortedBy string_cmp (keys_of es)
unfolding IsStrictlySortedBy
sorted_behind e es sorted = sorted.1
