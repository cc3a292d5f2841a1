-- The members of a map are in order.
use Rattle.std.proofs.Common.{◌≡◌, List, [], ◌∷◌, String, Global, Less, string_bytes, string_cmp}
use Rattle.std.specs.List.{AllByRecursion}
use Rattle.std.specs.List.Sorted.{IsStrictlySortedBy}
use Rattle.std.specs.Map.{keys_of}
use Rattle.vrl_value.specs.Tree.{IsBefore, IsOrdered, MembersAreOrdered}
use Rattle.vrl_value.specs.View.{members_view, tree_of}
use Rattle.vrl_value.specs.declared.value.Value.{Value}

-- a key before those of the entries is before those of the members
is_before : (key : String Global) (es : List (String Global × Value)) → AllByRecursion (λ k. string_cmp key k ≡ Less) (keys_of es) → IsBefore (string_bytes key) (members_view es)
is_before key [] before = tt
is_before key (e ∷ es) before = (before.0, is_before key es before.1)

-- an entry before those that are in order
pub members_ordered : (e : String Global × Value) (es : List (String Global × Value)) → IsStrictlySortedBy string_cmp (keys_of (e ∷ es)) → IsOrdered (tree_of e.1) → MembersAreOrdered (members_view es) → MembersAreOrdered (members_view (e ∷ es))
unfolding IsStrictlySortedBy
members_ordered e es sorted first rest = (is_before e.0 es sorted.0, first, rest)

pub sorted_behind : (e : String Global × Value) (es : List (String Global × Value)) → IsStrictlySortedBy string_cmp (keys_of (e ∷ es)) → IsStrictlySortedBy string_cmp (keys_of es)
unfolding IsStrictlySortedBy
sorted_behind e es sorted = sorted.1
