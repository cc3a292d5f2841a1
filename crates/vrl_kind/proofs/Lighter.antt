-- What a walk has still before it, of two kinds that are parts of what it walks.
use Rattle.std.proofs.Common.{◌≡◌, ℕ, ◌+◌, ◌-◌, ◌*◌, ◌<◌, ◌≤◌, ◌||◌, Bool, IsTrue, List, Option, Some, None, is_some, sym, arith}
use Rattle.std.proofs.lemmas.Bool.{true≢false}
use Rattle.vrl_kind.specs.KindTree.{KindTree, kind, ListTree, ObjectTree, RestTree, nothing, json_rest, any_rest, exact, KnownFields}
use Rattle.vrl_kind.specs.Canonical.{bare_rest, with_absent, list_tree, object_tree}
use Rattle.vrl_kind.specs.Count.{list_nodes, object_nodes, fields_nodes, rest_nodes}
use Rattle.vrl_kind.specs.Merge.{with_field, IsTurn}
use Rattle.vrl_kind.specs.Seen.{option_nodes}
use Rattle.vrl_kind.proofs.Ahead.{fields_count, turn_nodes}

-- a rest is no heavier than it is with the known parts
pub rest_lighter : (x n r : ℕ) → x ≡ r → x ≤ n + r
rest_lighter x n r is = omega arith

-- nor is what stands at the name of a turn
pub turn_lighter : (x r : ℕ) (n : List ℕ) (k : Option KindTree) (fs fs' all : KnownFields) → x ≤ option_nodes k + r → fs ≡ with_field n k fs' → fields_nodes fs ≤ fields_nodes all → x ≤ fields_nodes all + r
turn_lighter x r n k fs fs' all lighter turn left = omega (arith, turn_nodes n k fs fs' turn)

pub within_shorter : (x y a b t : ℕ) → x ≤ a → y ≤ b → 4 * (a + b) + 2 ≡ t → 4 * (x + y) + 1 < t
within_shorter x y a b t left right is = omega arith

pub join_shorter : (x y a b t : ℕ) → x ≤ a → y ≤ b → 6 * (a + b) + 3 ≡ t → 6 * (x + y) + 1 < t
join_shorter x y a b t left right is = omega arith

-- the arrays, and the objects, of a kind are lighter than the kind
pub list_lighter : (r : RestTree) (x : Bool) (l : ListTree) → l ≡ list_tree (with_absent x (bare_rest r)) → list_nodes l ≤ rest_nodes r - 1
list_lighter nothing x l is = rw is (omega arith)
list_lighter json_rest x l is = rw is (omega arith)
list_lighter any_rest x l is = rw is (omega arith)
list_lighter (exact (kind s m o)) x l is = rw is (omega arith)

pub object_lighter : (r : RestTree) (x : Bool) (o : ObjectTree) → o ≡ object_tree (with_absent x (bare_rest r)) → object_nodes o ≤ rest_nodes r - 1
object_lighter nothing x o is = rw is (omega arith)
object_lighter json_rest x o is = rw is (omega arith)
object_lighter any_rest x o is = rw is (omega arith)
object_lighter (exact (kind s l q)) x o is = rw is (omega arith)

pub within_parts_shorter : (x y a b t : ℕ) → x ≤ a - 1 → y ≤ b - 1 → 1 ≤ a + b → 4 * (a + b) ≡ t → 4 * (x + y) + 3 < t
within_parts_shorter x y a b t left right some is = omega arith

pub join_parts_shorter : (x y a b t : ℕ) → x ≤ a - 1 → y ≤ b - 1 → 1 ≤ a + b → 6 * (a + b) ≡ t → 6 * (x + y) + 5 < t
join_parts_shorter x y a b t left right some is = omega arith

-- a turn leaves fewer fields
fewer_at : (k l : Option KindTree) (n : List ℕ) (fs gs : KnownFields) → IsTrue (is_some k || is_some l) → fields_count fs + fields_count gs < fields_count (with_field n k fs) + fields_count (with_field n l gs)
fewer_at (Some k) None n fs gs some = omega arith
fewer_at (Some k) (Some l) n fs gs some = omega arith
fewer_at None (Some l) n fs gs some = omega arith
fewer_at None None n fs gs some = absurd (true≢false (sym some))

pub turn_shorter : (n : List ℕ) (k l : Option KindTree) (fs gs fs' gs' : KnownFields) → IsTurn n k l fs gs fs' gs' → fields_count fs' + fields_count gs' < fields_count fs + fields_count gs
turn_shorter n k l fs gs fs' gs' turn = rw (turn.left, turn.right) (fewer_at k l n fs' gs' turn.some)
