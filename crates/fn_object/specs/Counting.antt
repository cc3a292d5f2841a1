-- Strings counted one after the other, as the code does; what comes of it is what `Tally` says.
use Rattle.std.specs.Prelude.{ℤ, pos, List, [], ◌∷◌, Option, Some}
use Rattle.std.specs.Int.{int_wrapping_add, w64}
use Rattle.vrl_value.specs.Tree.{Tree, string, integer, boolean, null, timestamp, regex, array, object, Members, find, put}

abbrev pub one_more : Option Tree → ℤ
one_more (Some (integer n)) = int_wrapping_add w64 n (pos 1)
one_more found = pos 1

abbrev pub add_count : Tree → Members → Members
add_count (string s) ms = put s (integer (one_more (find s ms))) ms
add_count (integer n) ms = ms
add_count (boolean b) ms = ms
add_count null ms = ms
add_count (timestamp nanos) ms = ms
add_count (regex n) ms = ms
add_count (array ts) ms = ms
add_count (object ns) ms = ms

abbrev pub add_counts : List Tree → Members → Members
add_counts [] ms = ms
add_counts (t ∷ ts) ms = add_counts ts (add_count t ms)
