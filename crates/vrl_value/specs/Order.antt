-- The order of values: of two integers, of two texts by their bytes, and of two timestamps.
use Rattle.std.specs.Prelude.{Option, Some, None}
use Rattle.std.specs.declared.cmp.Ordering.{Ordering}
use Rattle.std.specs.Ordering.{nat_cmp, int_cmp}
use Rattle.std.specs.Cmp.Lexicographic.{slice_cmp}
use Rattle.vrl_value.specs.Tree.{Tree, string, integer, timestamp}

-- no other two values have an order
abbrev pub order_of : Tree → Tree → Option Ordering
order_of (integer m) (integer n) = Some (int_cmp m n)
order_of (string s) (string t) = Some (slice_cmp nat_cmp s t)
order_of (timestamp m) (timestamp n) = Some (int_cmp m n)
order_of t u = None
