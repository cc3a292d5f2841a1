-- An order of all values, by which equal ones find each other: by their tags, and at one tag by
-- what is in them. Nothing shows which order it is.
use Rattle.std.specs.Prelude.{ℕ}
use Rattle.std.specs.Cmp.Lexicographic.{slice_cmp}
use Rattle.std.specs.Ordering.{bool_cmp, int_cmp, nat_cmp, ordering_then}
use Rattle.std.specs.declared.cmp.Ordering.{Ordering}
use Rattle.std.specs.declared.cmp.Ordering.TheVariants.{Less, Equal, Greater}
use Rattle.vrl_value.specs.Tree.{Tree, string, integer, boolean, null, timestamp, regex, array, object, Items, no_items, item, Members, no_members, member}

-- where a value of its tag stands among those of others
abbrev pub rank : Tree → ℕ
rank null = 1
rank (boolean b) = 2
rank (integer n) = 3
rank (timestamp nanos) = 4
rank (regex n) = 5
rank (string s) = 6
rank (array ts) = 7
rank (object ms) = 8

abbrev mutual
  pub order : Tree → Tree → Ordering
  order (boolean b) (boolean c) = bool_cmp b c
  order (integer m) (integer n) = int_cmp m n
  order (timestamp m) (timestamp n) = int_cmp m n
  order (regex m) (regex n) = nat_cmp m n
  order (string s) (string t) = slice_cmp nat_cmp s t
  order (array ts) (array us) = order_items ts us
  order (object ms) (object ns) = order_members ms ns
  order v w = nat_cmp (rank v) (rank w)

  pub order_items : Items → Items → Ordering
  order_items no_items no_items = Equal
  order_items no_items (item u us) = Less
  order_items (item t ts) no_items = Greater
  order_items (item t ts) (item u us) = ordering_then (order t u) (order_items ts us)

  pub order_members : Members → Members → Ordering
  order_members no_members no_members = Equal
  order_members no_members (member l u ns) = Less
  order_members (member k t ms) no_members = Greater
  order_members (member k t ms) (member l u ns) =
      ordering_then (slice_cmp nat_cmp k l) (ordering_then (order t u) (order_members ms ns))
