-- When two values are equal: regexes are where their numbers are.
use Rattle.std.specs.Prelude.{Bool, true, false, not, ◌&&◌, ◌==◌, bytes_eq}
use Rattle.std.specs.Ordering.{int_eq}
use Rattle.vrl_value.specs.Tree.{Tree, string, integer, boolean, null, timestamp, regex, array, object, Items, no_items, item, Members, no_members, member}

abbrev mutual
  pub same : Tree → Tree → Bool
  same (string s) (string t) = bytes_eq s t
  same (integer m) (integer n) = int_eq m n
  same (boolean true) (boolean c) = c
  same (boolean false) (boolean c) = not c
  same null null = true
  same (timestamp m) (timestamp n) = int_eq m n
  same (regex m) (regex n) = m == n
  same (array ts) (array us) = same_items ts us
  same (object ms) (object ns) = same_members ms ns
  same v w = false

  pub same_items : Items → Items → Bool
  same_items no_items no_items = true
  same_items (item t ts) (item u us) = same t u && same_items ts us
  same_items ts us = false

  pub same_members : Members → Members → Bool
  same_members no_members no_members = true
  same_members (member k t ms) (member l u ns) = bytes_eq k l && (same t u && same_members ms ns)
  same_members ms ns = false
