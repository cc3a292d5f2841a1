-- What is JSON has no regex.
use Rattle.std.proofs.Common.{ℕ, IsTrue, refl}
use Rattle.std.proofs.lemmas.Bool.{and_parts}
use Rattle.vrl_value.specs.Tree.{Tree, string, integer, boolean, null, timestamp, regex, array, object, Items, no_items, item, Members, no_members, member, is_json, items_are_json, members_are_json}
use Rattle.vrl_value.specs.Regexes.{regexes_below, items_regexes_below, members_regexes_below}

mutual
  pub json_regexes : (count : ℕ) (t : Tree) → IsTrue (is_json t) → IsTrue (regexes_below count t)
  json_regexes count (string s) json = refl
  json_regexes count (integer n) json = refl
  json_regexes count (boolean b) json = refl
  json_regexes count null json = refl
  json_regexes count (timestamp nanos) json = refl
  json_regexes count (regex n) json = absurd (cc)
  json_regexes count (array ts) json = items_regexes count ts json
  json_regexes count (object ms) json = members_regexes count ms json

  items_regexes : (count : ℕ) (ts : Items) → IsTrue (items_are_json ts) → IsTrue (items_regexes_below count ts)
  items_regexes count no_items json = refl
  items_regexes count (item t ts) json = let parts = and_parts (is_json t) (items_are_json ts) json in rw (json_regexes count t parts.0, items_regexes count ts parts.1) refl

  members_regexes : (count : ℕ) (ms : Members) → IsTrue (members_are_json ms) → IsTrue (members_regexes_below count ms)
  members_regexes count no_members json = refl
  members_regexes count (member k t ms) json = let parts = and_parts (is_json t) (members_are_json ms) json in rw (json_regexes count t parts.0, members_regexes count ms parts.1) refl
