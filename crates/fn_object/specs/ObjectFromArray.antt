-- `object_from_array`: an object of an array's pairs of a name and a value.
use Rattle.std.specs.Prelude.{ℕ, suc, true, List, [], ◌∷◌, Option, Some, None, codes}
use Rattle.vrl_value.specs.Tree.{Tree, string, integer, boolean, null, timestamp, regex, array, object, Items, no_items, item, Members, no_members, put}
use Rattle.vrl_builtin.specs.Rows.{Row, Answer, value, failure, named, any_literal, parameter, value_at}
use Rattle.vrl_builtin.specs.TagSets.{arrays, objects}
use Rattle.vrl_builtin.specs.Listed.{items_in, trees_in}
use Rattle.vrl_builtin.specs.AnyParts.{any_of}
use Rattle.vrl_builtin.specs.Words.{element}

-- an array of two whose first item is a string
abbrev pub pair_in : Items → Option (List ℕ × Tree)
pair_in (item (string k) (item v no_items)) = Some (k, v)
pair_in ts = None

abbrev pub entry_of : Tree → Option (List ℕ × Tree)
entry_of (array ts) = pair_in ts
entry_of (string s) = None
entry_of (integer n) = None
entry_of (boolean b) = None
entry_of null = None
entry_of (timestamp nanos) = None
entry_of (regex n) = None
entry_of (object ms) = None

-- the place of the first element that is no such array, counted from the given one on
abbrev pub unless_entry : ℕ → Option (List ℕ × Tree) → Option ℕ → Option ℕ
unless_entry n None others = Some n
unless_entry n (Some e) others = others

abbrev pub first_unfit : ℕ → List Tree → Option ℕ
first_unfit n [] = None
first_unfit n (t ∷ ts) = unless_entry n (entry_of t) (first_unfit (suc n) ts)

-- the members with each element's value at its name, of equal names the later one's
abbrev pub put_entry : Option (List ℕ × Tree) → Members → Members
put_entry None ms = ms
put_entry (Some e) ms = put e.0 e.1 ms

abbrev pub put_entries : List Tree → Members → Members
put_entries [] ms = ms
put_entries (t ∷ ts) ms = put_entries ts (put_entry (entry_of t) ms)

abbrev pub unless_unfit : Option ℕ → Tree → Answer
unless_unfit None v = value v
unless_unfit (Some n) v = failure (element n)

abbrev pub made_of : List Tree → Answer
made_of ts = unless_unfit (first_unfit 0 ts) (object (put_entries ts no_members))

abbrev pub object_from_array_row : Row
object_from_array_row = record {
  name = codes "object_from_array";
  parameters = parameter (codes "values") arrays ∷ [];
  accepts = any_literal;
  kind = λ givens sources. any_of objects;
  may_fail = λ givens. true;
  means = λ arguments setting. named (codes "object_from_array") (made_of (trees_in (items_in (value_at 0 arguments))));
}
