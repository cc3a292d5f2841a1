-- How the parts of a description are spelled: words, and objects with named members.
use Rattle.std.specs.Prelude.{ℕ, List, Bool, false, Option, Some, None, bytes_eq, codes, if◌then◌else◌}
use Rattle.vrl_value.specs.Tree.{Tree, string, integer, boolean, null, timestamp, regex, array, object, Members, no_members, member}
use Rattle.vrl_value.specs.declared.value.Tag.TheVariants as tag
use Rattle.vrl_kind.specs.Tags.{Tags, only, json}

-- the tags that a word names. None: it is no word of kinds
abbrev pub word_tags : List ℕ → Option Tags
word_tags word =
    if bytes_eq word (codes "string") then Some (only tag.Text)
    else if bytes_eq word (codes "integer") then Some (only tag.Int)
    else if bytes_eq word (codes "boolean") then Some (only tag.Bool)
    else if bytes_eq word (codes "null") then Some (only tag.Null)
    else if bytes_eq word (codes "json") then Some json
    else None

-- what a description of containers says: their parts, and their rest where it stands there
pub data Shape : Type 0 where
  arrays : Tree → Option Tree → Shape
  objects : Tree → Option Tree → Shape

abbrev pub shape_named : List ℕ → Tree → Option Tree → Option Shape
shape_named name parts rest =
    if bytes_eq name (codes "array") then Some (arrays parts rest)
    else if bytes_eq name (codes "object") then Some (objects parts rest)
    else None

-- the members are `array` or `object`, and perhaps `rest`, and no other. None: they are not
abbrev pub shape_of : Members → Option Shape
shape_of no_members = None
shape_of (member name parts no_members) = shape_named name parts None
shape_of (member name parts (member other rest no_members)) =
    if bytes_eq other (codes "rest") then shape_named name parts (Some rest) else None
shape_of (member name parts (member other rest (member third t ms))) = None

abbrev pub only_optional : Members → Option Tree
only_optional no_members = None
only_optional (member name t no_members) = if bytes_eq name (codes "optional") then Some t else None
only_optional (member name t (member other u ms)) = None

-- what an object with `optional` as its only member says. None: the tree is no such object
abbrev pub optional_in : Tree → Option Tree
optional_in (string s) = None
optional_in (integer n) = None
optional_in (boolean b) = None
optional_in null = None
optional_in (timestamp nanos) = None
optional_in (regex n) = None
optional_in (array ts) = None
optional_in (object ms) = only_optional ms

-- the tree is the word `nothing`
abbrev pub is_nothing : Tree → Bool
is_nothing (string s) = bytes_eq s (codes "nothing")
is_nothing t = false
