-- Which tree a line of JSON stands for, and the line of a tree, by `serde_json`'s definitions of
-- both.
use Rattle.std.specs.Prelude.{ℕ, ◌^◌, ℤ, pos, negsuc, List, [], get_or, Option, Some, None, nat_lt, if◌then◌else◌, option_map, option_and_then}
use Rattle.std.specs.Str.{is_utf8}
use Rattle.serde_json.specs.Data as json
use Rattle.serde_json.specs.Read.{read}
use Rattle.serde_json.specs.Written.{compact_text}
use Rattle.vrl_value.specs.MomentText.{moment_text}
use Rattle.vrl_value.specs.Tree.{Tree, string, integer, boolean, null, timestamp, regex, array, object, Items, no_items, item, Members, no_members, member}

-- ---- what a line stands for

-- the JSON value that bytes are the text of (RFC 8259); they are UTF-8, and None where there is no
-- such value
abbrev pub json_of : List ℕ → Option json.Data
json_of bytes = if is_utf8 bytes then read bytes else None

-- the whole number of 64 bits with a sign that a number is held as. None: it is held otherwise, as
-- `-0` is, which is a float
abbrev pub whole_number : json.Num → Option ℤ
whole_number (json.unsigned n) = if nat_lt n (2 ^ 63) then Some (pos n) else None
whole_number (json.negative z) = Some z
whole_number (json.float x) = None

-- the tree of a JSON value. None: a number in it is not such a whole number
abbrev mutual
  pub whole_tree : json.Data → Option Tree
  whole_tree json.null = Some null
  whole_tree (json.boolean b) = Some (boolean b)
  whole_tree (json.number n) = option_map integer (whole_number n)
  whole_tree (json.string s) = Some (string s)
  whole_tree (json.array ds) = option_map array (whole_items ds)
  whole_tree (json.object ms) = option_map object (whole_members ms)

  pub whole_items : json.Items → Option Items
  whole_items json.no_items = Some no_items
  whole_items (json.item d ds) = option_and_then (λ t. option_map (item t) (whole_items ds)) (whole_tree d)

  pub whole_members : json.Members → Option Members
  whole_members json.no_members = Some no_members
  whole_members (json.member k d ms) = option_and_then (λ t. option_map (member k t) (whole_members ms)) (whole_tree d)

pub data Reading : Type 0 where
  -- the bytes are no JSON text
  not_json : Reading
  -- a number of their value is not a whole number of 64 bits with a sign
  not_whole : Reading
  -- they stand for this tree
  whole : Tree → Reading

abbrev pub reading_of_tree : Option Tree → Reading
reading_of_tree None = not_whole
reading_of_tree (Some t) = whole t

abbrev pub reading_of_json : Option json.Data → Reading
reading_of_json None = not_json
reading_of_json (Some d) = reading_of_tree (whole_tree d)

-- what the bytes of a line are read as
abbrev pub reading_of : List ℕ → Reading
reading_of bytes = reading_of_json (json_of bytes)

-- ---- the line of a tree

-- a whole number, as JSON holds it
abbrev pub number_of : ℤ → json.Num
number_of (pos n) = json.unsigned n
number_of (negsuc n) = json.negative (negsuc n)

-- the JSON value of a tree: a timestamp is its text, and a regex its source, which stands at its
-- number
abbrev mutual
  pub data_of : List (List ℕ) → Tree → json.Data
  data_of sources (string s) = json.string s
  data_of sources (integer n) = json.number (number_of n)
  data_of sources (boolean b) = json.boolean b
  data_of sources null = json.null
  data_of sources (timestamp nanos) = json.string (moment_text nanos)
  data_of sources (regex n) = json.string (get_or sources n [])
  data_of sources (array ts) = json.array (items_data sources ts)
  data_of sources (object ms) = json.object (members_data sources ms)

  pub items_data : List (List ℕ) → Items → json.Items
  items_data sources no_items = json.no_items
  items_data sources (item t ts) = json.item (data_of sources t) (items_data sources ts)

  pub members_data : List (List ℕ) → Members → json.Members
  members_data sources no_members = json.no_members
  members_data sources (member k t ms) = json.member k (data_of sources t) (members_data sources ms)

-- the compact JSON text of a tree, in which each regex is one of these sources
abbrev pub line_text : List (List ℕ) → Tree → List ℕ
line_text sources t = compact_text (data_of sources t)
