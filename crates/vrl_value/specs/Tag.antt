-- The tag of a value, and its word.
use Rattle.std.specs.Prelude.{ℕ, List, codes}
use Rattle.vrl_value.specs.Tree.{Tree, string, integer, boolean, null, timestamp, regex, array, object}
use Rattle.vrl_value.specs.declared.value.Tag.{Tag}
use Rattle.vrl_value.specs.declared.value.Tag.TheVariants as tag

-- what its sort is
abbrev pub tag_of : Tree → Tag
tag_of (string s) = tag.Text
tag_of (integer n) = tag.Int
tag_of (boolean b) = tag.Bool
tag_of null = tag.Null
tag_of (timestamp nanos) = tag.Time
tag_of (regex n) = tag.Pattern
tag_of (array ts) = tag.List
tag_of (object ms) = tag.Object

-- the word that messages, kinds in text and kind files have for a tag
abbrev pub word_of : Tag → List ℕ
word_of tag.Text = codes "string"
word_of tag.Int = codes "integer"
word_of tag.Bool = codes "boolean"
word_of tag.Null = codes "null"
word_of tag.Time = codes "timestamp"
word_of tag.Pattern = codes "regex"
word_of tag.List = codes "array"
word_of tag.Object = codes "object"
word_of tag.Absent = codes "absent"
