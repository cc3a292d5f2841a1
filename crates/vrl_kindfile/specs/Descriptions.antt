-- Which tags a description allows at each path. It is told by the path, one step after the other.
use Rattle.std.specs.Prelude.{◌≡◌, ◌++◌, ℕ, List, [], ◌∷◌, Option, Some, None, bytes_eq, codes, if◌then◌else◌, unwrap_or}
use Rattle.std.specs.List.{list_any}
use Rattle.vrl_value.specs.Look.{Step, field, place, item_at}
use Rattle.vrl_value.specs.Tree.{Tree, string, integer, boolean, null, timestamp, regex, array, object, Items, no_items, item, find}
use Rattle.vrl_value.specs.declared.value.Tag.{Tag}
use Rattle.vrl_value.specs.declared.value.Tag.TheVariants as tag
use Rattle.vrl_kind.specs.Canonical.{IsCanonical}
use Rattle.vrl_kind.specs.KindTree.{KindTree}
use Rattle.vrl_kind.specs.Kinds.{tags_at, or_absent}
use Rattle.vrl_kind.specs.Tags.{Tags, never, only}
use Rattle.vrl_kindfile.specs.Shapes.{Shape, arrays, objects, word_tags, shape_of, optional_in, is_nothing}

-- the single descriptions of which any may hold: a list of descriptions is the join of them all
abbrev mutual
  pub alternatives : Tree → List Tree
  alternatives (string s) = string s ∷ []
  alternatives (integer n) = integer n ∷ []
  alternatives (boolean b) = boolean b ∷ []
  alternatives null = null ∷ []
  alternatives (timestamp nanos) = timestamp nanos ∷ []
  alternatives (regex n) = regex n ∷ []
  alternatives (array ts) = items_alternatives ts
  alternatives (object ms) = object ms ∷ []

  pub items_alternatives : Items → List Tree
  items_alternatives no_items = []
  items_alternatives (item t ts) = alternatives t ++ items_alternatives ts

-- what a description says of one of its parts
pub data Part : Type 0 where
  -- there is no such part
  no_part : Part
  -- nothing stands there
  absent_part : Part
  -- what this describes stands there
  required : Tree → Part
  -- what this describes, or nothing
  optional : Tree → Part

abbrev pub part_given : Option Tree → Tree → Part
part_given None t = required t
part_given (Some u) t = optional u

-- a part that is known by itself
abbrev pub part_of : Tree → Part
part_of t = part_given (optional_in t) t

-- each other part. Where no rest is given it is JSON
abbrev pub rest_part : Option Tree → Part
rest_part None = optional (string (codes "json"))
rest_part (Some t) = if is_nothing t then absent_part else optional t

abbrev pub known_or_rest : Option Tree → Option Tree → Part
known_or_rest None rest = rest_part rest
known_or_rest (Some t) rest = part_of t

-- what containers have under a step
abbrev pub shape_part : Option Shape → Step → Part
shape_part (Some (arrays (array ts) rest)) (place i) = known_or_rest (item_at i ts) rest
shape_part (Some (objects (object ms) rest)) (field name) = known_or_rest (find name ms) rest
shape_part shape s = no_part

-- the word `json` has JSON, or nothing, under each step
abbrev pub word_part : List ℕ → Part
word_part word = if bytes_eq word (codes "json") then optional (string (codes "json")) else no_part

-- the parts of a single description
abbrev pub part_under : Tree → Step → Part
part_under (string s) q = word_part s
part_under (object ms) q = shape_part (shape_of ms) q
part_under t q = no_part

abbrev pub shape_tags : Option Shape → Tags
shape_tags None = never
shape_tags (Some (arrays t rest)) = only tag.List
shape_tags (Some (objects t rest)) = only tag.Object

-- the tags of a single description at its root
abbrev pub own_tags : Tree → Tags
own_tags (string s) = unwrap_or (word_tags s) never
own_tags (object ms) = shape_tags (shape_of ms)
own_tags t = never

-- the tags at the path p behind a part, where f gives those of a description there
abbrev pub part_tags : Part → List Step → (Tree → Tags) → Tags
part_tags no_part p f = never
part_tags absent_part p f = or_absent p never
part_tags (required t) p f = f t
part_tags (optional t) p f = or_absent p (f t)

-- what any of the alternatives allows
abbrev pub any_of : (Tree → Tags) → List Tree → Tags
any_of f ds u = list_any (λ d. f d u) ds

-- the tags of a single description at a path
abbrev pub alternative_at : List Step → Tree → Tags
alternative_at [] d = own_tags d
alternative_at (s ∷ p) d = part_tags (part_under d s) p (λ t. any_of (alternative_at p) (alternatives t))

-- the tags of a description at a path
abbrev pub described_at : List Step → Tree → Tags
described_at p t = any_of (alternative_at p) (alternatives t)

-- the kind allows at each path what the description does, and it is of the one form
pub record IsDescribed (t : Tree) (K : KindTree) : Type 0 where
  pub tags : (p : List Step) (u : Tag) → tags_at K p u ≡ described_at p t u
  pub canonical : IsCanonical K
