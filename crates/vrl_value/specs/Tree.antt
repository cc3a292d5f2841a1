-- A value as a tree. The tree of a value that stands in memory is in order: see `IsOrdered`.
use Rattle.std.specs.Prelude.{◌≡◌, ℕ, ℤ, Bool, true, false, ◌&&◌, List, Option, Some, None, ⊤}
use Rattle.std.specs.Ordering.{nat_cmp, match_ordering}
use Rattle.std.specs.declared.cmp.Ordering.TheVariants.{Less}
use Rattle.std.specs.Cmp.Lexicographic.{slice_cmp}

mutual
  pub data Tree : Type 0 where
    -- the bytes of a text
    string : List ℕ → Tree
    integer : ℤ → Tree
    boolean : Bool → Tree
    null : Tree
    -- nanoseconds since 1970
    timestamp : ℤ → Tree
    -- the number of a literal
    regex : ℕ → Tree
    array : Items → Tree
    object : Members → Tree

  pub data Items : Type 0 where
    no_items : Items
    item : Tree → Items → Items

  pub data Members : Type 0 where
    no_members : Members
    member : List ℕ → Tree → Members → Members

-- the members with t at the key k, and at every other key what was there
abbrev pub put : List ℕ → Tree → Members → Members
put k t no_members = member k t no_members
put k t (member l u ms) =
    match_ordering (slice_cmp nat_cmp k l) (member k t (member l u ms)) (member l t ms) (member l u (put k t ms))

-- the members ms with each of the others put at its key
abbrev pub put_all : Members → Members → Members
put_all no_members ms = ms
put_all (member k t ns) ms = put_all ns (put k t ms)

-- what stands at the key k
abbrev pub find : List ℕ → Members → Option Tree
find k no_members = None
find k (member l u ms) = match_ordering (slice_cmp nat_cmp k l) (find k ms) (Some u) (find k ms)

-- the tree has neither a timestamp nor a regex in it, so JSON reads and writes each part of it as
-- it is
abbrev mutual
  pub is_json : Tree → Bool
  is_json (string s) = true
  is_json (integer n) = true
  is_json (boolean b) = true
  is_json null = true
  is_json (timestamp nanos) = false
  is_json (regex n) = false
  is_json (array ts) = items_are_json ts
  is_json (object ms) = members_are_json ms

  pub items_are_json : Items → Bool
  items_are_json no_items = true
  items_are_json (item t ts) = is_json t && items_are_json ts

  pub members_are_json : Members → Bool
  members_are_json no_members = true
  members_are_json (member k t ms) = is_json t && members_are_json ms

-- a text, an array or an object: a copy of it takes memory
abbrev pub takes_memory : Tree → Bool
takes_memory (string s) = true
takes_memory (integer n) = false
takes_memory (boolean b) = false
takes_memory null = false
takes_memory (timestamp nanos) = false
takes_memory (regex n) = false
takes_memory (array ts) = true
takes_memory (object ms) = true

abbrev pub is_object : Tree → Bool
is_object (string s) = false
is_object (integer n) = false
is_object (boolean b) = false
is_object null = false
is_object (timestamp nanos) = false
is_object (regex n) = false
is_object (array ts) = false
is_object (object ms) = true

-- the key is before each key of the members, in the order of bytes
abbrev pub IsBefore : List ℕ → Members → Type 0
IsBefore k no_members = ⊤
IsBefore k (member l t ms) = (slice_cmp nat_cmp k l ≡ Less) × IsBefore k ms

-- the members of each object in the tree stand in the order of their keys' bytes, each key once
abbrev mutual
  pub IsOrdered : Tree → Type 0
  IsOrdered (string s) = ⊤
  IsOrdered (integer n) = ⊤
  IsOrdered (boolean b) = ⊤
  IsOrdered null = ⊤
  IsOrdered (timestamp nanos) = ⊤
  IsOrdered (regex n) = ⊤
  IsOrdered (array ts) = ItemsAreOrdered ts
  IsOrdered (object ms) = MembersAreOrdered ms

  pub ItemsAreOrdered : Items → Type 0
  ItemsAreOrdered no_items = ⊤
  ItemsAreOrdered (item t ts) = IsOrdered t × ItemsAreOrdered ts

  pub MembersAreOrdered : Members → Type 0
  MembersAreOrdered no_members = ⊤
  MembersAreOrdered (member k t ms) = IsBefore k ms × IsOrdered t × MembersAreOrdered ms
