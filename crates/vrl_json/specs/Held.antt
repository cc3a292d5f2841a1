-- What every value in memory keeps, and a tree by itself need not: it is in order, and its integers
-- have 64 bits.
use Rattle.std.specs.Prelude.{⊤, FitsSigned}
use Rattle.std.specs.Int.{w64}
use Rattle.vrl_value.specs.Tree.{Tree, string, integer, boolean, null, timestamp, regex, array, object, Items, no_items, item, Members, no_members, member, IsOrdered, ItemsAreOrdered, MembersAreOrdered}

-- each integer in the tree is of 64 bits with a sign
abbrev mutual
  pub IntegersFit : Tree → Type 0
  IntegersFit (string s) = ⊤
  IntegersFit (integer n) = FitsSigned w64 n
  IntegersFit (boolean b) = ⊤
  IntegersFit null = ⊤
  IntegersFit (timestamp nanos) = ⊤
  IntegersFit (regex n) = ⊤
  IntegersFit (array ts) = ItemsFit ts
  IntegersFit (object ms) = MembersFit ms

  pub ItemsFit : Items → Type 0
  ItemsFit no_items = ⊤
  ItemsFit (item t ts) = IntegersFit t × ItemsFit ts

  pub MembersFit : Members → Type 0
  MembersFit no_members = ⊤
  MembersFit (member k t ms) = IntegersFit t × MembersFit ms

abbrev pub IsHeld : Tree → Type 0
IsHeld t = IsOrdered t × IntegersFit t

abbrev pub ItemsAreHeld : Items → Type 0
ItemsAreHeld ts = ItemsAreOrdered ts × ItemsFit ts

abbrev pub MembersAreHeld : Members → Type 0
MembersAreHeld ms = MembersAreOrdered ms × MembersFit ms
