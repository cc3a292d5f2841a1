-- The tree of a JSON value with a stand-in for each number that isn't whole: a regex, which
-- no line has.
use Rattle.std.specs.Prelude.{◌≡◌, ℤ, Bool, false, IsTrue, Option, Some, None}
use Rattle.serde_json.specs.Data as json
use Rattle.vrl_value.specs.Tree.{Tree, string, integer, boolean, null, regex, array, object, Items, no_items, item, Members, no_members, member}
use Rattle.vrl_json.specs.Line.{whole_number}

abbrev pub draft : Option ℤ → Tree
draft (Some n) = integer n
draft None = regex 0

abbrev mutual
  pub draft_tree : json.Data → Tree
  draft_tree json.null = null
  draft_tree (json.boolean b) = boolean b
  draft_tree (json.number n) = draft (whole_number n)
  draft_tree (json.string s) = string s
  draft_tree (json.array ds) = array (draft_items ds)
  draft_tree (json.object ms) = object (draft_members ms)

  pub draft_items : json.Items → Items
  draft_items json.no_items = no_items
  draft_items (json.item d ds) = item (draft_tree d) (draft_items ds)

  pub draft_members : json.Members → Members
  draft_members json.no_members = no_members
  draft_members (json.member k d ms) = member k (draft_tree d) (draft_members ms)

-- What is told of stand-ins before and after a part is read, and whether the part has none: where
-- none is told of afterwards, none was before, and the part has none.
abbrev pub TellsStandIns : Bool → Bool → Bool → Type 0
TellsStandIns before after is_all_whole = after ≡ false → (before ≡ false) × IsTrue is_all_whole
