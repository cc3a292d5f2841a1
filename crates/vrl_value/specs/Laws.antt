-- Laws of the members of an object, the names and values of RFC 8259's objects, of the items of an
-- array, of trees in order, and of the texts of moments.
use Rattle.std.specs.Prelude.{◌≡◌, ◌≢◌, ℕ, suc, ◌<◌, ◌≤◌, List, Some, None, unwrap_or, IfSome, IsTrue, ℤ}
use Rattle.vrl_value.specs.Look.{Step, there, item_at, outline, raw_at, IfThere}
use Rattle.vrl_value.specs.Moment.{IsInRange}
use Rattle.vrl_value.specs.MomentText.{moment_text}
use Rattle.vrl_value.specs.Parts.{put_item, replace, replace_item, without, without_item}
use Rattle.vrl_value.specs.Regexes.{regexes_below, items_regexes_below, members_regexes_below}
use Rattle.vrl_value.specs.Rfc3339.{IsReading}
use Rattle.vrl_value.specs.Tree.{Tree, null, regex, Items, Members, find, put, is_json, members_are_json, IsOrdered, ItemsAreOrdered, MembersAreOrdered}

-- they are a map: what is put at a name is found there, and at every other name what was there
-- before
pub record MembersAreMaps : Type 0 where
  pub find_put : (name : List ℕ) (value : Tree) (members : Members) → find name (put name value members) ≡ Some value
  pub find_put_other : (other name : List ℕ) (value : Tree) (members : Members) → other ≢ name
      → find other (put name value members) ≡ find other members
  -- what replaced a value is found in its place
  pub find_replace : (name : List ℕ) (value old : Tree) (members : Members) → find name members ≡ Some old
      → find name (replace name value members) ≡ Some value
  pub find_replace_other : (other name : List ℕ) (value : Tree) (members : Members) → other ≢ name
      → find other (replace name value members) ≡ find other members
  -- what was taken out is not found
  pub find_without : (name : List ℕ) (members : Members) → find name (without name members) ≡ None
  pub find_without_other : (other name : List ℕ) (members : Members) → other ≢ name
      → find other (without name members) ≡ find other members
  -- where nothing is found, nothing is taken out
  pub without_none : (name : List ℕ) (members : Members) → find name members ≡ None → without name members ≡ members
  -- those in order among which the same is found at each name are the same
  pub one_map : (a b : Members) → MembersAreOrdered a → MembersAreOrdered b
      → ((name : List ℕ) → find name a ≡ find name b) → a ≡ b

-- items are a list: what is put at a place is found there, at a lower place what was there before,
-- or null, and at a higher one what was
pub record ItemsAreLists : Type 0 where
  pub item_put : (place : ℕ) (value : Tree) (items : Items) → item_at place (put_item place value items) ≡ Some value
  pub item_put_before : (place lower : ℕ) (value : Tree) (items : Items) → lower < place
      → item_at lower (put_item place value items) ≡ Some (unwrap_or (item_at lower items) null)
  pub item_put_behind : (place higher : ℕ) (value : Tree) (items : Items) → place < higher
      → item_at higher (put_item place value items) ≡ item_at higher items
  -- what replaced an item is found in its place
  pub item_replace : (place : ℕ) (value old : Tree) (items : Items) → item_at place items ≡ Some old
      → item_at place (replace_item place value items) ≡ Some value
  pub item_replace_other : (place other : ℕ) (value : Tree) (items : Items) → other ≢ place
      → item_at other (replace_item place value items) ≡ item_at other items
  -- those behind an item that was taken out move down by one
  pub item_without_before : (place lower : ℕ) (items : Items) → lower < place
      → item_at lower (without_item place items) ≡ item_at lower items
  pub item_without_behind : (place higher : ℕ) (items : Items) → place ≤ higher
      → item_at higher (without_item place items) ≡ item_at (suc higher) items
  -- where there is no item, none is taken out
  pub item_without_none : (place : ℕ) (items : Items) → item_at place items ≡ None → without_item place items ≡ items
  -- those that have the same at each place are the same
  pub one_list : (a b : Items) → ((place : ℕ) → item_at place a ≡ item_at place b) → a ≡ b

-- trees stay in order where a part in order is put, replaced or taken out, and what is found in one
-- in order is in order
pub record TreesStayInOrder : Type 0 where
  pub ordered_put : (name : List ℕ) (value : Tree) (members : Members) → IsOrdered value → MembersAreOrdered members
      → MembersAreOrdered (put name value members)
  pub ordered_replace : (name : List ℕ) (value : Tree) (members : Members) → IsOrdered value
      → MembersAreOrdered members → MembersAreOrdered (replace name value members)
  pub ordered_without : (name : List ℕ) (members : Members) → MembersAreOrdered members
      → MembersAreOrdered (without name members)
  pub ordered_put_item : (place : ℕ) (value : Tree) (items : Items) → IsOrdered value → ItemsAreOrdered items
      → ItemsAreOrdered (put_item place value items)
  pub ordered_replace_item : (place : ℕ) (value : Tree) (items : Items) → IsOrdered value → ItemsAreOrdered items
      → ItemsAreOrdered (replace_item place value items)
  pub ordered_without_item : (place : ℕ) (items : Items) → ItemsAreOrdered items
      → ItemsAreOrdered (without_item place items)
  pub ordered_find : (name : List ℕ) (members : Members) → MembersAreOrdered members
      → IfSome (find name members) IsOrdered
  pub ordered_item : (place : ℕ) (items : Items) → ItemsAreOrdered items → IfSome (item_at place items) IsOrdered
  pub ordered_found : (tree : Tree) (path : List Step) → IsOrdered tree → IfThere (raw_at tree path) IsOrdered

-- two trees in order of which look-up tells the same at every path, be it but for the parts of what
-- it finds, are the same
abbrev pub TreesAreTold : Type 0
TreesAreTold = (a b : Tree) → IsOrdered a → IsOrdered b
    → ((path : List Step) → outline (raw_at a path) ≡ outline (raw_at b path)) → a ≡ b

-- the regexes of a tree are among the first so many where they are among fewer, where a part is
-- put, replaced or taken out, and in what is found; and that they are is told by look-up
pub record RegexesStayBelow : Type 0 where
  pub below_more : (fewer more : ℕ) (tree : Tree) → fewer ≤ more → IsTrue (regexes_below fewer tree)
      → IsTrue (regexes_below more tree)
  pub below_put : (count : ℕ) (name : List ℕ) (value : Tree) (members : Members) → IsTrue (regexes_below count value)
      → IsTrue (members_regexes_below count members) → IsTrue (members_regexes_below count (put name value members))
  pub below_replace : (count : ℕ) (name : List ℕ) (value : Tree) (members : Members)
      → IsTrue (regexes_below count value) → IsTrue (members_regexes_below count members)
      → IsTrue (members_regexes_below count (replace name value members))
  pub below_without : (count : ℕ) (name : List ℕ) (members : Members) → IsTrue (members_regexes_below count members)
      → IsTrue (members_regexes_below count (without name members))
  pub below_put_item : (count place : ℕ) (value : Tree) (items : Items) → IsTrue (regexes_below count value)
      → IsTrue (items_regexes_below count items) → IsTrue (items_regexes_below count (put_item place value items))
  pub below_replace_item : (count place : ℕ) (value : Tree) (items : Items) → IsTrue (regexes_below count value)
      → IsTrue (items_regexes_below count items) → IsTrue (items_regexes_below count (replace_item place value items))
  pub below_without_item : (count place : ℕ) (items : Items) → IsTrue (items_regexes_below count items)
      → IsTrue (items_regexes_below count (without_item place items))
  pub below_find : (count : ℕ) (name : List ℕ) (members : Members) → IsTrue (members_regexes_below count members)
      → IfSome (find name members) (λ value. IsTrue (regexes_below count value))
  pub below_item : (count place : ℕ) (items : Items) → IsTrue (items_regexes_below count items)
      → IfSome (item_at place items) (λ value. IsTrue (regexes_below count value))
  pub below_found : (count : ℕ) (tree : Tree) (path : List Step) → IsTrue (regexes_below count tree)
      → IfThere (raw_at tree path) (λ part. IsTrue (regexes_below count part))
  -- so each regex that look-up finds is one of them; and in a tree in order they are where each
  -- that it finds is
  pub below_told : (count : ℕ) (tree : Tree) → IsOrdered tree
      → ((path : List Step) (number : ℕ) → raw_at tree path ≡ there (regex number) → number < count)
      → IsTrue (regexes_below count tree)

-- what is found among members that are JSON is JSON, and they stay JSON where JSON is put among
-- them
pub record MembersStayJson : Type 0 where
  pub find_json : (name : List ℕ) (members : Members) → IsTrue (members_are_json members)
      → IfSome (find name members) (λ value. IsTrue (is_json value))
  pub put_json : (name : List ℕ) (value : Tree) (members : Members) → IsTrue (is_json value)
      → IsTrue (members_are_json members) → IsTrue (members_are_json (put name value members))

-- the text of a moment names that moment, and a text names at most one
pub record MomentsReadBack : Type 0 where
  pub read_back : (nanos : ℤ) → IsInRange nanos → IsReading (moment_text nanos) nanos
  pub one_reading : (text : List ℕ) (a b : ℤ) → IsReading text a → IsReading text b → a ≡ b
