-- The tree of a line, by what `serde_json` reads in it.
use Rattle.std.proofs.Common.{◌≡◌, ℕ, List, Bool, true, false, cond, Option, Some, None, option_map, refl, sym, ap, ◌∙◌}
use Rattle.std.specs.Str.{IsUtf8, is_utf8}
use Rattle.std.proofs.lemmas.Str.{IsUtf8-from_is_utf8, is_utf8-from_IsUtf8}
use Rattle.serde_json.specs.Data as json
use Rattle.serde_json.specs.Read.{read}
use Rattle.vrl_value.specs.Tree.{Tree, Items, Members, array, object, is_json, items_are_json, members_are_json}
use Rattle.vrl_json.proofs.Members.{parts_of}
use Rattle.vrl_json.specs.Line.{json_of, whole_number, whole_tree, whole_items, whole_members, reading_of_tree, reading_of_json, reading_of, whole}

-- bytes that are a text are read as it is
pub reading_of-text : (bytes : List ℕ) → IsUtf8 bytes → reading_of bytes ≡ reading_of_json (read bytes)
reading_of-text bytes text = rw (is_utf8-from_IsUtf8 bytes text) refl

refused_at : (b : Bool) (o : Option json.Data) → (b ≡ true → o ≡ None) → cond b o None ≡ None
refused_at true o none = none refl
refused_at false o none = refl

-- bytes that are refused are the text of none
pub json_of-refused : (bytes : List ℕ) → (IsUtf8 bytes → read bytes ≡ None) → json_of bytes ≡ None
json_of-refused bytes none = refused_at (is_utf8 bytes) (read bytes) (λ text. none (IsUtf8-from_is_utf8 bytes text))

-- ---- what a line stands for is the tree of the JSON in it

tree_read : (o : Option Tree) (t : Tree) → reading_of_tree o ≡ whole t → o ≡ Some t
tree_read None t e = absurd (cc)
tree_read (Some u) t e = let same : u ≡ t = cc in ap Some same

json_read : (o : Option json.Data) (t : Tree) → reading_of_json o ≡ whole t → (d : json.Data) × (o ≡ Some d) × (whole_tree d ≡ Some t)
json_read None t e = absurd (cc)
json_read (Some d) t e = (d, refl, tree_read (whole_tree d) t e)

found_at : (b : Bool) (o : Option json.Data) (d : json.Data) → cond b o None ≡ Some d → o ≡ Some d
found_at true o d e = e
found_at false o d e = absurd (cc)

pub line_read : (bytes : List ℕ) (t : Tree) → reading_of bytes ≡ whole t → (d : json.Data) × (read bytes ≡ Some d) × (whole_tree d ≡ Some t)
line_read bytes t e =
    let found = json_read (json_of bytes) t e in
    (found.0, found_at (is_utf8 bytes) (read bytes) found.0 found.1, found.2)

-- ---- JSON reads no timestamp and no regex

pub map_inverse : {A B : Type 0} (f : A → B) (o : Option A) (b : B) → option_map f o ≡ Some b → (a : A) × (o ≡ Some a) × (b ≡ f a)
map_inverse f None b e = absurd (cc)
map_inverse f (Some a) b e = (a, refl, cc)

-- what JSON stands for has neither a timestamp nor a regex
mutual
  tree_is_json : (d : json.Data) (t : Tree) → whole_tree d ≡ Some t → is_json t ≡ true
  tree_is_json json.null t e = let same : Tree.null ≡ t = cc in ap is_json (sym same)
  tree_is_json (json.boolean b) t e = let same : Tree.boolean b ≡ t = cc in ap is_json (sym same)
  tree_is_json (json.number n) t e = ap is_json (map_inverse _ (whole_number n) t e).2
  tree_is_json (json.string s) t e = let same : Tree.string s ≡ t = cc in ap is_json (sym same)
  tree_is_json (json.array ds) t e = let whole = map_inverse array (whole_items ds) t e in ap is_json whole.2 ∙ items_json ds whole.0 whole.1
  tree_is_json (json.object ms) t e = let whole = map_inverse object (whole_members ms) t e in ap is_json whole.2 ∙ members_json ms whole.0 whole.1

  items_json : (ds : json.Items) (ts : Items) → whole_items ds ≡ Some ts → items_are_json ts ≡ true
  items_json json.no_items ts e = let same : Items.no_items ≡ ts = cc in ap items_are_json (sym same)
  items_json (json.item d ds) ts e =
      let p = parts_of Items.item (whole_tree d) (whole_items ds) ts e in
      rw (p.4, tree_is_json d p.0 p.2, items_json ds p.1 p.3) refl

  members_json : (ms : json.Members) (ts : Members) → whole_members ms ≡ Some ts → members_are_json ts ≡ true
  members_json json.no_members ts e = let same : Members.no_members ≡ ts = cc in ap members_are_json (sym same)
  members_json (json.member k d ms) ts e =
      let p = parts_of (Members.member k) (whole_tree d) (whole_members ms) ts e in
      rw (p.4, tree_is_json d p.0 p.2, members_json ms p.1 p.3) refl

-- so is what a line stands for
pub line_is_json : (bytes : List ℕ) (t : Tree) → reading_of bytes ≡ whole t → is_json t ≡ true
line_is_json bytes t e = let found = line_read bytes t e in tree_is_json found.0 t found.2
