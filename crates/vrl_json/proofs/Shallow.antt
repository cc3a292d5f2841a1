-- What a line stands for nests as deep as the JSON in it.
use Rattle.std.proofs.Common.{◌≡◌, ℕ, suc, ◌≤◌, List, Some, refl, sym, ap, ◌∙◌, arith}
use Rattle.serde_json.specs.Data as json
use Rattle.serde_json.specs.Read.{max_depth}
use Rattle.serde_json.proofs.Nesting.{depth-read}
use Rattle.vrl_value.specs.Depth.{depth_of, items_depth, members_depth}
use Rattle.vrl_value.specs.Tree.{Tree, Items, Members, array, object}
use Rattle.vrl_json.specs.Line.{whole_number, whole_tree, whole_items, whole_members, reading_of, whole}
use Rattle.vrl_json.proofs.Lines.{line_read, map_inverse}
use Rattle.vrl_json.proofs.Members.{parts_of}

mutual
  depth-whole : (d : json.Data) (t : Tree) → whole_tree d ≡ Some t → depth_of t ≡ json.depth d
  depth-whole json.null t e = let same : Tree.null ≡ t = cc in ap depth_of (sym same)
  depth-whole (json.boolean b) t e = let same : Tree.boolean b ≡ t = cc in ap depth_of (sym same)
  depth-whole (json.number n) t e = ap depth_of (map_inverse _ (whole_number n) t e).2
  depth-whole (json.string s) t e = let same : Tree.string s ≡ t = cc in ap depth_of (sym same)
  depth-whole (json.array ds) t e = let whole = map_inverse array (whole_items ds) t e in ap depth_of whole.2 ∙ ap suc (items_depth-whole ds whole.0 whole.1)
  depth-whole (json.object ms) t e = let whole = map_inverse object (whole_members ms) t e in ap depth_of whole.2 ∙ ap suc (members_depth-whole ms whole.0 whole.1)

  items_depth-whole : (ds : json.Items) (ts : Items) → whole_items ds ≡ Some ts → items_depth ts ≡ json.items_depth ds
  items_depth-whole json.no_items ts e = let same : Items.no_items ≡ ts = cc in ap items_depth (sym same)
  items_depth-whole (json.item d ds) ts e =
      let p = parts_of Items.item (whole_tree d) (whole_items ds) ts e in
      rw (p.4, depth-whole d p.0 p.2, items_depth-whole ds p.1 p.3) refl

  members_depth-whole : (ds : json.Members) (ts : Members) → whole_members ds ≡ Some ts → members_depth ts ≡ json.members_depth ds
  members_depth-whole json.no_members ts e = let same : Members.no_members ≡ ts = cc in ap members_depth (sym same)
  members_depth-whole (json.member k d ms) ts e =
      let p = parts_of (Members.member k) (whole_tree d) (whole_members ms) ts e in
      rw (p.4, depth-whole d p.0 p.2, members_depth-whole ms p.1 p.3) refl

pub line_is_shallow : (bytes : List ℕ) (t : Tree) → reading_of bytes ≡ whole t → depth_of t ≤ max_depth
line_is_shallow bytes t e =
    let found = line_read bytes t e in
    let same = depth-whole found.0 t found.2 in
    let within = depth-read bytes found.0 found.1 in
    omega arith
