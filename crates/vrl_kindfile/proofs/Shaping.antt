-- What an object says of containers is what its members say.
use Rattle.std.proofs.Common.{◌≡◌, ℕ, Bool, true, false, List, [], ◌∷◌, ◌++◌, Option, Some, None, bytes_eq, codes, is_some, refl, sym, ap, ◌∙◌, subst, append-nil}
use Rattle.std.proofs.lemmas.Slice.Eq.{bytes_eq-Decides}
use Rattle.vrl_value.specs.Look.{Step, field}
use Rattle.vrl_value.specs.Tree.{Tree, object, Members, no_members, member}
use Rattle.vrl_value.specs.declared.value.Tag.{Tag}
use Rattle.vrl_kind.specs.KindTree.{KindTree}
use Rattle.vrl_kind.specs.Kinds.{tags_at}
use Rattle.vrl_kindfile.specs.Shapes.{Shape, arrays, objects, shape_named, shape_of}
use Rattle.vrl_kindfile.specs.Descriptions.{alternative_at, described_at, part_tags, shape_part, shape_tags}
use Rattle.vrl_kindfile.specs.Faults.{as_description, as_rest, faults, member_role, members_faults, under}
use Rattle.vrl_kindfile.specs.Walk.{IsDescription, IsShape, rest_faults, shape_faults}
use Rattle.vrl_kindfile.proofs.Alternatives.{any_single}
use Rattle.vrl_kindfile.proofs.Refusals.{faultless_inside}

-- which of two shapes a name gives
data IsNamed (name : List ℕ) (parts : Tree) (rest : Option Tree) : Shape → Type 0 where
  of_arrays : name ≡ codes "array" → IsNamed name parts rest (arrays parts rest)
  of_objects : name ≡ codes "object" → IsNamed name parts rest (objects parts rest)

named_by : (first second : Bool) (name : List ℕ) (parts : Tree) (rest : Option Tree) (shape : Shape) → bytes_eq name (codes "array") ≡ first → bytes_eq name (codes "object") ≡ second
    → shape_named name parts rest ≡ Some shape → IsNamed name parts rest shape
named_by true second name parts rest shape is other e =
    let found : Some (arrays parts rest) ≡ Some shape = rw is at e in
    let same : arrays parts rest ≡ shape = cc in
    subst (IsNamed name parts rest) same (of_arrays ((bytes_eq-Decides name (codes "array")).0 is))
named_by false true name parts rest shape is other e =
    let found : Some (objects parts rest) ≡ Some shape = rw (is, other) at e in
    let same : objects parts rest ≡ shape = cc in
    subst (IsNamed name parts rest) same (of_objects ((bytes_eq-Decides name (codes "object")).0 other))
named_by false false name parts rest shape is other e =
    let none : None ≡ Some shape = rw (is, other) at e in
    cc

named : (name : List ℕ) (parts : Tree) (rest : Option Tree) (shape : Shape) → shape_named name parts rest ≡ Some shape → IsNamed name parts rest shape
named name parts rest shape e = named_by (bytes_eq name (codes "array")) (bytes_eq name (codes "object")) name parts rest shape refl refl e

named_faults : (name : List ℕ) (parts : Tree) (rest : Option Tree) (shape : Shape) (others : List (List Step)) → IsNamed name parts rest shape → others ≡ rest_faults rest
    → under (field name) (faults (member_role as_description name) parts) ++ others ≡ shape_faults shape
named_faults name parts rest _ others (of_arrays is) same = rw (is, same) refl
named_faults name parts rest _ others (of_objects is) same = rw (is, same) refl

rest_named : (test : Bool) (name other : List ℕ) (parts u : Tree) (shape : Shape) → bytes_eq other (codes "rest") ≡ test → shape_of (member name parts (member other u no_members)) ≡ Some shape
    → (other ≡ codes "rest") × (shape_named name parts (Some u) ≡ Some shape)
rest_named true name other parts u shape is e = ((bytes_eq-Decides other (codes "rest")).0 is, rw is at e)
rest_named false name other parts u shape is e =
    let none : None ≡ Some shape = rw is at e in
    cc

only_rest : (other : List ℕ) (u : Tree) → other ≡ codes "rest" → members_faults as_description (member other u no_members) ≡ rest_faults (Some u)
only_rest other u is = rw is (append-nil (under (field (codes "rest")) (faults as_rest u)))

shape_has_faults : (ms : Members) (shape : Shape) → shape_of ms ≡ Some shape → members_faults as_description ms ≡ shape_faults shape
shape_has_faults no_members shape e = cc
shape_has_faults (member name parts no_members) shape e = named_faults name parts None shape [] (named name parts None shape e) refl
shape_has_faults (member name parts (member other u no_members)) shape e =
    let found = rest_named (bytes_eq other (codes "rest")) name other parts u shape refl e in
    named_faults name parts (Some u) shape (members_faults as_description (member other u no_members)) (named name parts (Some u) shape found.1) (only_rest other u found.0)
shape_has_faults (member name parts (member other u (member third v ms))) shape e = cc

fitting : (ms : Members) (shape : Shape) → shape_of ms ≡ Some shape → is_some (shape_of ms) ≡ true
fitting ms shape e = rw e refl

pub shape_described : (ms : Members) (shape : Shape) (K : KindTree) → shape_of ms ≡ Some shape → IsShape shape K → IsDescription (object ms) K
shape_described ms shape K e is = record {
  faultless = faultless_inside _ _ (fitting ms shape e) (shape_has_faults ms shape e ∙ is.faultless);
  tags = λ p u. tags_of p u ∙ any_single (alternative_at p) (object ms) u;
} where
  tags_of : (p : List Step) (u : Tag) → tags_at K p u ≡ alternative_at p (object ms) u
  tags_of [] u = is.root u ∙ ap (λ found. shape_tags found u) (sym e)
  tags_of (s ∷ p) u = is.parts s p u ∙ ap (λ found. part_tags (shape_part found s) p (described_at p) u) (sym e)
