-- What the walk of a description promises of each of its parts.
use Rattle.std.specs.Prelude.{◌≡◌, ℕ, true, List, [], ◌∷◌, ◌++◌, Option, Some, None, Result, Ok, Err, codes, is_some, option_map, ⊤}
use Rattle.std.specs.Borrow.{Bor}
use Rattle.vrl_value.specs.Look.{Step, field}
use Rattle.vrl_value.specs.Tree.{Tree, array, object, string, Items, no_items, item, Members, no_members, member, IsBefore}
use Rattle.vrl_value.specs.View.{tree_of}
use Rattle.vrl_value.specs.declared.memory.Memory.{Memory}
use Rattle.vrl_value.specs.declared.value.Value.{Value}
use Rattle.vrl_value.specs.declared.value.Tag.{Tag}
use Rattle.vrl_kind.specs.KindTree.{KindTree, RestTree}
use Rattle.vrl_kind.specs.Kinds.{tags_at, rest_at}
use Rattle.vrl_kindfile.specs.Shapes.{Shape, arrays, objects, word_tags}
use Rattle.vrl_kindfile.specs.Descriptions.{Part, alternative_at, any_of, described_at, items_alternatives, part_of, part_tags, rest_part, shape_part, shape_tags}
use Rattle.vrl_kindfile.specs.Faults.{as_description, as_fields, as_part, as_places, as_rest, faults, first_of, items_faults, members_faults, under}
use Rattle.vrl_kindfile.specs.Pointer.{pointer_of, step_text}
use Rattle.vrl_kindfile.specs.declared.container.Container.{Container}
use Rattle.vrl_kindfile.specs.declared.container.Container.TheVariants as container
use Rattle.vrl_kindfile.specs.declared.refusal.Refusal.{Refusal}
use Rattle.vrl_kindfile.specs.declared.refusal.Refusal.TheVariants as refusal

-- the tree behind a reference, where there is one
abbrev pub given : Option (Bor Value) → Option Tree
given = option_map (λ value. tree_of value.now)

abbrev pub shape_in : Container → Shape
shape_in (container.Arrays places rest) = arrays (tree_of places.now) (given rest)
shape_in (container.Objects fields rest) = objects (tree_of fields.now) (given rest)

-- a refusal has the pointer of the first of these faults, or is for want of memory
abbrev pub IsRefusal : List (List Step) → Refusal → Type 0
IsRefusal paths (refusal.Bad pointer) = option_map pointer_of (first_of paths) ≡ Some pointer
IsRefusal paths refusal.Memory = ⊤

-- the value itself is at fault
abbrev pub IsHere : Refusal → Type 0
IsHere (refusal.Bad pointer) = pointer ≡ []
IsHere refusal.Memory = ⊥

-- the later refusal is the earlier one, told from the value that has the refused one under this step
abbrev pub IsUnder : Step → Refusal → Refusal → Type 0
IsUnder s (refusal.Bad pointer) (refusal.Bad longer) = longer ≡ 47 ∷ (step_text s ++ pointer)
IsUnder s (refusal.Bad pointer) refusal.Memory = ⊤
IsUnder s refusal.Memory (refusal.Bad longer) = ⊥
IsUnder s refusal.Memory refusal.Memory = ⊤

-- the refusal with this pointer, or for want of memory where it was refused
abbrev pub IsLengthened : Result (List ℕ) Memory → Refusal → Type 0
IsLengthened (Ok longer) (refusal.Bad pointer) = pointer ≡ longer
IsLengthened (Ok longer) refusal.Memory = ⊥
IsLengthened (Err refused) (refusal.Bad pointer) = ⊥
IsLengthened (Err refused) refusal.Memory = ⊤

-- a kind allows what a part says
abbrev pub HasPart : Part → KindTree → Type 0
HasPart part K = (p : List Step) (u : Tag) → tags_at K p u ≡ part_tags part p (described_at p) u

abbrev pub HasRest : Part → RestTree → Type 0
HasRest part R = (p : List Step) (u : Tag) → rest_at R p u ≡ part_tags part p (described_at p) u

-- no value of the description is at fault, and the kind allows what it does
pub record IsDescription (t : Tree) (K : KindTree) : Type 0 where
  pub faultless : faults as_description t ≡ []
  pub tags : (p : List Step) (u : Tag) → tags_at K p u ≡ described_at p t u

-- the same of items, of which the first has this place and any may hold
pub record AreAlternatives (from : ℕ) (ts : Items) (K : KindTree) : Type 0 where
  pub faultless : items_faults as_description from ts ≡ []
  pub tags : (p : List Step) (u : Tag) → tags_at K p u ≡ any_of (alternative_at p) (items_alternatives ts) u

-- the same of a part
pub record IsPart (t : Tree) (K : KindTree) : Type 0 where
  pub faultless : faults as_part t ≡ []
  pub tags : HasPart (part_of t) K

-- the word names a kind, and this is that kind
pub record IsWordKind (word : List ℕ) (K : KindTree) : Type 0 where
  pub known : is_some (word_tags word) ≡ true
  pub tags : (p : List Step) (u : Tag) → tags_at K p u ≡ alternative_at p (string word) u

-- the names of the members stand in the order of their bytes, each once
abbrev pub NamesAreOrdered : Members → Type 0
NamesAreOrdered no_members = ⊤
NamesAreOrdered (member name t ms) = IsBefore name ms × NamesAreOrdered ms

-- the kinds are those of the parts, one by one
abbrev pub HavePlaces : Items → List KindTree → Type 0
HavePlaces no_items [] = ⊤
HavePlaces no_items (K ∷ Ks) = ⊥
HavePlaces (item t ts) [] = ⊥
HavePlaces (item t ts) (K ∷ Ks) = HasPart (part_of t) K × HavePlaces ts Ks

abbrev pub HaveFields : Members → List (List ℕ × KindTree) → Type 0
HaveFields no_members [] = ⊤
HaveFields no_members (e ∷ es) = ⊥
HaveFields (member name t ms) [] = ⊥
HaveFields (member name t ms) (e ∷ es) = (e.0 ≡ name) × HasPart (part_of t) e.1 × HaveFields ms es

pub record AreKnownPlaces (ts : Items) (Ks : List KindTree) : Type 0 where
  pub faultless : items_faults as_part 0 ts ≡ []
  pub kinds : HavePlaces ts Ks

-- the same of the members, which stand in the order of their names
pub record AreKnownFields (ms : Members) (es : List (List ℕ × KindTree)) : Type 0 where
  pub faultless : members_faults as_fields ms ≡ []
  pub kinds : HaveFields ms es
  pub ordered : NamesAreOrdered ms

pub record ArePlaces (t : Tree) (Ks : List KindTree) : Type 0 where
  pub items : Items
  pub is_array : t ≡ array items
  pub faultless : faults as_places t ≡ []
  pub kinds : HavePlaces items Ks

pub record AreFields (t : Tree) (es : List (List ℕ × KindTree)) : Type 0 where
  pub members : Members
  pub is_object : t ≡ object members
  pub faultless : faults as_fields t ≡ []
  pub kinds : HaveFields members es
  pub ordered : NamesAreOrdered members

-- the faults of what stands at `rest`
abbrev pub rest_faults : Option Tree → List (List Step)
rest_faults None = []
rest_faults (Some t) = under (field (codes "rest")) (faults as_rest t)

pub record IsRestOf (rest : Option Tree) (R : RestTree) : Type 0 where
  pub faultless : rest_faults rest ≡ []
  pub tags : HasRest (rest_part rest) R

abbrev pub shape_faults : Shape → List (List Step)
shape_faults (arrays t rest) = under (field (codes "array")) (faults as_places t) ++ rest_faults rest
shape_faults (objects t rest) = under (field (codes "object")) (faults as_fields t) ++ rest_faults rest

-- no value of the containers is at fault, and the kind allows what they do
pub record IsShape (shape : Shape) (K : KindTree) : Type 0 where
  pub faultless : shape_faults shape ≡ []
  pub root : (u : Tag) → tags_at K [] u ≡ shape_tags (Some shape) u
  pub parts : (s : Step) (p : List Step) (u : Tag)
      → tags_at K (s ∷ p) u ≡ part_tags (shape_part (Some shape) s) p (described_at p) u
