-- Known places and fields, and what a kind of arrays or of objects has of them.
use Rattle.std.proofs.Common.{◌≡◌, ℕ, zero, suc, List, [], ◌∷◌, Option, Some, None, Ordering, Less, Equal, Greater, is_eq, nat_cmp, refl, sym, ap, ◌∙◌}
use Rattle.std.specs.Cmp.Lexicographic.{slice_cmp}
use Rattle.std.specs.Ordering.{match_ordering}
use Rattle.std.proofs.lemmas.Map.Text.{is_eq-slice_cmp}
use Rattle.std.proofs.lemmas.Slice.Eq.{bytes_eq-Decides}
use Rattle.vrl_value.specs.Look.{Step, field, place, item_at}
use Rattle.vrl_value.specs.Tree.{Tree, Items, no_items, item, Members, no_members, member, find, IsBefore}
use Rattle.vrl_value.specs.declared.value.Tag.{Tag}
use Rattle.vrl_value.specs.declared.value.Tag.TheVariants as tag
use Rattle.vrl_kind.specs.KindTree.{KindTree, RestTree, Places, KnownFields, no_fields, known_field}
use Rattle.vrl_kind.specs.Kinds.{tags_at, places_at, fields_at, rest_at, SameTags}
use Rattle.vrl_kind.specs.Make.{array_kind, object_kind, last_first, named_view}
use Rattle.vrl_kind.specs.Tags.{Tags, only}
use Rattle.vrl_kind.specs.View.{places_view}
use Rattle.vrl_kindfile.specs.Shapes.{arrays, objects}
use Rattle.vrl_kindfile.specs.Descriptions.{described_at, known_or_rest, part_of, part_tags, rest_part, shape_part}
use Rattle.vrl_kindfile.specs.Walk.{AreFields, ArePlaces, HaveFields, HavePlaces, HasRest, IsRestOf, IsShape, NamesAreOrdered}
use Rattle.vrl_kindfile.proofs.Refusals.{faultless_both}

places_told : (ts : Items) (Ks : List KindTree) (rest : Option Tree) (R : RestTree) → HavePlaces ts Ks → HasRest (rest_part rest) R
    → (i : ℕ) (p : List Step) (u : Tag) → places_at (places_view Ks) i p (rest_at R p) u ≡ part_tags (known_or_rest (item_at i ts) rest) p (described_at p) u
places_told no_items [] rest R known others i p u = others p u
places_told no_items (K ∷ Ks) rest R known others i p u = absurd known
places_told (item t ts) [] rest R known others i p u = absurd known
places_told (item t ts) (K ∷ Ks) rest R known others zero p u = known.0 p u
places_told (item t ts) (K ∷ Ks) rest R known others (suc i) p u = places_told ts Ks rest R known.1 others i p u

-- what is known of a field, or else T
found_tags : Option Tree → List Step → Tags → Tags
found_tags None p T = T
found_tags (Some t) p T = part_tags (part_of t) p (described_at p)

find_before : (name : List ℕ) (ms : Members) → IsBefore name ms → find name ms ≡ None
find_before name no_members before = refl
find_before name (member other t ms) before = rw before.0 (find_before name ms before.1)

same_name : (n name : List ℕ) → slice_cmp nat_cmp n name ≡ Equal → n ≡ name
same_name n name is = (bytes_eq-Decides n name).0 (sym (is_eq-slice_cmp n name) ∙ ap is_eq is)

field_added : (o : Ordering) (n name : List ℕ) (t : Tree) (K : KindTree) (ms : Members) (p : List Step) (A : Tags) (u : Tag) → slice_cmp nat_cmp n name ≡ o → IsBefore name ms
    → tags_at K p u ≡ part_tags (part_of t) p (described_at p) u
    → found_tags (find n ms) p (match_ordering o A (tags_at K p) A) u ≡ found_tags (match_ordering o (find n ms) (Some t) (find n ms)) p A u
unfolding found_tags
field_added Less n name t K ms p A u is before has = refl
field_added Greater n name t K ms p A u is before has = refl
field_added Equal n name t K ms p A u is before has =
    let none : find n ms ≡ None = rw (same_name n name is) (find_before name ms before) in
    rw none has

fields_told : (ms : Members) (es : List (List ℕ × KindTree)) → HaveFields ms es → NamesAreOrdered ms
    → (fs : KnownFields) (n : List ℕ) (p : List Step) (T : Tags) (u : Tag) → fields_at (last_first es fs) n p T u ≡ found_tags (find n ms) p (fields_at fs n p T) u
unfolding found_tags
fields_told no_members [] known ordered fs n p T u = refl
fields_told no_members (e ∷ es) known ordered fs n p T u = absurd known
fields_told (member name t ms) [] known ordered fs n p T u = absurd known
fields_told (member name t ms) (e ∷ es) known ordered fs n p T u =
    fields_told ms es known.2 ordered.1 (known_field e.0 e.1 fs) n p T u
    ∙ ap (λ m. found_tags (find n ms) p (match_ordering (slice_cmp nat_cmp n m) (fields_at fs n p T) (tags_at e.1 p) (fields_at fs n p T)) u) known.0
    ∙ field_added (slice_cmp nat_cmp n name) n name t e.1 ms p (fields_at fs n p T) u refl ordered.0 (known.1 p u)

found_or_rest : (found : Option Tree) (rest : Option Tree) (R : RestTree) → HasRest (rest_part rest) R → (p : List Step) (u : Tag) → found_tags found p (rest_at R p) u ≡ part_tags (known_or_rest found rest) p (described_at p) u
unfolding found_tags
found_or_rest None rest R others p u = others p u
found_or_rest (Some t) rest R others p u = refl

array_root : (ps : Places) (R : RestTree) (u : Tag) → tags_at (array_kind ps R) [] u ≡ only tag.List u
array_root ps R tag.Text = refl
array_root ps R tag.Int = refl
array_root ps R tag.Bool = refl
array_root ps R tag.Null = refl
array_root ps R tag.Time = refl
array_root ps R tag.Pattern = refl
array_root ps R tag.List = refl
array_root ps R tag.Object = refl
array_root ps R tag.Absent = refl

object_root : (fs : KnownFields) (R : RestTree) (u : Tag) → tags_at (object_kind fs R) [] u ≡ only tag.Object u
object_root fs R tag.Text = refl
object_root fs R tag.Int = refl
object_root fs R tag.Bool = refl
object_root fs R tag.Null = refl
object_root fs R tag.Time = refl
object_root fs R tag.Pattern = refl
object_root fs R tag.List = refl
object_root fs R tag.Object = refl
object_root fs R tag.Absent = refl

array_parts : (t : Tree) (Ks : List KindTree) (rest : Option Tree) (R : RestTree) → ArePlaces t Ks → HasRest (rest_part rest) R
    → (s : Step) (p : List Step) (u : Tag) → tags_at (array_kind (places_view Ks) R) (s ∷ p) u ≡ part_tags (shape_part (Some (arrays t rest)) s) p (described_at p) u
array_parts t Ks rest R known others (place i) p u = rw known.is_array (places_told known.items Ks rest R known.kinds others i p u)
array_parts t Ks rest R known others (field n) p u = rw known.is_array refl

object_parts : (t : Tree) (es : List (List ℕ × KindTree)) (rest : Option Tree) (R : RestTree) → AreFields t es → HasRest (rest_part rest) R
    → (s : Step) (p : List Step) (u : Tag) → tags_at (object_kind (named_view es) R) (s ∷ p) u ≡ part_tags (shape_part (Some (objects t rest)) s) p (described_at p) u
object_parts t es rest R known others (place i) p u = rw known.is_object refl
object_parts t es rest R known others (field n) p u =
    rw known.is_object (fields_told known.members es known.kinds known.ordered no_fields n p (rest_at R p) u ∙ found_or_rest (find n known.members) rest R others p u)

pub arrays_shape : (t : Tree) (Ks : List KindTree) (rest : Option Tree) (R : RestTree) (K : KindTree) → ArePlaces t Ks → IsRestOf rest R → SameTags K (array_kind (places_view Ks) R) → IsShape (arrays t rest) K
arrays_shape t Ks rest R K known others same = record {
  faultless = faultless_both _ _ _ known.faultless others.faultless;
  root = λ u. same [] u ∙ array_root (places_view Ks) R u;
  parts = λ s p u. same (s ∷ p) u ∙ array_parts t Ks rest R known others.tags s p u;
}

pub objects_shape : (t : Tree) (es : List (List ℕ × KindTree)) (rest : Option Tree) (R : RestTree) (K : KindTree) → AreFields t es → IsRestOf rest R → SameTags K (object_kind (named_view es) R) → IsShape (objects t rest) K
objects_shape t es rest R K known others same = record {
  faultless = faultless_both _ _ _ known.faultless others.faultless;
  root = λ u. same [] u ∙ object_root (named_view es) R u;
  parts = λ s p u. same (s ∷ p) u ∙ object_parts t es rest R known others.tags s p u;
}
