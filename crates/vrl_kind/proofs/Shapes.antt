-- What the makers give at each path.
use Rattle.std.proofs.Common.{◌≡◌, ℕ, Bool, true, false, ◌&&◌, not, IsTrue, List, [], ◌∷◌, Option, Some, None, is_some, refl, sym, ap, ◌∙◌, subst}
use Rattle.vrl_value.specs.Look.{Step, field, place}
use Rattle.vrl_value.specs.declared.value.Tag.{Tag}
use Rattle.vrl_value.specs.declared.value.Tag.TheVariants as tag
use Rattle.vrl_kind.specs.KindTree.{KindTree, kind, ListTree, no_list, list_part, ObjectTree, no_object, object_part, RestTree, Places}
use Rattle.vrl_kind.specs.declared.scalars.Scalars.{Scalars}
use Rattle.vrl_kind.specs.Canonical.{rest_kind, place_or, list_if, object_if, scalars_of, object_tree}
use Rattle.vrl_kind.specs.Change.{with_list}
use Rattle.vrl_kind.specs.Kinds.{tags_at, SameTags, IsWithin, list_at, object_at, only_at, flat_at, without_at, has_list, has_object, or_absent, any_at}
use Rattle.vrl_kind.specs.Make.{list_unless, object_unless, IsListFor}
use Rattle.vrl_kind.specs.Cut.{flat, flat_list, flat_object}
use Rattle.vrl_kind.specs.Scalars.{scalars_only, scalars_without}
use Rattle.vrl_kind.specs.Tags.{same_tag, only}
use Rattle.vrl_kind.specs.View.{list_of, object_of}
use Rattle.vrl_kind.specs.declared.kind.ListPart.{ListPart}
use Rattle.vrl_kind.specs.declared.kind.ObjectPart.{ObjectPart}
use Rattle.vrl_kind.proofs.Inclusion.{any_full}
use Rattle.vrl_kind.proofs.Known.{list_place, one_set}

-- kinds with one set of scalars, which both have arrays or not, and objects or not, have the same tags at the root
pub same_root : (s : Scalars) (l m : ListTree) (o q : ObjectTree) → has_list l ≡ has_list m → has_object o ≡ has_object q → (t : Tag) → tags_at (kind s l o) [] t ≡ tags_at (kind s m q) [] t
same_root s l m o q lists objects tag.Text = refl
same_root s l m o q lists objects tag.Int = refl
same_root s l m o q lists objects tag.Bool = refl
same_root s l m o q lists objects tag.Null = refl
same_root s l m o q lists objects tag.Time = refl
same_root s l m o q lists objects tag.Pattern = refl
same_root s l m o q lists objects tag.List = lists
same_root s l m o q lists objects tag.Object = objects
same_root s l m o q lists objects tag.Absent = refl

list_for : (ps : Places) (r : RestTree) (K : KindTree) (l : ListTree) → K ≡ rest_kind r → IsListFor ps K l → (i : ℕ) (p : List Step) (t : Tag) → list_at l i p t ≡ list_at (list_part ps r) i p t
list_for ps r K no_list own for i p t = absurd for
list_for ps r K (list_part zs s) own for i p t =
    ap (λ T. T t) (list_place zs s i p)
    ∙ ap (λ k. tags_at (place_or zs k i) p t) for.0
    ∙ ap (λ k. tags_at k p t) (for.1 i)
    ∙ ap (λ k. tags_at (place_or ps k i) p t) own
    ∙ sym (ap (λ T. T t) (list_place ps r i p))

list_is : (ps : Places) (K : KindTree) (l : ListTree) → IsListFor ps K l → has_list l ≡ true
list_is ps K no_list for = absurd for
list_is ps K (list_part zs s) for = refl

list_over : (s : Scalars) (o : ObjectTree) (ps : Places) (r : RestTree) (K : KindTree) (l : ListTree) → K ≡ rest_kind r → IsListFor ps K l → SameTags (kind s l o) (kind s (list_part ps r) o)
list_over s o ps r K l own for [] t = same_root s l (list_part ps r) o o (list_is ps K l for) refl t
list_over s o ps r K l own for (place i ∷ p) t = list_for ps r K l own for i p t
list_over s o ps r K l own for (field n ∷ p) t = refl

-- the kind over such arrays has the tags that were asked for
pub list_made : (k : KindTree) (s : Scalars) (o : ObjectTree) (ps : Places) (r : RestTree) (K : KindTree) (l : ListTree) → s ≡ scalars_of k → o ≡ object_tree k → K ≡ rest_kind r → IsListFor ps K l → SameTags (kind s l o) (with_list k ps r)
list_made (kind u m q) s o ps r K l scalars objects own for =
    subst (λ x. SameTags (kind x l o) (kind u (list_part ps r) q)) (sym scalars)
    (subst (λ x. SameTags (kind u l x) (kind u (list_part ps r) q)) (sym objects) (list_over u q ps r K l own for))

only_root : (u t : Tag) → tags_at (kind (scalars_only u) (list_if (same_tag u tag.List)) (object_if (same_tag u tag.Object))) [] t ≡ only u t
only_root tag.Text tag.Text = refl
only_root tag.Text tag.Int = refl
only_root tag.Text tag.Bool = refl
only_root tag.Text tag.Null = refl
only_root tag.Text tag.Time = refl
only_root tag.Text tag.Pattern = refl
only_root tag.Text tag.List = refl
only_root tag.Text tag.Object = refl
only_root tag.Text tag.Absent = refl
only_root tag.Int tag.Text = refl
only_root tag.Int tag.Int = refl
only_root tag.Int tag.Bool = refl
only_root tag.Int tag.Null = refl
only_root tag.Int tag.Time = refl
only_root tag.Int tag.Pattern = refl
only_root tag.Int tag.List = refl
only_root tag.Int tag.Object = refl
only_root tag.Int tag.Absent = refl
only_root tag.Bool tag.Text = refl
only_root tag.Bool tag.Int = refl
only_root tag.Bool tag.Bool = refl
only_root tag.Bool tag.Null = refl
only_root tag.Bool tag.Time = refl
only_root tag.Bool tag.Pattern = refl
only_root tag.Bool tag.List = refl
only_root tag.Bool tag.Object = refl
only_root tag.Bool tag.Absent = refl
only_root tag.Null tag.Text = refl
only_root tag.Null tag.Int = refl
only_root tag.Null tag.Bool = refl
only_root tag.Null tag.Null = refl
only_root tag.Null tag.Time = refl
only_root tag.Null tag.Pattern = refl
only_root tag.Null tag.List = refl
only_root tag.Null tag.Object = refl
only_root tag.Null tag.Absent = refl
only_root tag.Time tag.Text = refl
only_root tag.Time tag.Int = refl
only_root tag.Time tag.Bool = refl
only_root tag.Time tag.Null = refl
only_root tag.Time tag.Time = refl
only_root tag.Time tag.Pattern = refl
only_root tag.Time tag.List = refl
only_root tag.Time tag.Object = refl
only_root tag.Time tag.Absent = refl
only_root tag.Pattern tag.Text = refl
only_root tag.Pattern tag.Int = refl
only_root tag.Pattern tag.Bool = refl
only_root tag.Pattern tag.Null = refl
only_root tag.Pattern tag.Time = refl
only_root tag.Pattern tag.Pattern = refl
only_root tag.Pattern tag.List = refl
only_root tag.Pattern tag.Object = refl
only_root tag.Pattern tag.Absent = refl
only_root tag.List tag.Text = refl
only_root tag.List tag.Int = refl
only_root tag.List tag.Bool = refl
only_root tag.List tag.Null = refl
only_root tag.List tag.Time = refl
only_root tag.List tag.Pattern = refl
only_root tag.List tag.List = refl
only_root tag.List tag.Object = refl
only_root tag.List tag.Absent = refl
only_root tag.Object tag.Text = refl
only_root tag.Object tag.Int = refl
only_root tag.Object tag.Bool = refl
only_root tag.Object tag.Null = refl
only_root tag.Object tag.Time = refl
only_root tag.Object tag.Pattern = refl
only_root tag.Object tag.List = refl
only_root tag.Object tag.Object = refl
only_root tag.Object tag.Absent = refl
only_root tag.Absent tag.Text = refl
only_root tag.Absent tag.Int = refl
only_root tag.Absent tag.Bool = refl
only_root tag.Absent tag.Null = refl
only_root tag.Absent tag.Time = refl
only_root tag.Absent tag.Pattern = refl
only_root tag.Absent tag.List = refl
only_root tag.Absent tag.Object = refl
only_root tag.Absent tag.Absent = refl

only_list : (u : Tag) (i : ℕ) (p : List Step) → list_at (list_if (same_tag u tag.List)) i p ≡ (λ t. same_tag tag.List u && or_absent p (any_at p) t)
only_list tag.Text i p = refl
only_list tag.Int i p = refl
only_list tag.Bool i p = refl
only_list tag.Null i p = refl
only_list tag.Time i p = refl
only_list tag.Pattern i p = refl
only_list tag.List i p = refl
only_list tag.Object i p = refl
only_list tag.Absent i p = refl

only_object : (u : Tag) (n : List ℕ) (p : List Step) → object_at (object_if (same_tag u tag.Object)) n p ≡ (λ t. same_tag tag.Object u && or_absent p (any_at p) t)
only_object tag.Text n p = refl
only_object tag.Int n p = refl
only_object tag.Bool n p = refl
only_object tag.Null n p = refl
only_object tag.Time n p = refl
only_object tag.Pattern n p = refl
only_object tag.List n p = refl
only_object tag.Object n p = refl
only_object tag.Absent n p = refl

-- the kind of one tag
pub only_tags : (u : Tag) (p : List Step) → tags_at (kind (scalars_only u) (list_if (same_tag u tag.List)) (object_if (same_tag u tag.Object))) p ≡ only_at u p
only_tags u [] = one_set _ _ (only_root u)
only_tags u (place i ∷ p) = only_list u i p
only_tags u (field n ∷ p) = only_object u n p

flat_has_list : (l : ListTree) → has_list (flat_list l) ≡ has_list l
flat_has_list no_list = refl
flat_has_list (list_part ps r) = refl

flat_has_object : (o : ObjectTree) → has_object (flat_object o) ≡ has_object o
flat_has_object no_object = refl
flat_has_object (object_part fs r) = refl

flat_root : (s : Scalars) (l : ListTree) (o : ObjectTree) (t : Tag) → tags_at (kind s (flat_list l) (flat_object o)) [] t ≡ tags_at (kind s l o) [] t
flat_root s l o t = same_root s (flat_list l) l (flat_object o) o (flat_has_list l) (flat_has_object o) t

flat_list_at : (l : ListTree) (i : ℕ) (p : List Step) → list_at (flat_list l) i p ≡ (λ t. has_list l && or_absent p (any_at p) t)
flat_list_at no_list i p = refl
flat_list_at (list_part ps r) i p = refl

flat_object_at : (o : ObjectTree) (n : List ℕ) (p : List Step) → object_at (flat_object o) n p ≡ (λ t. has_object o && or_absent p (any_at p) t)
flat_object_at no_object n p = refl
flat_object_at (object_part fs r) n p = refl

-- a flat kind has the outer tags, and every value inside
pub flat_tags : (k : KindTree) (p : List Step) → tags_at (flat k) p ≡ flat_at k p
flat_tags (kind s l o) [] = one_set _ _ (flat_root s l o)
flat_tags (kind s l o) (place i ∷ p) = flat_list_at l i p
flat_tags (kind s l o) (field n ∷ p) = flat_object_at o n p

within_flat_list : (l : ListTree) (i : ℕ) (p : List Step) (t : Tag) → IsTrue (list_at l i p t) → IsTrue (list_at (flat_list l) i p t)
within_flat_list no_list i p t is = is
within_flat_list (list_part ps r) i p t is = any_full p t

within_flat_object : (o : ObjectTree) (n : List ℕ) (p : List Step) (t : Tag) → IsTrue (object_at o n p t) → IsTrue (object_at (flat_object o) n p t)
within_flat_object no_object n p t is = is
within_flat_object (object_part fs r) n p t is = any_full p t

-- and the kind is within it
pub within_flat : (k : KindTree) → IsWithin k (flat k)
within_flat (kind s l o) [] t is = flat_root s l o t ∙ is
within_flat (kind s l o) (place i ∷ p) t is = within_flat_list l i p t is
within_flat (kind s l o) (field n ∷ p) t is = within_flat_object o n p t is

pub list_if_some : (x : Option ListPart) → list_if (is_some x) ≡ flat_list (list_of x)
list_if_some None = refl
list_if_some (Some part) = refl

pub object_if_some : (x : Option ObjectPart) → object_if (is_some x) ≡ flat_object (object_of x)
object_if_some None = refl
object_if_some (Some part) = refl

pub and_no : (b : Bool) → false ≡ (b && false)
and_no true = refl
and_no false = refl

pub and_yes : (b : Bool) → b ≡ (b && true)
and_yes true = refl
and_yes false = refl

unless_list_has : (b : Bool) (l : ListTree) → has_list (list_unless b l) ≡ (has_list l && not b)
unless_list_has true l = and_no (has_list l)
unless_list_has false l = and_yes (has_list l)

unless_object_has : (b : Bool) (o : ObjectTree) → has_object (object_unless b o) ≡ (has_object o && not b)
unless_object_has true o = and_no (has_object o)
unless_object_has false o = and_yes (has_object o)

unless_list_at : (b : Bool) (l : ListTree) (i : ℕ) (p : List Step) (u : Tag) → list_at (list_unless b l) i p u ≡ (list_at l i p u && not b)
unless_list_at true l i p u = and_no (list_at l i p u)
unless_list_at false l i p u = and_yes (list_at l i p u)

unless_object_at : (b : Bool) (o : ObjectTree) (n : List ℕ) (p : List Step) (u : Tag) → object_at (object_unless b o) n p u ≡ (object_at o n p u && not b)
unless_object_at true o n p u = and_no (object_at o n p u)
unless_object_at false o n p u = and_yes (object_at o n p u)

without_root : (s : Scalars) (l : ListTree) (o : ObjectTree) (t u : Tag) → tags_at (kind (scalars_without s t) (list_unless (same_tag tag.List t) l) (object_unless (same_tag tag.Object t) o)) [] u ≡ (tags_at (kind s l o) [] u && not (same_tag u t))
without_root s l o t tag.Text = refl
without_root s l o t tag.Int = refl
without_root s l o t tag.Bool = refl
without_root s l o t tag.Null = refl
without_root s l o t tag.Time = refl
without_root s l o t tag.Pattern = refl
without_root s l o t tag.List = unless_list_has (same_tag tag.List t) l
without_root s l o t tag.Object = unless_object_has (same_tag tag.Object t) o
without_root s l o t tag.Absent = refl

-- the kind without a tag
pub without_tags : (s : Scalars) (l : ListTree) (o : ObjectTree) (t : Tag) (p : List Step) → tags_at (kind (scalars_without s t) (list_unless (same_tag tag.List t) l) (object_unless (same_tag tag.Object t) o)) p ≡ without_at (kind s l o) t p
without_tags s l o t [] = one_set _ _ (without_root s l o t)
without_tags s l o t (place i ∷ p) = one_set _ _ (unless_list_at (same_tag tag.List t) l i p)
without_tags s l o t (field n ∷ p) = one_set _ _ (unless_object_at (same_tag tag.Object t) o n p)
