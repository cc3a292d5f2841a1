-- Objects with the fields of others put over their own.
use Rattle.std.proofs.Common.{◌≡◌, Bool, true, false, ◌||◌, ◌&&◌, not, List, [], ◌∷◌, ℕ, refl, sym, ap, ◌∙◌}
use Rattle.vrl_value.specs.Look.{Step, field, place}
use Rattle.vrl_value.specs.declared.value.Tag.{Tag}
use Rattle.vrl_value.specs.declared.value.Tag.TheVariants as tag
use Rattle.vrl_kind.specs.Canonical.{allows_absent, bare_rest, no_scalars, object_tree, rest_kind, with_absent}
use Rattle.vrl_kind.specs.KindTree.{KindTree, kind, ObjectTree, RestTree, no_list}
use Rattle.vrl_kind.specs.Kinds.{has_object, is_absence, object_at, tags_at, IsJoin}
use Rattle.vrl_kind.specs.Overlay.{over_at, overlaid_at}
use Rattle.vrl_kind.specs.Parts.{IsCombined}
use Rattle.vrl_kind.proofs.Joins.{rest_absent_at}
use Rattle.vrl_kind.proofs.Shapes.{and_no, and_yes}

-- what is left of a kind where it isn't absent
present_at : (k : KindTree) (b : Bool) (p : List Step) (t : Tag) → tags_at (with_absent false k) p t ≡ (tags_at (with_absent b k) p t && not (is_absence p t))
present_at (kind s l o) b [] tag.Text = and_yes _
present_at (kind s l o) b [] tag.Int = and_yes _
present_at (kind s l o) b [] tag.Bool = and_yes _
present_at (kind s l o) b [] tag.Null = and_yes _
present_at (kind s l o) b [] tag.Time = and_yes _
present_at (kind s l o) b [] tag.Pattern = and_yes _
present_at (kind s l o) b [] tag.List = and_yes _
present_at (kind s l o) b [] tag.Object = and_yes _
present_at (kind s l o) b [] tag.Absent = and_no b
present_at (kind s l o) b (place i ∷ p) t = and_yes _
present_at (kind s l o) b (field n ∷ p) t = and_yes _

-- what may be absent shows what lies below beside itself
pub over_join : (K k j : KindTree) (b : Bool) → b ≡ true → IsJoin (with_absent false k) K j → IsCombined over_at K (with_absent b k) j
over_join K (kind s l o) j b may join p t =
    join p t ∙ ap (λ x. x || tags_at K p t) (present_at (kind s l o) b p t)
    ∙ sym (ap (λ a. (tags_at (with_absent b (kind s l o)) p t && not (is_absence p t)) || (a && tags_at K p t)) may)

-- where both may be absent, so may what is put together
pub over_allows : (j : KindTree) (r q : RestTree) → IsCombined over_at (rest_kind r) (rest_kind q) j → allows_absent j ≡ true
over_allows (kind s l o) r q over =
    over [] tag.Absent
    ∙ ap (λ b. (b && not true) || (b && tags_at (rest_kind r) [] tag.Absent)) (rest_absent_at (bare_rest q))
    ∙ rest_absent_at (bare_rest r)

overlaid_root : (o : ObjectTree) (t : Tag) → has_object o ≡ true → tags_at (kind no_scalars no_list o) [] t ≡ overlaid_at (kind no_scalars no_list o) (kind no_scalars no_list o) [] t
overlaid_root o tag.Text is = refl
overlaid_root o tag.Int is = refl
overlaid_root o tag.Bool is = refl
overlaid_root o tag.Null is = refl
overlaid_root o tag.Time is = refl
overlaid_root o tag.Pattern is = refl
overlaid_root o tag.List is = refl
overlaid_root o tag.Object is = is
overlaid_root o tag.Absent is = refl

objects_alone : (K L : KindTree) (o : ObjectTree) → has_object o ≡ true → ((n : List ℕ) (p : List Step) (t : Tag) → object_at o n p t ≡ over_at (object_at (object_tree K) n) (object_at (object_tree L) n) p t) → (p : List Step) (t : Tag) → tags_at (kind no_scalars no_list o) p t ≡ overlaid_at K L p t
objects_alone K L o is over [] t = overlaid_root o t is
objects_alone K L o is over (place i ∷ p) t = refl
objects_alone (kind s l x) (kind u m y) o is over (field n ∷ p) t = over n p t

-- the kind of these objects alone
pub overlaid_tags : (K L : KindTree) (x y o : ObjectTree) → x ≡ object_tree K → y ≡ object_tree L → has_object o ≡ true → ((n : List ℕ) (p : List Step) (t : Tag) → object_at o n p t ≡ over_at (object_at x n) (object_at y n) p t) → (p : List Step) (t : Tag) → tags_at (kind no_scalars no_list o) p t ≡ overlaid_at K L p t
overlaid_tags K L x y o e f is over =
    objects_alone K L o is (λ n p t. over n p t ∙ ap (λ w. over_at (object_at w n) (object_at y n) p t) e ∙ ap (λ w. over_at (object_at (object_tree K) n) (object_at w n) p t) f)
