-- Kinds of objects with known fields, by what their makers give.
use Rattle.std.proofs.Common.{◌≡◌, ◌++◌, ℕ, List, [], ◌∷◌, refl, sym, ap, ◌∙◌, subst}
use Rattle.std.specs.Cmp.Lexicographic.{slice_cmp}
use Rattle.std.specs.Ordering.{match_ordering, nat_cmp}
use Rattle.std.specs.declared.cmp.Ordering.{Ordering}
use Rattle.std.specs.declared.cmp.Ordering.TheVariants.{Less, Equal, Greater}
use Rattle.vrl_value.specs.Look.{Step, field, place}
use Rattle.vrl_value.specs.declared.value.Tag.{Tag}
use Rattle.vrl_value.specs.declared.value.Tag.TheVariants as tag
use Rattle.vrl_kind.specs.KindTree.{KindTree, KnownFields, no_fields, known_field, nothing}
use Rattle.vrl_kind.specs.Kinds.{fields_at, rest_at, tags_at, SameTags}
use Rattle.vrl_kind.specs.Make.{last_first, named_view, object_kind}
use Rattle.vrl_kind.specs.Sets.{Sets, SameSets}
use Rattle.vrl_kind.specs.Tags.{Tags}
use Rattle.fn_parse.specs.Named.{named_at, object_with}
use Rattle.fn_parse.specs.PartKinds.{AreNamed}

last_is_first : (es : List (List ℕ × KindTree)) (n : List ℕ) (K : KindTree) (fs : KnownFields) → last_first (es ++ (n, K) ∷ []) fs ≡ known_field n K (last_first es fs)
last_is_first [] n K fs = refl
last_is_first (e ∷ es) n K fs = last_is_first es n K (known_field e.0 e.1 fs)

pub pushed : (before after : List (List ℕ × KindTree)) (n : List ℕ) (K : KindTree) (A : Sets) → after ≡ before ++ (n, K) ∷ [] → SameSets (tags_at K) A →
    (others : List (List ℕ × Sets)) → AreNamed (named_view before) others → AreNamed (named_view after) ((n, A) ∷ others)
pushed before after n K A is same others are =
    subst (λ (fs : KnownFields). AreNamed fs ((n, A) ∷ others)) (sym (ap named_view is ∙ last_is_first before n K no_fields)) (refl, same, are)

by_order : (o : Ordering) (T U V W : Tags) (t : Tag) → T t ≡ V t → U t ≡ W t → match_ordering o T U T t ≡ match_ordering o V W V t
by_order Less T U V W t other same = other
by_order Equal T U V W t other same = same
by_order Greater T U V W t other same = other

fields_told : (fs : KnownFields) (es : List (List ℕ × Sets)) (n : List ℕ) (p : List Step) (t : Tag) → AreNamed fs es → fields_at fs n p (rest_at nothing p) t ≡ named_at es n p t
fields_told no_fields [] n p t are = refl
fields_told no_fields (e ∷ es) n p t are = absurd are
fields_told (known_field m K fs) [] n p t are = absurd are
fields_told (known_field m K fs) (e ∷ es) n p t are =
    ap (λ l. match_ordering (slice_cmp nat_cmp n l) (fields_at fs n p (rest_at nothing p)) (tags_at K p) (fields_at fs n p (rest_at nothing p)) t) are.0
    ∙ by_order (slice_cmp nat_cmp n e.0) (fields_at fs n p (rest_at nothing p)) (tags_at K p) (named_at es n p) (e.1 p) t (fields_told fs es n p t are.2) (are.1 p t)

object_told : (fs : KnownFields) (es : List (List ℕ × Sets)) → AreNamed fs es → SameSets (tags_at (object_kind fs nothing)) (object_with es)
object_told fs es are [] tag.Text = refl
object_told fs es are [] tag.Int = refl
object_told fs es are [] tag.Bool = refl
object_told fs es are [] tag.Null = refl
object_told fs es are [] tag.Time = refl
object_told fs es are [] tag.Pattern = refl
object_told fs es are [] tag.List = refl
object_told fs es are [] tag.Object = refl
object_told fs es are [] tag.Absent = refl
object_told fs es are (field n ∷ p) t = fields_told fs es n p t are
object_told fs es are (place i ∷ p) t = refl

pub known_made : (K : KindTree) (items : List (List ℕ × KindTree)) (es : List (List ℕ × Sets)) → SameTags K (object_kind (named_view items) nothing) → AreNamed (named_view items) es → SameSets (tags_at K) (object_with es)
known_made K items es same are p t = same p t ∙ object_told (named_view items) es are p t
