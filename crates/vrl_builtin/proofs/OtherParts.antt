-- Whether a part of a kind's arrays may have a tag, and the first part that has one outside a set.
use Rattle.std.proofs.Common.{◌≡◌, ◌||◌, ◌&&◌, not, ℕ, suc, Bool, true, false, List, [], ◌∷◌, Option, Some, None, IsTrue, IsSome, IfSome, refl, sym, ap, ◌∙◌, if◌then◌else◌}
use Rattle.std.proofs.lemmas.Bool.{and_from}
use Rattle.std.specs.List.{list_any}
use Rattle.vrl_value.specs.Tag.{tag_of}
use Rattle.vrl_value.specs.Tree.{array, Items, no_items, item, IsOrdered}
use Rattle.vrl_value.specs.declared.value.Tag.{Tag}
use Rattle.vrl_value.specs.declared.value.Tag.TheVariants as tag
use Rattle.vrl_value.specs.Tree.{Tree}
use Rattle.vrl_kind.specs.Canonical.{list_tree}
use Rattle.vrl_kind.specs.KindTree.{KindTree, kind, no_list, list_part, RestTree, Places}
use Rattle.vrl_kind.specs.Kinds.{rest_at, tags_at}
use Rattle.vrl_kind.specs.PartSets.{known_places_at}
use Rattle.vrl_kind.specs.Tags.{same_tag}
use Rattle.vrl_kind.specs.View.{places_view}
use Rattle.vrl_builtin.specs.Law.{AreInstances, IsOfGiven}
use Rattle.vrl_builtin.specs.OneTag.{IsOneTag, IsPlain}
use Rattle.vrl_builtin.specs.PartKinds.{array_parts_at, part_allows_other}
use Rattle.vrl_builtin.specs.Rows.{argument_at, GivenTree, items_at, items_given, kind_at}
use Rattle.vrl_builtin.specs.TagSets.{allows, arrays}
use Rattle.vrl_builtin.specs.Words.{first_other, first_other_from, unless_other}
use Rattle.vrl_builtin.specs.declared.tags.Tags.{Tags}
use Rattle.vrl_builtin.proofs.Containers.{each_item_so, EachItem, IsLawfulPart}
use Rattle.vrl_builtin.proofs.GivenTags.{arrays_only}
use Rattle.vrl_builtin.proofs.Lawful.{any_tag}
use Rattle.vrl_builtin.proofs.PartKinds.{given_items}

-- ---- one tag

pub known_any : (ks : List KindTree) (t : Tag) → list_any (λ k. tags_at k [] t) ks ≡ known_places_at (places_view ks) [] t
known_any [] t = refl
known_any (k ∷ ks) t = ap (λ b. tags_at k [] t || b) (known_any ks t)

turn : (t : Tag) → same_tag t tag.Absent ≡ same_tag tag.Absent t
turn tag.Text = refl
turn tag.Int = refl
turn tag.Bool = refl
turn tag.Null = refl
turn tag.Time = refl
turn tag.Pattern = refl
turn tag.List = refl
turn tag.Object = refl
turn tag.Absent = refl

none_absent : (a b : Bool) → b ≡ true → false ≡ (a && not b)
none_absent true true is = refl
none_absent false b is = refl
none_absent true false is = is

-- nothing is a part that is absent
pub absent_part : (K : KindTree) (t : Tag) → same_tag tag.Absent t ≡ true → false ≡ array_parts_at (Some K) [] t
absent_part (kind s l o) t is = none_absent _ (same_tag t tag.Absent) (turn t ∙ is)

or_false : (b : Bool) → ((b || false) && true) ≡ b
or_false true = refl
or_false false = refl

and_not : (a b : Bool) → b ≡ false → ((a || false) && true) ≡ ((a || false) && not b)
and_not a false is = refl
and_not a true is = ap (λ c. (a || false) && not c) (sym is)

-- without arrays there is none
pub no_part : (K : KindTree) (t : Tag) → list_tree K ≡ no_list → false ≡ array_parts_at (Some K) [] t
no_part (kind s no_list o) t is = refl
no_part (kind s (list_part ps r) o) t is = absurd cc

pub some_part : (K : KindTree) (t : Tag) (ps : Places) (r : RestTree) → list_tree K ≡ list_part ps r → same_tag tag.Absent t ≡ false → (known_places_at ps [] t || rest_at r [] t) ≡ array_parts_at (Some K) [] t
some_part (kind s l o) t ps r is there = sym (or_false (known_places_at ps [] t || rest_at r [] t)) ∙ and_not (known_places_at ps [] t || rest_at r [] t) (same_tag t tag.Absent) (turn t ∙ there)
    ∙ ap (λ m. array_parts_at (Some (kind s m o)) [] t) (sym is)

-- ---- parts of other tags

abbrev IsOther : (Tag → Bool) → Tags → Option (ℕ × Tag) → Type 0
IsOther A T o = IfSome o (λ other. IsTrue (A other.1 && not (allows T other.1)))

by_test : (A : Tag → Bool) (T : Tags) (b : Bool) (t : Tag) (n : ℕ) (o : Option (ℕ × Tag)) → allows T t ≡ b → IsTrue (A t) → IsOther A T o → IsOther A T (if b then o else Some (n, t))
by_test A T true t n o is allowed others = others
by_test A T false t n o is allowed others = and_from (A t) (not (allows T t)) allowed (ap not is)

other_from : (A : Tag → Bool) (T : Tags) (n : ℕ) (ts : Items) → EachItem (λ v. IsTrue (A (tag_of v))) ts → IsOther A T (first_other_from n T ts)
other_from A T n no_items each = tt
other_from A T n (item v ts) each = by_test A T (allows T (tag_of v)) (tag_of v) n (first_other_from (suc n) T ts) refl each.0 (other_from A T (suc n) ts each.1)

-- where a part of another tag is found, the kind that is given allows it
pub other_given : (K : Option KindTree) (T : Tags) (at : ℕ) (ts : Items) (arguments : List (Option Tree)) → argument_at at arguments ≡ Some (array ts) → IsOfGiven K (Some (array ts)) → IsOrdered (array ts) →
    IfSome (first_other_from 0 T ts) (λ other. IsTrue (part_allows_other T K))
unfolding part_allows_other
other_given K T at ts arguments is of ordered =
    so (first_other_from 0 T ts) (other_from (array_parts_at K []) T 0 ts
    (each_item_so (IsLawfulPart (array_parts_at K) arguments) (λ v. IsTrue (array_parts_at K [] (tag_of v))) ts (λ v part. part.allowed []) (given_items K at ts arguments is of ordered))) where
      so : (o : Option (ℕ × Tag)) → IsOther (array_parts_at K []) T o → IfSome o (λ other. IsTrue (part_allows_other T K))
      so None found = tt
      so (Some other) found = any_tag (λ t. array_parts_at K [] t && not (allows T t)) other.1 found

-- ---- answers of one tag

value_or_other : (t : Tag) (o : Option (ℕ × Tag)) (fails : Bool) (v : Tree) → IsPlain v × (tag_of v ≡ t) → IfSome o (λ other. IsTrue fails) → IsOneTag t fails (unless_other o v)
value_or_other t None fails v plain fail = plain
value_or_other t (Some other) fails v plain fail = fail

-- what is made of the parts of an array that is given, or the error of the first part of another tag
pub made_of_parts : (t : Tag) (T : Tags) (at : ℕ) (make : Items → Tree) (givens : List GivenTree) (arguments : List (Option Tree)) → ((ts : Items) → IsPlain (make ts) × (tag_of (make ts) ≡ t)) →
    IsSome (argument_at at arguments) → IfSome (argument_at at arguments) (λ v. IsTrue (allows arrays (tag_of v))) → AreInstances givens arguments →
    IsOneTag t (part_allows_other T (kind_at at givens)) (unless_other (first_other T (items_at at arguments)) (make (items_at at arguments)))
made_of_parts t T at make givens arguments plain there allowed instances =
    let K = kind_at at givens in
    arrays_only (λ a. argument_at at arguments ≡ a → IsOfGiven K a → IfSome a IsOrdered → IsOneTag t (part_allows_other T K) (unless_other (first_other T (items_given a)) (make (items_given a))))
    (argument_at at arguments) there allowed
    (λ ts first of ordered. value_or_other t (first_other T ts) (part_allows_other T K) (make ts) (plain ts) (other_given K T at ts arguments first of ordered))
    refl (instances.kinds at) (instances.ordered at)
