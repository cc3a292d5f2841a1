-- By what the answers of a row keep the law.
use Rattle.std.specs.Prelude.{◌≡◌, ℕ, Bool, true, false, ◌&&◌, not, List, [], ◌∷◌, Option, Some, None, IsTrue, IfSome, refl, if◌then◌else◌}
use Rattle.std.proofs.Common.{ap, arith}
use Rattle.std.proofs.lemmas.Bool.{and_from}
use Rattle.std.proofs.lemmas.Grind.{common_steps}
use Rattle.std.specs.List.{list_any}
use Rattle.vrl_value.specs.Look.{field, place, raw_at, tag_found}
use Rattle.vrl_value.specs.Tag.{tag_of}
use Rattle.vrl_value.specs.Tree.{Tree, string, integer, boolean, null, timestamp, regex, array, object, IsOrdered}
use Rattle.vrl_value.specs.declared.value.Tag.{Tag}
use Rattle.vrl_value.specs.declared.value.Tag.TheVariants as tag
use Rattle.vrl_kind.specs.KindTree.{KindTree}
use Rattle.vrl_kind.specs.Kinds.{tags_at, Inhabits}
use Rattle.vrl_kind.specs.Sets.{IsAllowed, Sets}
use Rattle.vrl_kind.specs.Tags.{all_tags, same_tag}
use Rattle.vrl_builtin.specs.CutDown.{allows_other, cut_to, given_cut_to}
use Rattle.vrl_builtin.specs.Law.{IsLawful, IsOfGiven}
use Rattle.vrl_builtin.specs.OneTag.{IsOneTag, IsPlain}
use Rattle.vrl_builtin.specs.Rows.{Answer, value, named, told, allows_tag, argument_at}
use Rattle.vrl_builtin.specs.TagSets.{allows, only_tag}
use Rattle.vrl_builtin.specs.declared.tags.Tags.{Tags}

-- the tag of an argument is allowed by the kind that was given
pub tag_is_given : (K : Option KindTree) (v : Tree) → IsOfGiven K (Some v) → allows_tag (tag_of v) K ≡ true
tag_is_given None v of = absurd of
tag_is_given (Some K) v of = of []

both_if : (o : Option Tag) (P : Tag → Bool) (b : Bool) → IfSome o (λ t. IsTrue (P t)) → b ≡ true → IfSome o (λ t. IsTrue (P t && b))
both_if None P b holds is = tt
both_if (Some t) P b holds is = and_from (P t) b holds is

pub cut_is_of : (T : Tags) (K : KindTree) (v : Tree) → Inhabits v K → allows T (tag_of v) ≡ true → IsAllowed v (cut_to T K)
cut_is_of T K v inhabits allowed [] = and_from (tags_at K [] (tag_of v)) (allows T (tag_of v)) (inhabits []) allowed
cut_is_of T K (array ts) inhabits allowed (place i ∷ p) = both_if (tag_found (raw_at (array ts) (place i ∷ p))) (tags_at K (place i ∷ p)) (allows T tag.List) (inhabits (place i ∷ p)) allowed
cut_is_of T K (array ts) inhabits allowed (field k ∷ p) = tt
cut_is_of T K (object ms) inhabits allowed (field k ∷ p) = both_if (tag_found (raw_at (object ms) (field k ∷ p))) (tags_at K (field k ∷ p)) (allows T tag.Object) (inhabits (field k ∷ p)) allowed
cut_is_of T K (object ms) inhabits allowed (place i ∷ p) = tt
cut_is_of T K (string s) inhabits allowed (step ∷ p) = tt
cut_is_of T K (integer n) inhabits allowed (step ∷ p) = tt
cut_is_of T K (boolean b) inhabits allowed (step ∷ p) = tt
cut_is_of T K null inhabits allowed (step ∷ p) = tt
cut_is_of T K (timestamp nanos) inhabits allowed (step ∷ p) = tt
cut_is_of T K (regex n) inhabits allowed (step ∷ p) = tt

given_cut_is_of : (T : Tags) (K : Option KindTree) (v : Tree) → IsOfGiven K (Some v) → allows T (tag_of v) ≡ true → IsAllowed v (given_cut_to T K)
given_cut_is_of T None v of allowed = absurd of
given_cut_is_of T (Some K) v of allowed = cut_is_of T K v of allowed

-- an argument itself, of a tag among those to which its kind is cut down
pub argument_is_lawful : (at : ℕ) (v : Tree) (T : Tags) (K : Option KindTree) (fails : Bool) (arguments : List (Option Tree)) →
    argument_at at arguments ≡ Some v → IsOfGiven K (Some v) → IsOrdered v → allows T (tag_of v) ≡ true → IsLawful (given_cut_to T K) fails arguments (value v)
argument_is_lawful at v T K fails arguments is of ordered allowed = (
  given_cut_is_of T K v of allowed,
  ordered,
  λ n holds. (at, rw is holds),
)

pub any_tag : (P : Tag → Bool) (t : Tag) → P t ≡ true → list_any P all_tags ≡ true
any_tag P tag.Text is = grind (arith, common_steps)
any_tag P tag.Int is = grind (arith, common_steps)
any_tag P tag.Bool is = grind (arith, common_steps)
any_tag P tag.Null is = grind (arith, common_steps)
any_tag P tag.Time is = grind (arith, common_steps)
any_tag P tag.Pattern is = grind (arith, common_steps)
any_tag P tag.List is = grind (arith, common_steps)
any_tag P tag.Object is = grind (arith, common_steps)
any_tag P tag.Absent is = grind (arith, common_steps)

-- an argument of another tag than one, where the kind that was given allows it
pub other_is_given : (t : Tag) (K : Option KindTree) (v : Tree) → IsOfGiven K (Some v) → same_tag (tag_of v) t ≡ false → allows_other t K ≡ true
unfolding allows_other
other_is_given t None v of other = absurd of
other_is_given t (Some K) v of other = any_tag (λ u. tags_at K [] u && not (same_tag u t)) (tag_of v) (and_from _ _ (of []) (ap not other))

-- the tag of a value is the one alone that it is the same as
pub own_tag : (v : Tree) (t : Tag) → same_tag (tag_of v) t ≡ true → allows (only_tag t) (tag_of v) ≡ true
own_tag (string s) t same = same
own_tag (integer n) t same = same
own_tag (boolean b) t same = same
own_tag null t same = same
own_tag (timestamp nanos) t same = same
own_tag (regex n) t same = same
own_tag (array ts) t same = same
own_tag (object ms) t same = same

-- a choice of two answers
pub choice_is : (P : Answer → Type 0) (b : Bool) (x y : Answer) → (b ≡ true → P x) → (b ≡ false → P y) → P (if b then x else y)
choice_is P true x y first second = first refl
choice_is P false x y first second = second refl

-- a value of one tag, where there is one
pub told_is_one_tag : {A : Type 0} (make : A → Tree) (t : Tag) (words : List ℕ) (o : Option A) (fails : Bool) →
    ((a : A) → IsPlain (make a) × (tag_of (make a) ≡ t)) → (o ≡ None → IsTrue fails) → IsOneTag t fails (told make words o)
told_is_one_tag make t words None fails plain fail = fail refl
told_is_one_tag make t words (Some a) fails plain fail = plain a

-- the same of any value that may be answered, where the call may fail
pub told_is_lawful : {X : Type 0} (make : X → Tree) (words name : List ℕ) (o : Option X) (A : Sets) (arguments : List (Option Tree)) →
    ((x : X) → IsLawful A true arguments (value (make x))) → IsLawful A true arguments (named name (told make words o))
told_is_lawful make words name None A arguments lawful = refl
told_is_lawful make words name (Some x) A arguments lawful = lawful x
