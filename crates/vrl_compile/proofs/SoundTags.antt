-- Tags of values against the tags that a kind allows at its root, and against the codes of a judgement.
use Rattle.std.proofs.Common.{◌≡◌, ℕ, Bool, Option, Some, None, true, false, not, ◌&&◌, ◌||◌, [], IsTrue, refl, sym, ap, ◌∙◌, arith}
use Rattle.std.proofs.lemmas.Bool.{true≢false, false≢true, and_from, or_left, or_parts, or_right}
use Rattle.std.proofs.lemmas.Grind.{common_steps}
use Rattle.std.specs.List.{list_any}
use Rattle.vrl_value.specs.Tag.{tag_of}
use Rattle.vrl_value.specs.Tree.{Tree, boolean, object, Members}
use Rattle.vrl_value.specs.declared.value.Tag.{Tag}
use Rattle.vrl_value.specs.declared.value.Tag.TheVariants as tag
use Rattle.vrl_diag.specs.declared.diagnostic.Span.{Span}
use Rattle.vrl_kind.specs.KindTree.{KindTree}
use Rattle.vrl_kind.specs.Kinds.{root_tags, Inhabits}
use Rattle.vrl_kind.specs.Tags.{Tags, all_tags, same_tag}
use Rattle.vrl_place.specs.Sets.{has_other, is_alone}
use Rattle.vrl_state.specs.States.{RootMap}
use Rattle.vrl_state.specs.Stores.{FitsKnown, Store}
use Rattle.vrl_diag.specs.Refusal.{is_error}
use Rattle.vrl_judge.specs.Rules.{Judgement, at, is_alive, is_other, may_be_no_truth, may_be_truth, some_tag, when}
use Rattle.vrl_compile.specs.Sound.{HasNoError}

-- a tag that passes a test is one of them all
pub some_tag-intro : (test : Tags) (t : Tag) → IsTrue (test t) → IsTrue (list_any test all_tags)
some_tag-intro test tag.Text h = grind (arith, common_steps)
some_tag-intro test tag.Int h = grind (arith, common_steps)
some_tag-intro test tag.Bool h = grind (arith, common_steps)
some_tag-intro test tag.Null h = grind (arith, common_steps)
some_tag-intro test tag.Time h = grind (arith, common_steps)
some_tag-intro test tag.Pattern h = grind (arith, common_steps)
some_tag-intro test tag.List h = grind (arith, common_steps)
some_tag-intro test tag.Object h = grind (arith, common_steps)
some_tag-intro test tag.Absent h = grind (arith, common_steps)

-- two tags that are the same are one
same_tag-one : (t u : Tag) → IsTrue (same_tag t u) → t ≡ u
same_tag-one tag.Text tag.Text h = refl
same_tag-one tag.Int tag.Int h = refl
same_tag-one tag.Bool tag.Bool h = refl
same_tag-one tag.Null tag.Null h = refl
same_tag-one tag.Time tag.Time h = refl
same_tag-one tag.Pattern tag.Pattern h = refl
same_tag-one tag.List tag.List h = refl
same_tag-one tag.Object tag.Object h = refl
same_tag-one tag.Absent tag.Absent h = refl
same_tag-one t u h = absurd (false≢true h)

-- ---- one tag alone

-- an allowed tag that isn't t is another one
has_other-intro : (T : Tags) (t u : Tag) → IsTrue (T u) → same_tag u t ≡ false → IsTrue (has_other T t)
unfolding has_other
has_other-intro T t u allowed other = some_tag-intro (λ u. T u && not (same_tag u t)) u (and_from _ _ allowed (ap not other))

-- so t isn't alone beside it
pub not_alone : (T : Tags) (t u : Tag) → IsTrue (T u) → same_tag u t ≡ false → is_alone T t ≡ false
not_alone T t u allowed other = ap (λ b. T t && not b) (has_other-intro T t u allowed other) ∙ and_false (T t) where
  and_false : (b : Bool) → (b && false) ≡ false
  and_false true = refl
  and_false false = refl

-- where t is alone, each allowed tag is t
alone_tag : (T : Tags) (t u : Tag) → IsTrue (is_alone T t) → IsTrue (T u) → u ≡ t
alone_tag T t u alone allowed = by_test (same_tag u t) refl where
  by_test : (b : Bool) → same_tag u t ≡ b → u ≡ t
  by_test true is = same_tag-one u t is
  by_test false is = absurd (true≢false (sym alone ∙ not_alone T t u allowed is))

-- ---- values by their tag

-- what holds of booleans holds of each value with their tag
pub of_boolean : (P : Tree → Type 0) (v : Tree) → tag_of v ≡ tag.Bool → ((b : Bool) → P (boolean b)) → P v
of_boolean P (boolean b) is holds = holds b
of_boolean P v is holds = absurd (cc)

-- and so of objects
pub of_object : (P : Tree → Type 0) (v : Tree) → tag_of v ≡ tag.Object → ((ms : Members) → P (object ms)) → P v
of_object P (object ms) is holds = holds ms
of_object P v is holds = absurd (cc)

-- ---- truth

pub boolean_may_be_truth : (K : KindTree) → IsTrue (root_tags K tag.Bool) → IsTrue (may_be_truth K)
boolean_may_be_truth K allowed = or_left _ _ allowed

pub null_may_be_truth : (K : KindTree) → IsTrue (root_tags K tag.Null) → IsTrue (may_be_truth K)
null_may_be_truth K allowed = or_right _ _ allowed

-- another tag is no truth
pub other_is_no_truth : (K : KindTree) (t : Tag) → IsTrue (root_tags K t) → (same_tag t tag.Bool || same_tag t tag.Null) ≡ false → IsTrue (may_be_no_truth K)
unfolding some_tag
other_is_no_truth K t allowed other = some_tag-intro (λ t. root_tags K t && not (same_tag t tag.Bool || same_tag t tag.Null)) t (and_from _ _ allowed (ap not other))

-- ---- what no code says

-- an error code that isn't there had no cause
pub no_code : (cause : Bool) (span : Span) (code : ℕ) → is_error (record { code = code; span = span }) ≡ true → HasNoError (when cause (at code span)) → cause ≡ false
no_code false span code wrong none = refl
no_code true span code wrong none = absurd (true≢false (sym wrong ∙ (or_parts _ _ none).0))

-- a state that a store fits is alive
alive : (known : Option RootMap) (store : Store) → FitsKnown store known → is_alive known ≡ true
alive None store fits = absurd fits
alive (Some roots) store fits = refl

-- where no code says that a part isn't exactly of a tag, it is exactly of it
pub is_alone_there : (t : Tag) (j : Judgement) (store : Store) → j.poisoned ≡ false → FitsKnown store j.ok → is_other t j ≡ false → IsTrue (is_alone (root_tags j.kind) t)
is_alone_there t j store clean fits none = by_tests (is_alive j.ok) j.poisoned (is_alone (root_tags j.kind) t) (alive j.ok store fits) clean none where
  by_tests : (lives poisoned alone : Bool) → lives ≡ true → poisoned ≡ false → ((lives && not poisoned) && not alone) ≡ false → alone ≡ true
  by_tests lives poisoned true lives_is clean_is none_is = refl
  by_tests true false false lives_is clean_is none_is = absurd (true≢false none_is)
  by_tests true true false lives_is clean_is none_is = absurd (true≢false clean_is)
  by_tests false poisoned false lives_is clean_is none_is = absurd (true≢false (sym lives_is))

-- and so is each value of it
pub tag_there : (t : Tag) (j : Judgement) (v : Tree) (store : Store) → j.poisoned ≡ false → FitsKnown store j.ok → is_other t j ≡ false → Inhabits v j.kind → tag_of v ≡ t
tag_there t j v store clean fits none of_kind = alone_tag (root_tags j.kind) t (tag_of v) (is_alone_there t j store clean fits none) (of_kind [])
