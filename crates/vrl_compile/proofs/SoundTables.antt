-- The operators that take some pairs of tags: each gives a value exactly where its table has the pair, and then of the tag that stands
-- there; else an error. So the kind that the judgement makes of a table holds each such value.
use Rattle.std.proofs.Common.{◌≡◌, Bool, not, ◌&&◌, [], Option, Some, None, is_some, IsTrue, refl, ap, subst}
use Rattle.std.proofs.lemmas.Bool.{and_from}
use Rattle.std.specs.List.{list_any}
use Rattle.vrl_value.specs.Tag.{tag_of}
use Rattle.vrl_value.specs.Tree.{Tree, string, integer, null, timestamp}
use Rattle.vrl_value.specs.declared.value.Tag.{Tag}
use Rattle.vrl_syntax.specs.declared.root.Op.{Op}
use Rattle.vrl_syntax.specs.declared.root.Op.TheVariants as op
use Rattle.vrl_kind.specs.KindTree.{KindTree}
use Rattle.vrl_kind.specs.Kinds.{root_tags, Inhabits}
use Rattle.vrl_kind.specs.Tags.{all_tags}
use Rattle.vrl_state.specs.Laws.{CutsHoldTheAllowed}
use Rattle.vrl_state.specs.States.{IsCutOf}
use Rattle.vrl_store.specs.Operators.{applied, comparison_of, difference_of, product_of, sum_of}
use Rattle.vrl_store.specs.Outcomes.{Outcome, value, error}
use Rattle.vrl_judge.specs.Rules.{is_tag, number_tag, order_tag, scalars_at, some_pair, some_tag, sum_tag, table_tags}
use Rattle.vrl_check.specs.Judgement.{table_of}
use Rattle.vrl_compile.proofs.SoundTags.{some_tag-intro}
use Rattle.vrl_compile.proofs.SoundValues.{HasNoPart, of_scalars, same_tag-itself}

-- ---- tables

-- a value of this tag without parts, or an error where there is none
abbrev EndsAsTabled : Option Tag → Outcome → Type 0
EndsAsTabled (Some t) (value v) = (tag_of v ≡ t) × HasNoPart v
EndsAsTabled None (error text) = Unit {0}
EndsAsTabled o outcome = ⊥

sum_is_tabled : (v w : Tree) → EndsAsTabled (sum_tag (tag_of v) (tag_of w)) (sum_of v w)
sum_is_tabled (integer m) (integer n) = (refl, λ s. refl)
sum_is_tabled (string s) (string t) = (refl, λ s. refl)
sum_is_tabled (string s) null = (refl, λ s. refl)
sum_is_tabled null (string t) = (refl, λ s. refl)
sum_is_tabled v w = tt

difference_is_tabled : (v w : Tree) → EndsAsTabled (number_tag (tag_of v) (tag_of w)) (difference_of v w)
difference_is_tabled (integer m) (integer n) = (refl, λ s. refl)
difference_is_tabled v w = tt

product_is_tabled : (v w : Tree) → EndsAsTabled (number_tag (tag_of v) (tag_of w)) (product_of v w)
product_is_tabled (integer m) (integer n) = (refl, λ s. refl)
product_is_tabled v w = tt

comparison_is_tabled : (o : Op) (v w : Tree) → EndsAsTabled (order_tag (tag_of v) (tag_of w)) (comparison_of o v w)
comparison_is_tabled o (integer m) (integer n) = (refl, λ s. refl)
comparison_is_tabled o (string s) (string t) = (refl, λ s. refl)
comparison_is_tabled o (timestamp m) (timestamp n) = (refl, λ s. refl)
comparison_is_tabled o v w = tt

-- the tag of what each pair of tags gives, where it gives a value
abbrev pub Table : Type 0
Table = Tag → Tag → Option Tag

-- an operator that has this table keeps to that one
by_same_table : (table other : Table) (v w : Tree) (outcome : Outcome) → Some table ≡ Some other → EndsAsTabled (table (tag_of v) (tag_of w)) outcome → EndsAsTabled (other (tag_of v) (tag_of w)) outcome
by_same_table table other v w outcome is ends = let same : table ≡ other = cc in subst (λ t. EndsAsTabled (t (tag_of v) (tag_of w)) outcome) same ends

-- the tags of two values settle what an operator with a table makes of them
applied_is_tabled : (o : Op) (table : Table) (v w : Tree) → table_of o ≡ Some table → EndsAsTabled (table (tag_of v) (tag_of w)) (applied o v w)
applied_is_tabled op.Plus table v w is = by_same_table sum_tag table v w (sum_of v w) is (sum_is_tabled v w)
applied_is_tabled op.Minus table v w is = by_same_table number_tag table v w (difference_of v w) is (difference_is_tabled v w)
applied_is_tabled op.Times table v w is = by_same_table number_tag table v w (product_of v w) is (product_is_tabled v w)
applied_is_tabled op.Less table v w is = by_same_table order_tag table v w (comparison_of op.Less v w) is (comparison_is_tabled op.Less v w)
applied_is_tabled op.AtMost table v w is = by_same_table order_tag table v w (comparison_of op.AtMost v w) is (comparison_is_tabled op.AtMost v w)
applied_is_tabled op.More table v w is = by_same_table order_tag table v w (comparison_of op.More v w) is (comparison_is_tabled op.More v w)
applied_is_tabled op.AtLeast table v w is = by_same_table order_tag table v w (comparison_of op.AtLeast v w) is (comparison_is_tabled op.AtLeast v w)
applied_is_tabled o table v w is = absurd (cc)

-- ---- kinds made of a table

-- one pair that passes is a pair that passes
some_pair-intro : (test : Tag → Tag → Bool) (K L : KindTree) (a b : Tag) → IsTrue (root_tags K a) → IsTrue (root_tags L b) → IsTrue (test a b) → IsTrue (some_pair test K L)
unfolding some_tag
some_pair-intro test K L a b in_first in_second passes =
    some_tag-intro (λ a. root_tags K a && list_any (λ b. root_tags L b && test a b) all_tags) a (and_from _ _ in_first (some_tag-intro (λ b. root_tags L b && test a b) b (and_from _ _ in_second passes)))

-- a tag that one pair of tags gives is in the kind
table_tags-intro : (table : Table) (K L : KindTree) (a b t : Tag) → IsTrue (root_tags K a) → IsTrue (root_tags L b) → IsTrue (is_tag (table a b) t) → IsTrue (table_tags table K L t)
unfolding table_tags
table_tags-intro table K L a b t = some_pair-intro (λ a b. is_tag (table a b) t) K L a b

-- the tag that a pair gives is that tag
is_tag-intro : (o : Option Tag) (t u : Tag) → o ≡ Some t → u ≡ t → IsTrue (is_tag o u)
is_tag-intro o t u is same = rw (is, same) (same_tag-itself t)

-- a value is of the kind M, and then a pair of the table is possible; at an error a pair that it hasn't
abbrev pub IsTabled : Table → KindTree → KindTree → KindTree → Outcome → Type 0
IsTabled table K L M (value u) = Inhabits u M × IsTrue (some_pair (λ a b. is_some (table a b)) K L)
IsTabled table K L M (error text) = IsTrue (some_pair (λ a b. not (is_some (table a b))) K L)
IsTabled table K L M other = ⊥

by_tags : CutsHoldTheAllowed → (table : Table) (o : Option Tag) (outcome : Outcome) (K L M : KindTree) (a b : Tag) → IsCutOf (scalars_at (table_tags table K L)) M → IsTrue (root_tags K a) → IsTrue (root_tags L b) → table a b ≡ o → EndsAsTabled o outcome
    → IsTabled table K L M outcome
by_tags cuts table (Some t) (value u) K L M a b cut in_first in_second is ends = (
  of_scalars cuts u (table_tags table K L) M cut ends.1 (table_tags-intro table K L a b (tag_of u) in_first in_second (is_tag-intro _ t (tag_of u) is ends.0)),
  some_pair-intro (λ a b. is_some (table a b)) K L a b in_first in_second (ap is_some is),
)
by_tags cuts table None (error text) K L M a b cut in_first in_second is ends = some_pair-intro (λ a b. not (is_some (table a b))) K L a b in_first in_second (ap (λ o. not (is_some o)) is)
by_tags cuts table o outcome K L M a b cut in_first in_second is ends = absurd ends

-- what an operator with a table makes of two values of these kinds
pub outcome_by_table : CutsHoldTheAllowed → (o : Op) (table : Table) (v w : Tree) (K L M : KindTree) → table_of o ≡ Some table → IsCutOf (scalars_at (table_tags table K L)) M → Inhabits v K → Inhabits w L → IsTabled table K L M (applied o v w)
outcome_by_table cuts o table v w K L M is cut of_first of_second =
    by_tags cuts table _ (applied o v w) K L M (tag_of v) (tag_of w) cut (of_first []) (of_second []) refl (applied_is_tabled o table v w is)
