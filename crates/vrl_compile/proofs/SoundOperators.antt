-- The operators end as they were judged, where their sides do.
use Rattle.std.proofs.Common.{◌≡◌, ℕ, length, Bool, true, false, not, ◌||◌, List, ◌++◌, Option, Some, is_some, IsTrue, refl, sym, ap, ◌∙◌, subst, append_assoc}
use Rattle.std.proofs.lemmas.Bool.{true≢false, and_from, or_right}
use Rattle.vrl_value.specs.Tag.{tag_of}
use Rattle.vrl_value.specs.Tree.{Tree, boolean, object, IsOrdered}
use Rattle.vrl_value.specs.declared.value.Tag.{Tag}
use Rattle.vrl_value.specs.declared.value.Tag.TheVariants as tag
use Rattle.vrl_diag.specs.declared.diagnostic.Diagnostic.{Diagnostic}
use Rattle.vrl_diag.specs.declared.diagnostic.Span.{Span}
use Rattle.vrl_syntax.specs.ErrorAssignments.{behind}
use Rattle.vrl_syntax.specs.Tree.{Expr, negation, binary, span_of}
use Rattle.vrl_syntax.specs.declared.root.Op.{Op}
use Rattle.vrl_syntax.specs.declared.root.Op.TheVariants as op
use Rattle.vrl_kind.specs.KindTree.{KindTree}
use Rattle.vrl_kind.specs.Kinds.{root_tags, Inhabits}
use Rattle.vrl_kind.specs.Overlay.{overlaid_at}
use Rattle.vrl_place.specs.Sets.{is_alone}
use Rattle.vrl_state.specs.States.{IsCutOf, IsJoined, RootMap}
use Rattle.vrl_state.specs.Stores.{FitsKnown, Store}
use Rattle.vrl_builtin.specs.Rows.{SettingTree}
use Rattle.vrl_store.specs.Operators.{applied, merged, negated}
use Rattle.vrl_store.specs.Outcomes.{Outcome, value, error, Ended, ends, on_value}
use Rattle.vrl_store.specs.WellFormed.{IsWellFormedEnded, IsWellFormedExpr, IsWellFormedStore}
use Rattle.vrl_judge.specs.Rules.{Judgement, IsBehind, IsMerged, IsMergedIf, IsScalar, IsThen, at, chained, if_state, is_equality, is_other, no_objects, of_pairs, scalars_at, some_pair, table_tags, when, with_codes}
use Rattle.vrl_check.specs.Judgement.{table_of}
use Rattle.vrl_resolve.specs.Meaning.{both_sides, combined, eval, eval_form}
use Rattle.vrl_compile.specs.Sound.{HasNoError, IsSoundEnd, IsSoundOutcome}
use Rattle.vrl_compile.proofs.SoundCounts.{IsToldOf, behind_is}
use Rattle.vrl_compile.proofs.SoundEnds.{EndsAs, IsGiven, IsRun, IsSoundForm, IsSoundPart, as_run, ends_alike, ends_through, first_ends, left_joins, no_error_behind, no_error_parts, possible_state, returns_alike, right_joins, second_ends, sound_on_value}
use Rattle.vrl_compile.specs.SoundLaws.{Laws}
use Rattle.vrl_compile.proofs.SoundMerge.{merge_inhabits}
use Rattle.vrl_compile.proofs.SoundTables.{IsTabled, Table, outcome_by_table}
use Rattle.vrl_compile.proofs.SoundTags.{is_alone_there, no_code, of_boolean, of_object, tag_there}
use Rattle.vrl_compile.proofs.SoundValues.{scalar_is}

-- ---- negation

negated_is_sound : Laws → (end : Judgement) (v : Tree) (store : Store) → IsScalar tag.Bool end.kind → FitsKnown store end.ok → tag_of v ≡ tag.Bool → IsSoundOutcome end (negated v) store
negated_is_sound laws end v store cut fits is = of_boolean (λ u. IsSoundOutcome end (negated u) store) v is (λ b. (scalar_is laws.cuts (boolean (not b)) end.kind (λ s. refl) cut, fits))

pub negation_is_sound : Laws → (setting : SettingTree) (known : RootMap) (span : Span) (e : Expr) (j : Judgement) (K : KindTree) → IsToldOf e j → IsScalar tag.Bool K → IsSoundPart setting (Some known) e j
    → IsSoundForm setting known (negation e) (with_codes (when (is_other tag.Bool j) (at 660 span)) (record j { kind = K }))
negation_is_sound laws setting known span e j K judges cut part none well rest store stored fits =
    let own = when (is_other tag.Bool j) (at 660 span) in
    let codes = no_error_parts j.codes own none in
    let end = with_codes own (record j { kind = K }) in
    sound_on_value (length setting.sources) j end (eval setting (j.empties ++ rest) e store) (λ v after. ends (negated v) after)
    (ends_alike j end refl refl refl) (part codes.0 well rest store stored fits) (laws.kept.expression setting (j.empties ++ rest) e store well stored)
    (λ v after given. negated_is_sound laws end v after cut given.ok
    (tag_there tag.Bool j v after (judges.cause ∙ codes.0) given.ok (no_code (is_other tag.Bool j) span 660 refl codes.1) given.kind))

-- ---- two sides

-- what is shown of an operator, told of how its left side ends and of its right side as a run
abbrev pub IsSoundOperator : ℕ → Op → Option RootMap → Judgement → Judgement → Judgement → Type 0
IsSoundOperator count o known left right whole = (first : Ended) (second : Store → Ended) → IsSoundEnd left first → IsWellFormedEnded count first → IsRun count known right second → IsSoundEnd whole (combined o first second)

-- an operator between two parts is that one between their runs: the right side has the tags behind those of the left one
pub binary_is_sound : Laws → (setting : SettingTree) (known : RootMap) (other : Option RootMap) (o : Op) (l r : Expr) (j k whole end : Judgement) → IsToldOf l j → IsBehind j k whole → end.empties ≡ whole.empties
    → HasNoError j.codes × HasNoError k.codes → IsSoundPart setting (Some known) l j → IsSoundPart setting other r k → IsSoundOperator (length setting.sources) o other j k end
    → IsWellFormedExpr (length setting.sources) l × IsWellFormedExpr (length setting.sources) r
    → (rest : List Tag) (store : Store) → IsWellFormedStore (length setting.sources) store → FitsKnown store (Some known) → IsSoundEnd end (eval_form setting (end.empties ++ rest) (binary o l r) store)
binary_is_sound laws setting known other o l r j k whole end judges is same codes left right sound well rest store stored fits =
    let tags : end.empties ++ rest ≡ j.empties ++ (k.empties ++ rest) = ap (λ ts. ts ++ rest) (same ∙ is.empties) ∙ append_assoc j.empties k.empties rest in
    subst (λ ts. IsSoundEnd end (combined o (eval setting ts l store) (λ after. eval setting (behind l ts) r after))) (sym tags)
    (subst (λ ts. IsSoundEnd end (combined o (eval setting (j.empties ++ (k.empties ++ rest)) l store) (λ after. eval setting ts r after))) (sym (behind_is judges (k.empties ++ rest)))
    (sound (eval setting (j.empties ++ (k.empties ++ rest)) l store) (eval setting (k.empties ++ rest) r)
    (left codes.0 well.0 (k.empties ++ rest) store stored fits) (laws.kept.expression setting (j.empties ++ (k.empties ++ rest)) l store well.0 stored)
    (as_run laws setting other r k rest well.1 (right codes.1 well.1))))

-- ---- operators that ask both sides

tables_ask_both : (o : Op) (table : Table) (left : Ended) (right : Store → Ended) → table_of o ≡ Some table → both_sides o left right ≡ combined o left right
tables_ask_both op.Plus table left right is = refl
tables_ask_both op.Minus table left right is = refl
tables_ask_both op.Times table left right is = refl
tables_ask_both op.Less table left right is = refl
tables_ask_both op.AtMost table left right is = refl
tables_ask_both op.More table left right is = refl
tables_ask_both op.AtLeast table left right is = refl
tables_ask_both o table left right is = absurd (cc)

equalities_ask_both : (o : Op) (left : Ended) (right : Store → Ended) → is_equality o ≡ true → both_sides o left right ≡ combined o left right
equalities_ask_both op.Equal left right is = refl
equalities_ask_both op.Unequal left right is = refl
equalities_ask_both o left right is = absurd (true≢false (sym is))

-- where each two values that may have come give an end of the whole
module _ (laws : Laws) (count : ℕ) (o : Op) (j k whole end : Judgement) (then : IsThen j k whole) (as_end : EndsAs whole end) where
  abbrev SoundByValues : Type 0
  SoundByValues = (v w : Tree) (before after : Store) → IsGiven count j v before → IsGiven count k w after → IsSoundOutcome end (applied o v w) after

  asked_is_sound : SoundByValues → (first : Ended) (second : Store → Ended) → IsSoundEnd j first → IsWellFormedEnded count first → IsRun count j.ok k second → IsSoundEnd end (both_sides o first second)
  asked_is_sound by_values first second sound well run =
      sound_on_value count j end first (λ v after. on_value (second after) (λ w last. ends (applied o v w) last)) (ends_through (first_ends laws j k whole then) as_end) sound well
      (λ v before given. sound_on_value count k end (second before) (λ w last. ends (applied o v w) last) (ends_through (second_ends laws j k whole then) as_end) (run.sound before given.stored given.ok) (run.kept before given.stored)
      (λ w after other. by_values v w before after given other))

  both_asked : SoundByValues → ((first : Ended) (second : Store → Ended) → both_sides o first second ≡ combined o first second) → IsSoundOperator count o j.ok j k end
  both_asked by_values same first second sound well run = subst (IsSoundEnd end) (same first second) (asked_is_sound by_values first second sound well run)

-- ---- equality

equal_outcome : (P : Outcome → Type 0) (o : Op) (v w : Tree) → is_equality o ≡ true → ((b : Bool) → P (value (boolean b))) → P (applied o v w)
equal_outcome P op.Equal v w is holds = holds _
equal_outcome P op.Unequal v w is holds = holds _
equal_outcome P o v w is holds = absurd (true≢false (sym is))

pub equality_is_sound : Laws → (setting : SettingTree) (known : RootMap) (span : Span) (o : Op) (l r : Expr) (j k whole : Judgement) (K : KindTree) → is_equality o ≡ true → IsToldOf l j → IsToldOf r k → IsThen j k whole → IsScalar tag.Bool K
    → IsSoundPart setting (Some known) l j → IsSoundPart setting j.ok r k → IsSoundForm setting known (binary o l r) (with_codes (chained span o l r) (record whole { kind = K }))
equality_is_sound laws setting known span o l r j k whole K is first second then cut left right none =
    let end = with_codes (chained span o l r) (record whole { kind = K }) in
    let as_end = ends_alike whole end refl refl refl in
    binary_is_sound laws setting known j.ok o l r j k whole end first then.behind refl (no_error_behind j k whole then.behind (no_error_parts whole.codes (chained span o l r) none).0) left right
    (both_asked laws (length setting.sources) o j k whole end then as_end
    (λ v w before after given other. equal_outcome (λ outcome. IsSoundOutcome end outcome after) o v w is (λ b. (scalar_is laws.cuts (boolean b) K (λ s. refl) cut, subst (FitsKnown after) (sym then.behind.ok) other.ok)))
    (λ left_end right_run. equalities_ask_both o left_end right_run is))

-- ---- operators with a table

-- what is known at a value where a pair is possible, also behind a code
more_ok : (poisoned possible : Bool) (known : Option RootMap) (store : Store) → possible ≡ true → FitsKnown store known → FitsKnown store (if_state (poisoned || possible) known)
more_ok poisoned possible known store is fits = subst (λ b. FitsKnown store (if_state b known)) (sym (or_right poisoned possible is)) fits

tabled_is_sound : Laws → (table : Table) (j k whole : Judgement) (K : KindTree) (fail : Option RootMap) (outcome : Outcome) (store : Store)
    → IsJoined whole.fail (if_state (some_pair (λ a b. not (is_some (table a b))) j.kind k.kind) whole.ok) fail → FitsKnown store whole.ok → IsTabled table j.kind k.kind K outcome → IsSoundOutcome (of_pairs table j k whole K fail) outcome store
tabled_is_sound laws table j k whole K fail (value u) store fails fits is = (is.0, more_ok whole.poisoned _ whole.ok store is.1 fits)
tabled_is_sound laws table j k whole K fail (error text) store fails fits is = right_joins laws whole.fail _ fail fails store (possible_state _ whole.ok store is fits)
tabled_is_sound laws table j k whole K fail outcome store fails fits is = absurd is

pub table_is_sound : Laws → (setting : SettingTree) (known : RootMap) (span : Span) (o : Op) (table : Table) (l r : Expr) (j k whole : Judgement) (K : KindTree) (fail : Option RootMap) → table_of o ≡ Some table → IsToldOf l j → IsToldOf r k → IsThen j k whole
    → IsCutOf (scalars_at (table_tags table j.kind k.kind)) K → IsJoined whole.fail (if_state (some_pair (λ a b. not (is_some (table a b))) j.kind k.kind) whole.ok) fail
    → IsSoundPart setting (Some known) l j → IsSoundPart setting j.ok r k → IsSoundForm setting known (binary o l r) (of_pairs table j k (with_codes (chained span o l r) whole) K fail)
table_is_sound laws setting known span o table l r j k whole K fail is first second then cut fails left right none =
    let coded = with_codes (chained span o l r) whole in
    let end = of_pairs table j k coded K fail in
    let as_end : EndsAs whole end = record { fail = left_joins laws whole.fail _ fail fails; returns = returns_alike whole end refl refl } in
    binary_is_sound laws setting known j.ok o l r j k whole end first then.behind refl (no_error_behind j k whole then.behind (no_error_parts whole.codes (chained span o l r) none).0) left right
    (both_asked laws (length setting.sources) o j k whole end then as_end
    (λ v w before after given other. tabled_is_sound laws table j k coded K fail (applied o v w) after fails (subst (FitsKnown after) (sym then.behind.ok) other.ok)
    (outcome_by_table laws.cuts o table v w j.kind k.kind K is cut given.kind other.kind))
    (λ left_end right_run. tables_ask_both o table left_end right_run is))

-- ---- merges

merged_is_sound : Laws → (end : Judgement) (K L : KindTree) (v w : Tree) (store : Store) → IsCutOf (overlaid_at K L) end.kind → FitsKnown store end.ok → tag_of v ≡ tag.Object → tag_of w ≡ tag.Object → Inhabits v K → Inhabits w L → IsOrdered w
    → IsSoundOutcome end (merged v w) store
merged_is_sound laws end K L v w store cut fits left_is right_is =
    of_object (λ u. Inhabits u K → Inhabits w L → IsOrdered w → IsSoundOutcome end (merged u w) store) v left_is
    (λ ms. of_object (λ u. Inhabits (object ms) K → Inhabits u L → IsOrdered u → IsSoundOutcome end (merged (object ms) u) store) w right_is
    (λ ns of_left of_right ordered. (merge_inhabits laws.members laws.cuts ms ns K L end.kind ordered cut of_left of_right, fits)))

-- two sides that are each exactly an object
both_objects : (j k : Judgement) (K : KindTree) → IsTrue (is_alone (root_tags j.kind) tag.Object) → IsTrue (is_alone (root_tags k.kind) tag.Object) → IsMerged j.kind k.kind K → IsCutOf (overlaid_at j.kind k.kind) K
both_objects j k K left right is = subst (λ b. IsMergedIf b j.kind k.kind K) (and_from _ _ left right) is

-- a merge of two sides of which no code says that they aren't objects
merge_of_sides : Laws → (count : ℕ) (left_span right_span : Span) (j k whole : Judgement) (K : KindTree) (poisoned : Bool) (codes : List Diagnostic) → IsThen j k whole → IsMerged j.kind k.kind K
    → j.poisoned ≡ false → k.poisoned ≡ false → HasNoError (no_objects left_span right_span j k)
    → IsSoundOperator count op.Merge j.ok j k (record whole { kind = K; poisoned = poisoned; codes = codes })
merge_of_sides laws count left_span right_span j k whole K poisoned codes then is left_clean right_clean none =
    let end = record whole { kind = K; poisoned = poisoned; codes = codes } in
    let apart = no_error_parts (when (is_other tag.Object j) (at 652 left_span)) (when (is_other tag.Object k) (at 652 right_span)) none in
    let left = no_code (is_other tag.Object j) left_span 652 refl apart.0 in
    let right = no_code (is_other tag.Object k) right_span 652 refl apart.1 in
    both_asked laws count op.Merge j k whole end then (ends_alike whole end refl refl refl)
    (λ v w before after given other. merged_is_sound laws end j.kind k.kind v w after
    (both_objects j k K (is_alone_there tag.Object j before left_clean given.ok left) (is_alone_there tag.Object k after right_clean other.ok right) is)
    (subst (FitsKnown after) (sym then.behind.ok) other.ok)
    (tag_there tag.Object j v before left_clean given.ok left given.kind) (tag_there tag.Object k w after right_clean other.ok right other.kind)
    given.kind other.kind other.well.ordered)
    (λ first second. refl)

pub merge_is_sound : Laws → (setting : SettingTree) (known : RootMap) (l r : Expr) (j k whole : Judgement) (K : KindTree) → IsToldOf l j → IsToldOf r k → IsThen j k whole → IsMerged j.kind k.kind K
    → IsSoundPart setting (Some known) l j → IsSoundPart setting j.ok r k → IsSoundForm setting known (binary op.Merge l r) (with_codes (no_objects (span_of l) (span_of r) j k) (record whole { kind = K }))
merge_is_sound laws setting known l r j k whole K first second then is left right none =
    let own = no_objects (span_of l) (span_of r) j k in
    let end = with_codes own (record whole { kind = K }) in
    let all = no_error_parts whole.codes own none in
    let codes = no_error_behind j k whole then.behind all.0 in
    binary_is_sound laws setting known j.ok op.Merge l r j k whole end first then.behind refl codes left right
    (merge_of_sides laws (length setting.sources) (span_of l) (span_of r) j k whole K end.poisoned end.codes then is (first.cause ∙ codes.0) (second.cause ∙ codes.1) all.1)
