-- `&&`, `||` and `??` end as they were judged, where their sides do.
use Rattle.std.proofs.Common.{◌≡◌, ℕ, length, Bool, true, false, not, ◌||◌, List, [], ◌∷◌, Option, Some, refl, ap, if◌then◌else◌}
use Rattle.std.proofs.lemmas.Bool.{and_from, or_left, or_right}
use Rattle.std.proofs.lemmas.Option.{IfSome_then}
use Rattle.vrl_value.specs.Look.{field, place, raw_at, tag_found}
use Rattle.vrl_value.specs.Tag.{tag_of}
use Rattle.vrl_value.specs.Tree.{Tree, boolean, null}
use Rattle.vrl_value.specs.declared.value.Tag.TheVariants as tag
use Rattle.vrl_diag.specs.declared.diagnostic.Diagnostic.{Diagnostic}
use Rattle.vrl_diag.specs.declared.diagnostic.Span.{Span}
use Rattle.vrl_syntax.specs.Tree.{Expr, binary}
use Rattle.vrl_syntax.specs.declared.root.Op.TheVariants as op
use Rattle.vrl_kind.specs.KindTree.{KindTree}
use Rattle.vrl_kind.specs.Kinds.{root_tags, Inhabits}
use Rattle.vrl_kind.specs.Sets.{IsAllowed}
use Rattle.vrl_kind.specs.Tags.{same_tag}
use Rattle.vrl_place.specs.Sets.{is_alone}
use Rattle.vrl_state.specs.States.{IsCutOf, IsEither, IsJoined, RootMap}
use Rattle.vrl_state.specs.Stores.{FitsKnown, Store}
use Rattle.vrl_builtin.specs.Rows.{SettingTree}
use Rattle.vrl_store.specs.Operators.{is_falsy, truth_of}
use Rattle.vrl_store.specs.Outcomes.{value, Ended, ends, on_value}
use Rattle.vrl_judge.specs.Rules.{Judgement, IsBehind, IsScalar, IsThen, at, if_state, is_fallible, may_be_no_truth, may_be_truth, or_else_at, when, with_codes}
use Rattle.vrl_compile.specs.Sound.{IsSoundEnd, IsSoundOutcome}
use Rattle.vrl_compile.proofs.SoundCounts.{IsToldOf}
use Rattle.vrl_compile.proofs.SoundEnds.{EndsAs, IsGiven, IsRun, IsSoundForm, IsSoundPart, ends_alike, ends_through, first_ends, first_returns, left_either, left_joins, no_error_behind, no_error_parts, possible_state, returns_alike, returns_through, right_either, right_joins, second_ends, second_returns, sound_as, sound_on_error, sound_on_value}
use Rattle.vrl_compile.specs.SoundLaws.{Laws}
use Rattle.vrl_compile.proofs.SoundOperators.{IsSoundOperator, binary_is_sound}
use Rattle.vrl_compile.proofs.SoundTags.{boolean_may_be_truth, not_alone, null_may_be_truth, other_is_no_truth}
use Rattle.vrl_compile.proofs.SoundValues.{scalar_is}

-- ---- `&&`

module _ (laws : Laws) (count : ℕ) (j k whole : Judgement) (K : KindTree) (left_fail part_fail ok fail : Option RootMap) (behind : IsBehind j k whole) (cut : IsScalar tag.Bool K)
    (oks : IsJoined (if_state (may_be_truth j.kind) j.ok) (if_state (may_be_truth k.kind) k.ok) ok)
    (left_fails : IsJoined j.fail (if_state (may_be_no_truth j.kind) j.ok) left_fail) (part_fails : IsJoined left_fail k.fail part_fail) (fails : IsJoined part_fail (if_state (may_be_no_truth k.kind) k.ok) fail) where
  abbrev conjunction : Judgement
  conjunction = record whole { kind = K; ok = ok; fail = fail }

  -- what is known where the left side failed, also by its value
  left_failed : (store : Store) → FitsKnown store left_fail → FitsKnown store fail
  left_failed store fits = left_joins laws part_fail _ fail fails store (left_joins laws left_fail k.fail part_fail part_fails store fits)

  left_of_conjunction : EndsAs j conjunction
  left_of_conjunction = record {
    fail = λ store fits. left_failed store (left_joins laws j.fail _ left_fail left_fails store fits);
    returns = returns_through (first_returns laws j k whole behind) (returns_alike whole conjunction refl refl);
  }

  right_of_conjunction : EndsAs k conjunction
  right_of_conjunction = record {
    fail = λ store fits. left_joins laws part_fail _ fail fails store (right_joins laws left_fail k.fail part_fail part_fails store fits);
    returns = returns_through (second_returns laws j k whole behind) (returns_alike whole conjunction refl refl);
  }

  -- the right side's value is asked
  truth_of_right : (w : Tree) (after : Store) → IsGiven count k w after → IsSoundOutcome conjunction (truth_of w) after
  truth_of_right null after given = (scalar_is laws.cuts (boolean false) K (λ s. refl) cut, right_joins laws _ _ ok oks after (possible_state _ k.ok after (null_may_be_truth k.kind (given.kind [])) given.ok))
  truth_of_right (boolean b) after given = (scalar_is laws.cuts (boolean b) K (λ s. refl) cut, right_joins laws _ _ ok oks after (possible_state _ k.ok after (boolean_may_be_truth k.kind (given.kind [])) given.ok))
  truth_of_right w after given = right_joins laws part_fail _ fail fails after (possible_state _ k.ok after (other_is_no_truth k.kind (tag_of w) (given.kind []) refl) given.ok)

  -- what follows the left side's value
  abbrev conjunction_behind : Tree → Store → (Store → Ended) → Ended
  conjunction_behind v after second = if is_falsy v then ends (value (boolean false)) after else on_value (ends (truth_of v) after) (λ t same. on_value (second same) (λ w last. ends (truth_of w) last))

  sound_behind_left : (v : Tree) (after : Store) (second : Store → Ended) → IsGiven count j v after → IsRun count (if_state (root_tags j.kind tag.Bool) j.ok) k second → IsSoundEnd conjunction (conjunction_behind v after second)
  sound_behind_left null after second given run = (scalar_is laws.cuts (boolean false) K (λ s. refl) cut, left_joins laws _ _ ok oks after (possible_state _ j.ok after (null_may_be_truth j.kind (given.kind [])) given.ok))
  sound_behind_left (boolean false) after second given run = (scalar_is laws.cuts (boolean false) K (λ s. refl) cut, left_joins laws _ _ ok oks after (possible_state _ j.ok after (boolean_may_be_truth j.kind (given.kind [])) given.ok))
  sound_behind_left (boolean true) after second given run =
      sound_on_value count k conjunction (second after) (λ w last. ends (truth_of w) last) right_of_conjunction
      (run.sound after given.stored (possible_state _ j.ok after (given.kind []) given.ok)) (run.kept after given.stored) truth_of_right
  sound_behind_left v after second given run = left_failed after (right_joins laws j.fail _ left_fail left_fails after (possible_state _ j.ok after (other_is_no_truth j.kind (tag_of v) (given.kind []) refl) given.ok))

  conjunction_of_sides : IsSoundOperator count op.And (if_state (root_tags j.kind tag.Bool) j.ok) j k conjunction
  conjunction_of_sides first second sound well run = sound_on_value count j conjunction first (λ v after. conjunction_behind v after second) left_of_conjunction sound well (λ v after given. sound_behind_left v after second given run)

pub conjunction_is_sound : Laws → (setting : SettingTree) (known : RootMap) (l r : Expr) (j k whole : Judgement) (K : KindTree) (left_fail part_fail ok fail : Option RootMap)
    → IsToldOf l j → IsBehind j k whole → IsScalar tag.Bool K
    → IsJoined (if_state (may_be_truth j.kind) j.ok) (if_state (may_be_truth k.kind) k.ok) ok
    → IsJoined j.fail (if_state (may_be_no_truth j.kind) j.ok) left_fail → IsJoined left_fail k.fail part_fail → IsJoined part_fail (if_state (may_be_no_truth k.kind) k.ok) fail
    → IsSoundPart setting (Some known) l j → IsSoundPart setting (if_state (root_tags j.kind tag.Bool) j.ok) r k → IsSoundForm setting known (binary op.And l r) (record whole { kind = K; ok = ok; fail = fail })
conjunction_is_sound laws setting known l r j k whole K left_fail part_fail ok fail first behind cut oks left_fails part_fails fails left right none =
    binary_is_sound laws setting known (if_state (root_tags j.kind tag.Bool) j.ok) op.And l r j k whole (record whole { kind = K; ok = ok; fail = fail }) first behind refl (no_error_behind j k whole behind none) left right
    (conjunction_of_sides laws (length setting.sources) j k whole K left_fail part_fail ok fail behind cut oks left_fails part_fails fails)

-- ---- `||`

-- a value but null of the left kind is of the left kind without null
left_is_allowed : (v : Tree) (K L : KindTree) → same_tag (tag_of v) tag.Null ≡ false → Inhabits v K → IsAllowed v (or_else_at K L)
left_is_allowed v K L other of_kind [] = or_left _ _ (and_from _ _ (of_kind []) (ap not other))
left_is_allowed v K L other of_kind (field n ∷ p) = IfSome_then (tag_found (raw_at v (field n ∷ p))) (of_kind (field n ∷ p)) (λ t allowed. or_left _ _ (and_from _ _ allowed refl))
left_is_allowed v K L other of_kind (place i ∷ p) = IfSome_then (tag_found (raw_at v (place i ∷ p))) (of_kind (place i ∷ p)) (λ t allowed. or_left _ _ (and_from _ _ allowed refl))

right_is_allowed : (v : Tree) (K L : KindTree) → Inhabits v L → IsAllowed v (or_else_at K L)
right_is_allowed v K L of_kind p = IfSome_then (tag_found (raw_at v p)) (of_kind p) (λ t allowed. or_right _ _ allowed)

module _ (laws : Laws) (count : ℕ) (j k whole : Judgement) (K : KindTree) (ok : Option RootMap) (in_order : IsThen j k whole) (cut : IsCutOf (or_else_at j.kind k.kind) K)
    (oks : IsJoined (if_state (not (is_alone (root_tags j.kind) tag.Null)) j.ok) k.ok ok) where
  abbrev disjunction : Judgement
  disjunction = record whole { kind = K; ok = ok }

  as_disjunction : EndsAs whole disjunction
  as_disjunction = ends_alike whole disjunction refl refl refl

  -- the right side's end is the whole's
  right_is_taken : (second : Store → Ended) (after : Store) → IsSoundEnd k (second after) → IsSoundEnd disjunction (second after)
  right_is_taken second after sound = sound_as k disjunction (second after) (ends_through (second_ends laws j k whole in_order) as_disjunction)
      (record { kind = λ w of_kind. laws.cuts w (or_else_at j.kind k.kind) K cut (right_is_allowed w j.kind k.kind of_kind); ok = right_joins laws _ k.ok ok oks }) sound

  -- the left side's value is the whole's
  left_is_taken : (v : Tree) (after : Store) → same_tag (tag_of v) tag.Null ≡ false → IsGiven count j v after → IsSoundEnd disjunction (ends (value v) after)
  left_is_taken v after other given = (
    laws.cuts v (or_else_at j.kind k.kind) K cut (left_is_allowed v j.kind k.kind other given.kind),
    left_joins laws _ k.ok ok oks after (possible_state _ j.ok after (ap not (not_alone (root_tags j.kind) tag.Null (tag_of v) (given.kind []) other)) given.ok),
  )

  sound_behind_value : (v : Tree) (after : Store) (second : Store → Ended) → IsGiven count j v after → IsRun count (if_state (may_be_truth j.kind) j.ok) k second → IsSoundEnd disjunction (if is_falsy v then second after else ends (value v) after)
  sound_behind_value null after second given run = right_is_taken second after (run.sound after given.stored (possible_state _ j.ok after (null_may_be_truth j.kind (given.kind [])) given.ok))
  sound_behind_value (boolean false) after second given run = right_is_taken second after (run.sound after given.stored (possible_state _ j.ok after (boolean_may_be_truth j.kind (given.kind [])) given.ok))
  sound_behind_value (boolean true) after second given run = left_is_taken (boolean true) after refl given
  sound_behind_value v after second given run = left_is_taken v after refl given

  disjunction_of_sides : IsSoundOperator count op.Or (if_state (may_be_truth j.kind) j.ok) j k disjunction
  disjunction_of_sides first second sound well run =
      sound_on_value count j disjunction first (λ v after. if is_falsy v then second after else ends (value v) after) (ends_through (first_ends laws j k whole in_order) as_disjunction) sound well
      (λ v after given. sound_behind_value v after second given run)

pub disjunction_is_sound : Laws → (setting : SettingTree) (known : RootMap) (l r : Expr) (j k whole : Judgement) (K : KindTree) (ok : Option RootMap)
    → IsToldOf l j → IsThen j k whole → IsCutOf (or_else_at j.kind k.kind) K → IsJoined (if_state (not (is_alone (root_tags j.kind) tag.Null)) j.ok) k.ok ok
    → IsSoundPart setting (Some known) l j → IsSoundPart setting (if_state (may_be_truth j.kind) j.ok) r k → IsSoundForm setting known (binary op.Or l r) (record whole { kind = K; ok = ok })
disjunction_is_sound laws setting known l r j k whole K ok first in_order cut oks left right none =
    binary_is_sound laws setting known (if_state (may_be_truth j.kind) j.ok) op.Or l r j k whole (record whole { kind = K; ok = ok }) first in_order.behind refl (no_error_behind j k whole in_order.behind none) left right
    (disjunction_of_sides laws (length setting.sources) j k whole K ok in_order cut oks)

-- ---- `??`

coalescing_of_sides : Laws → (count : ℕ) (j k whole : Judgement) (K : KindTree) (ok : Option RootMap) (poisoned : Bool) (codes : List Diagnostic) → IsBehind j k whole → IsEither j.kind k.kind K → IsJoined j.ok k.ok ok
    → IsSoundOperator count op.Coalesce j.fail j k (record whole { kind = K; ok = ok; fail = k.fail; poisoned = poisoned; codes = codes })
coalescing_of_sides laws count j k whole K ok poisoned codes behind either oks first second sound well run =
    let end = record whole { kind = K; ok = ok; fail = k.fail; poisoned = poisoned; codes = codes } in
    let changed = returns_alike whole end refl refl in
    sound_on_error count j end first (λ text after. second after) (returns_through (first_returns laws j k whole behind) changed)
    (record { kind = left_either laws j.kind k.kind K either; ok = left_joins laws j.ok k.ok ok oks }) sound well
    (λ text after failed. sound_as k end (second after)
    (record { fail = λ store fails. fails; returns = returns_through (second_returns laws j k whole behind) changed })
    (record { kind = right_either laws j.kind k.kind K either; ok = right_joins laws j.ok k.ok ok oks })
    (run.sound after failed.stored failed.fail))

pub coalescing_is_sound : Laws → (setting : SettingTree) (known : RootMap) (span : Span) (l r : Expr) (j k whole : Judgement) (K : KindTree) (ok : Option RootMap)
    → IsToldOf l j → IsBehind j k whole → IsEither j.kind k.kind K → IsJoined j.ok k.ok ok
    → IsSoundPart setting (Some known) l j → IsSoundPart setting j.fail r k
    → IsSoundForm setting known (binary op.Coalesce l r) (with_codes (when (not (j.poisoned || is_fallible j)) (at 651 span)) (record whole { kind = K; ok = ok; fail = k.fail }))
coalescing_is_sound laws setting known span l r j k whole K ok first behind either oks left right none =
    let own = when (not (j.poisoned || is_fallible j)) (at 651 span) in
    let end = with_codes own (record whole { kind = K; ok = ok; fail = k.fail }) in
    binary_is_sound laws setting known j.fail op.Coalesce l r j k whole end first behind refl (no_error_behind j k whole behind (no_error_parts whole.codes own none).0) left right
    (coalescing_of_sides laws (length setting.sources) j k whole K ok end.poisoned end.codes behind either oks)
