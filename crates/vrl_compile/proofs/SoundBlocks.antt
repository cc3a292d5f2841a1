-- Blocks and the ways of an `if`: the names of a block end with it, and each way ends as all of them may.
use Rattle.std.proofs.Common.{◌≡◌, ℕ, length, Bool, true, false, cond, List, [], ◌++◌, append_assoc, Option, Some, None, is_some, option_map, if◌then◌else◌, refl, sym, ap, ◌∙◌, subst}
use Rattle.std.proofs.lemmas.Bool.{false≢true}
use Rattle.std.proofs.lemmas.List.{append_cancel_left}
use Rattle.std.specs.Cmp.Lexicographic.{slice_cmp}
use Rattle.std.specs.FinMap as map
use Rattle.std.specs.FinMap.{nat_cmp-IsAntisymmetric, slice_cmp-IsAntisymmetric}
use Rattle.std.specs.Ordering.{nat_cmp}
use Rattle.vrl_value.specs.Tree.{Tree, null}
use Rattle.vrl_value.specs.declared.value.Tag.{Tag}
use Rattle.vrl_value.specs.declared.value.Tag.TheVariants as tag
use Rattle.vrl_syntax.specs.ErrorAssignments.{behind, behind_all, behind_arms, in_expr, in_exprs}
use Rattle.vrl_syntax.specs.Stores.{store_kept}
use Rattle.vrl_syntax.specs.Tree as form
use Rattle.vrl_syntax.specs.Tree.{Expr, Exprs, Arms, no_arms, arm, Else, no_else, else_block, span_of}
use Rattle.vrl_kind.specs.KindTree.{KindTree}
use Rattle.vrl_kind.specs.Canonical.{never_kind}
use Rattle.vrl_state.specs.States.{RootMap}
use Rattle.vrl_state.specs.Stores.{FitsKind, FitsKnown, FitsMap, Store}
use Rattle.vrl_builtin.specs.Rows.{SettingTree}
use Rattle.vrl_store.specs.Operators.{is_true}
use Rattle.vrl_store.specs.Outcomes.{Outcome, value, error, aborted, returned, banged, deep, Ended, block_left, ends, on_value}
use Rattle.vrl_store.specs.WellFormed.{AreWellFormedArms, AreWellFormedExprs, IsWellFormedElse, IsWellFormedStore}
use Rattle.vrl_judge.specs.Rules.{Judgement, IsScalar, gives, without_new_names, left, nothing, of_predicate, settle, with_codes}
use Rattle.vrl_check.specs.Determined.{HasCause}
use Rattle.vrl_check.specs.Judgement.{IsBeside}
use Rattle.vrl_resolve.specs.Meaning.{eval, eval_arms, eval_else, eval_items}
use Rattle.vrl_compile.specs.Sound.{HasNoError, IsSoundEnd, IsSoundOutcome}
use Rattle.vrl_compile.proofs.SoundCounts.{behind_arm_is, behind_block_counted, behind_counted}
use Rattle.vrl_compile.proofs.SoundEnds.{ends_alike, ends_through, gives_through, left_ends, left_gives, no_error_beside, no_error_parts, right_ends, right_gives, sound_as, sound_either, sound_on_value, sound_settled, sound_told, EndsAs, GivesAs, IsSoundForm, IsSoundPart}
use Rattle.vrl_compile.specs.SoundLaws.{Laws}
use Rattle.vrl_compile.proofs.SoundLists.{begins_through, items_sound, tags_of_part, AreSound, AreTagsOf, BeginsWith}
use Rattle.vrl_compile.proofs.SoundValues.{scalar_is}

-- ---- what is known behind a block

-- a variable that was known before is there
known_is_there : (v : Option Tree) (K : Option KindTree) → FitsKind v K → is_some K ≡ true → is_some v ≡ true
known_is_there v None fits is = absurd (false≢true is)
known_is_there None (Some K) fits is = absurd fits
known_is_there (Some v) (Some K) fits is = refl

kept_kind : (v : Option Tree) (K : Option KindTree) (there known : Bool) → (known ≡ true → there ≡ true) → FitsKind v K → FitsKind (cond there v None) (cond known K None)
kept_kind v K there false holds fits = tt
kept_kind v K true true holds fits = fits
kept_kind v K false true holds fits = absurd (false≢true (holds refl))

module _ {X : Type 0} where
  pub at_kept : (m : map.FinMap (slice_cmp nat_cmp) X) (test : List ℕ → Bool) (x : List ℕ) → map.get (map.retain_keys m test) x ≡ cond (test x) (map.get m x) None
  at_kept m test x = map.get-retain_keys m test x (λ y tie. ap test (sym (slice_cmp-IsAntisymmetric nat_cmp-IsAntisymmetric x y tie)))

-- what was known before is known behind the block, of the store that held it before
kept_fits : (known end : RootMap) (before after : Store) → FitsMap before known → FitsMap after end → FitsMap (store_kept before after) (without_new_names known end)
kept_fits known end before after first fits = record {
  event = fits.event;
  variables = λ x. rw (at_kept after.variables (λ y. map.contains_key before.variables y) x, at_kept end.variables (λ y. map.contains_key known.variables y) x)
      (kept_kind (map.get after.variables x) (map.get end.variables x) (map.contains_key before.variables x) (map.contains_key known.variables x) (known_is_there (map.get before.variables x) (map.get known.variables x) (first.variables x)) (fits.variables x));
}

left_fits : (known : RootMap) (end : Option RootMap) (before after : Store) → FitsMap before known → FitsKnown after end → FitsKnown (store_kept before after) (option_map (without_new_names known) end)
left_fits known None before after first fits = absurd fits
left_fits known (Some end) before after first fits = kept_fits known end before after first fits

left_outcome : (known : RootMap) (j : Judgement) (before after : Store) (outcome : Outcome) → FitsMap before known → IsSoundOutcome j outcome after → IsSoundOutcome (left known j) outcome (store_kept before after)
left_outcome known j before after (value v) first sound = (sound.0, left_fits known j.ok before after first sound.1)
left_outcome known j before after (error text) first sound = left_fits known j.fail before after first sound
left_outcome known j before after (returned v) first sound = (sound.0, left_fits known j.ret before after first sound.1)
left_outcome known j before after (aborted m) first sound = tt
left_outcome known j before after (banged text) first sound = tt
left_outcome known j before after deep first sound = tt

-- ---- blocks

-- what is shown of a block, also of a branch
abbrev pub IsSoundBlock : SettingTree → Option RootMap → Exprs → Judgement → Type 0
IsSoundBlock setting known es j = HasNoError j.codes → AreWellFormedExprs (length setting.sources) es
    → (rest : List Tag) (store : Store) → IsWellFormedStore (length setting.sources) store → FitsKnown store known → IsSoundEnd j (block_left store (eval_items setting (j.empties ++ rest) null es store))

pub unreached_block_is_sound : (setting : SettingTree) (es : Exprs) (j : Judgement) → IsSoundBlock setting None es j
unreached_block_is_sound setting es j none well rest store stored fits = absurd fits

pub reached_block_is_sound : Laws → (setting : SettingTree) (known : RootMap) (es : Exprs) (Ks : List KindTree) (N : KindTree) (j : Judgement) → IsScalar tag.Null N → HasCause j → AreSound setting (gives N (Some known)) es Ks j
    → IsSoundBlock setting (Some known) es (settle (left known j))
reached_block_is_sound laws setting known es Ks N j is_null cause all none well rest store stored fits =
    sound_settled (left known j) (block_left store ended) (cause ∙ none)
    (left_outcome known j store ended.store ended.outcome fits
    ((sound_told j ended).1 (items_sound laws setting all none well rest (j.empties ++ rest) refl null store stored fits (scalar_is laws.cuts null N (λ s. refl) is_null)))) where
      ended : Ended
      ended = eval_items setting (j.empties ++ rest) null es store

pub block_is_sound : (setting : SettingTree) (known : RootMap) (es : Exprs) (j : Judgement) → IsSoundBlock setting (Some known) es j → IsSoundForm setting known (form.block es) j
block_is_sound setting known es j sound none well rest store stored fits = sound none well rest store stored fits

-- ---- the ways of an `if`

-- a predicate, with codes of its own: it is no way of the whole to end with a value
abbrev pub predicate_judged : Expr → Judgement → Judgement
predicate_judged p j = record (with_codes (of_predicate (span_of p) j) j) { kind = never_kind; ok = None }

-- judged in order, with what is shown of each predicate and of each block
pub data AreSoundArms (setting : SettingTree) : Option RootMap → Judgement → Arms → Else → Judgement → Type 0 where
  sound_arm : {state : Option RootMap} {ways : Judgement} (j : Judgement) {with_predicate k with_branch all : Judgement} {p : Expr} {es : Exprs} {gs : Arms} {otherwise : Else}
      → length j.empties ≡ in_expr p → IsSoundPart setting state p j → IsBeside ways (predicate_judged p j) with_predicate
      → length k.empties ≡ in_exprs es → IsSoundBlock setting j.ok es k → IsBeside with_predicate k with_branch
      → AreSoundArms setting j.ok with_branch gs otherwise all
      → AreSoundArms setting state ways (arm p es gs) otherwise all
  sound_else : {state : Option RootMap} {ways k all : Judgement} {es : Exprs}
      → IsSoundBlock setting state es k → IsBeside ways k all
      → AreSoundArms setting state ways no_arms (else_block es) all
  sound_missing_else : {state : Option RootMap} {ways all : Judgement} {N : KindTree}
      → IsScalar tag.Null N → IsBeside ways (settle (gives N state)) all
      → AreSoundArms setting state ways no_arms no_else all

begins_beside : (ways way all : Judgement) → IsBeside ways way all → BeginsWith ways all
begins_beside ways way all beside = (way.empties, beside.empties)

arms_begin : {setting : SettingTree} {state : Option RootMap} {ways all : Judgement} {gs : Arms} {otherwise : Else} → AreSoundArms setting state ways gs otherwise all → BeginsWith ways all
arms_begin (sound_arm {ways = ways} j {with_predicate = w} {k = k} {with_branch = b} {all = all} counted sound beside counted_block sound_block besides more) =
    begins_through ways j w all beside.empties (begins_through w k b all besides.empties (arms_begin more))
arms_begin (sound_else {ways = ways} {k = k} {all = all} sound beside) = begins_beside ways k all beside
arms_begin (sound_missing_else {ways = ways} {all = all} is_null beside) = begins_beside ways _ all beside

arms_end : Laws → {setting : SettingTree} {state : Option RootMap} {ways all : Judgement} {gs : Arms} {otherwise : Else} → AreSoundArms setting state ways gs otherwise all → EndsAs ways all
arms_end laws (sound_arm {ways = ways} j {with_predicate = w} {k = k} {with_branch = b} {p = p} counted sound beside counted_block sound_block besides more) =
    ends_through (left_ends laws ways (predicate_judged p j) w beside) (ends_through (left_ends laws w k b besides) (arms_end laws more))
arms_end laws (sound_else {ways = ways} {k = k} {all = all} sound beside) = left_ends laws ways k all beside
arms_end laws (sound_missing_else {ways = ways} {all = all} is_null beside) = left_ends laws ways _ all beside

arms_give : Laws → {setting : SettingTree} {state : Option RootMap} {ways all : Judgement} {gs : Arms} {otherwise : Else} → AreSoundArms setting state ways gs otherwise all → GivesAs ways all
arms_give laws (sound_arm {ways = ways} j {with_predicate = w} {k = k} {with_branch = b} {p = p} counted sound beside counted_block sound_block besides more) =
    gives_through (left_gives laws ways (predicate_judged p j) w beside) (gives_through (left_gives laws w k b besides) (arms_give laws more))
arms_give laws (sound_else {ways = ways} {k = k} {all = all} sound beside) = left_gives laws ways k all beside
arms_give laws (sound_missing_else {ways = ways} {all = all} is_null beside) = left_gives laws ways _ all beside

arms_clean : {setting : SettingTree} {state : Option RootMap} {ways all : Judgement} {gs : Arms} {otherwise : Else} → AreSoundArms setting state ways gs otherwise all → HasNoError all.codes → HasNoError ways.codes
arms_clean (sound_arm {ways = ways} j {with_predicate = w} {k = k} {with_branch = b} {p = p} counted sound beside counted_block sound_block besides more) none =
    (no_error_beside ways (predicate_judged p j) w beside (no_error_beside w k b besides (arms_clean more none)).0).0
arms_clean (sound_else {ways = ways} {k = k} {all = all} sound beside) none = (no_error_beside ways k all beside none).0
arms_clean (sound_missing_else {ways = ways} {all = all} is_null beside) none = (no_error_beside ways _ all beside none).0

-- a block that is one of the ways
block_beside : Laws → (setting : SettingTree) (state : Option RootMap) (ways k all : Judgement) (es : Exprs) (rest : List Tag) (store : Store) → IsSoundBlock setting state es k → IsBeside ways k all → HasNoError all.codes → AreWellFormedExprs (length setting.sources) es
    → IsWellFormedStore (length setting.sources) store → FitsKnown store state → IsSoundEnd all (block_left store (eval_items setting (k.empties ++ rest) null es store))
block_beside laws setting state ways k all es rest store sound beside none well stored fits =
    sound_as k all (block_left store (eval_items setting (k.empties ++ rest) null es store)) (right_ends laws ways k all beside) (right_gives laws ways k all beside) (sound (no_error_beside ways k all beside none).1 well rest store stored fits)

-- null where no predicate was true
missing_else : Laws → (state : Option RootMap) (ways all : Judgement) (N : KindTree) (store : Store) → IsScalar tag.Null N → IsBeside ways (settle (gives N state)) all → FitsKnown store state → IsSoundEnd all (ends (value null) store)
missing_else laws None ways all N store is_null beside fits = absurd fits
missing_else laws (Some known) ways all N store is_null beside fits =
    let given = right_gives laws ways (settle (gives N (Some known))) all beside in (given.kind null (scalar_is laws.cuts null N (λ s. refl) is_null), given.ok store fits)

arms_sound : Laws → (setting : SettingTree) {state : Option RootMap} {ways all : Judgement} {gs : Arms} {otherwise : Else} → AreSoundArms setting state ways gs otherwise all → HasNoError all.codes
    → AreWellFormedArms (length setting.sources) gs → IsWellFormedElse (length setting.sources) otherwise → (rest tags : List Tag) → AreTagsOf ways all rest tags
    → (last : Store → Ended) → ((after : Store) → last after ≡ eval_else setting (behind_arms gs tags) otherwise after)
    → (store : Store) → IsWellFormedStore (length setting.sources) store → FitsKnown store state → IsSoundEnd all (eval_arms setting tags gs last store)
arms_sound laws setting (sound_missing_else {state = state} {ways = ways} {all = all} {N = N} is_null beside) none well well_else rest tags are last is store stored fits =
    subst (IsSoundEnd all) (sym (is store)) (missing_else laws state ways all N store is_null beside fits)
arms_sound laws setting (sound_else {state = state} {ways = ways} {k = k} {all = all} {es = es} sound beside) none well well_else rest tags are last is store stored fits =
    subst (IsSoundEnd all) (sym (is store)) (subst (λ ts. IsSoundEnd all (block_left store (eval_items setting ts null es store))) (sym mine)
    (block_beside laws setting state ways k all es rest store sound beside none well_else stored fits)) where
      mine : tags ≡ k.empties ++ rest
      mine = append_cancel_left ways.empties tags (k.empties ++ rest) (are ∙ ap (λ ts. ts ++ rest) beside.empties ∙ append_assoc ways.empties k.empties rest)
arms_sound laws setting (sound_arm {state = state} {ways = ways} j {with_predicate = w} {k = k} {with_branch = b} {all = all} {p = p} {es = es} {gs = gs} {otherwise = otherwise} counted sound beside counted_block sound_block besides more)
    none well well_else rest tags are last is store stored fits =
    subst (λ ts. IsSoundEnd all (on_value (eval setting ts p store) next)) (sym first.1)
    (sound_on_value (length setting.sources) j all given next j_ends (sound codes well.0 first.0 store stored fits) (laws.kept.expression setting (j.empties ++ first.0) p store well.0 stored)
    (λ v after came. sound_either all (is_true v) _ _ (the_branch after came.stored came.ok) (subst (λ ts. IsSoundEnd all (eval_arms setting ts gs last after)) (sym behind_branch)
    (arms_sound laws setting more none well.1.1 well_else rest second.0 second.2 last is_behind after came.stored came.ok)))) where
      first : (others : List Tag) × (tags ≡ j.empties ++ others) × AreTagsOf w all rest others
      first = tags_of_part ways j w all rest tags beside.empties (begins_through w k b all besides.empties (arms_begin more)) are

      second : (others : List Tag) × (first.0 ≡ k.empties ++ others) × AreTagsOf b all rest others
      second = tags_of_part w k b all rest first.0 besides.empties (arms_begin more) first.2

      behind_predicate : behind p tags ≡ k.empties ++ second.0
      behind_predicate = ap (behind p) first.1 ∙ behind_counted p j.empties first.0 counted ∙ second.1

      behind_branch : behind_all es (behind p tags) ≡ second.0
      behind_branch = ap (behind_all es) behind_predicate ∙ behind_block_counted es k.empties second.0 counted_block

      clean : HasNoError b.codes
      clean = arms_clean more none

      codes : HasNoError j.codes
      codes = (no_error_parts j.codes (of_predicate (span_of p) j) (no_error_beside ways (predicate_judged p j) w beside (no_error_beside w k b besides clean).0).1).0

      j_ends : EndsAs j all
      j_ends = ends_through (ends_alike j (predicate_judged p j) refl refl refl) (ends_through (right_ends laws ways (predicate_judged p j) w beside) (ends_through (left_ends laws w k b besides) (arms_end laws more)))

      given : Ended
      given = eval setting (j.empties ++ first.0) p store

      next : Tree → Store → Ended
      next v after = if is_true v then block_left after (eval_items setting (behind p tags) null es after) else eval_arms setting (behind_all es (behind p tags)) gs last after

      the_branch : (after : Store) → IsWellFormedStore (length setting.sources) after → FitsKnown after j.ok → IsSoundEnd all (block_left after (eval_items setting (behind p tags) null es after))
      the_branch after stored_after ok = subst (λ ts. IsSoundEnd all (block_left after (eval_items setting ts null es after))) (sym behind_predicate)
          (sound_as b all _ (arms_end laws more) (arms_give laws more) (block_beside laws setting j.ok w k b es second.0 after sound_block besides clean well.1.0 stored_after ok))

      is_behind : (after : Store) → last after ≡ eval_else setting (behind_arms gs second.0) otherwise after
      is_behind after = is after ∙ ap (λ ts. eval_else setting ts otherwise after) (behind_arm_is p es gs tags ∙ ap (behind_arms gs) behind_branch)

pub conditional_is_sound : Laws → (setting : SettingTree) (known : RootMap) (gs : Arms) (otherwise : Else) (j : Judgement) → AreSoundArms setting (Some known) (nothing []) gs otherwise j → IsSoundForm setting known (form.conditional gs otherwise) j
conditional_is_sound laws setting known gs otherwise j arms none well rest store stored fits =
    arms_sound laws setting arms none well.0 well.1 rest (j.empties ++ rest) refl (λ after. eval_else setting (behind_arms gs (j.empties ++ rest)) otherwise after) (λ after. refl) store stored fits
