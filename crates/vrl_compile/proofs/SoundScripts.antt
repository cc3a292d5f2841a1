-- Scripts: an item that may fail has a code, so a script without an error code handles each of its errors.
use Rattle.std.proofs.Common.{◌≡◌, ℕ, ℤ, length, Bool, true, false, not, List, [], ◌∷◌, append-nil, Option, Some, None, IsSomeAnd, is_some, refl, sym, ◌∙◌, subst}
use Rattle.std.specs.FinMap as map
use Rattle.std.proofs.lemmas.Bool.{true≢false}
use Rattle.std.proofs.lemmas.Cmp.{nat_list_cmp_total}
use Rattle.vrl_value.specs.Tree.{Tree, null}
use Rattle.vrl_diag.specs.declared.diagnostic.Diagnostic.{Diagnostic}
use Rattle.vrl_diag.specs.declared.diagnostic.Span.{Span}
use Rattle.vrl_syntax.specs.Stores.{metadata, metadata_name, store_of, value_of}
use Rattle.vrl_syntax.specs.Tree.{Expr, Exprs, span_of}
use Rattle.vrl_kind.specs.KindTree.{KindTree}
use Rattle.vrl_kind.specs.Kinds.{Inhabits}
use Rattle.vrl_state.specs.States.{json_object, IsJoined, RootMap}
use Rattle.vrl_state.specs.Stores.{FitsKnown, Store}
use Rattle.vrl_builtin.specs.Rows.{SettingTree}
use Rattle.vrl_store.specs.Outcomes.{Outcome, value, error, aborted, returned, banged, deep, Ended}
use Rattle.vrl_judge.specs.Rules.{Judgement, at, if_state, settle, when, with_codes}
use Rattle.vrl_check.specs.Judgement.{of_item}
use Rattle.vrl_check.specs.Judgement.{JudgesItems, no_more_items, one_more_item, a_script}
use Rattle.vrl_resolve.specs.Meaning.{run_script}
use Rattle.vrl_resolve.proofs.RunsWellFormed.{start_is}
use Rattle.vrl_compile.specs.Sound.{ComesTo, ExpressionsAreSound, HasNoError, IsSoundOutcome, ScriptsAreSound, ends_of, setting_of}
use Rattle.vrl_check.specs.Determined.{EmptiesAreCounted}
use Rattle.vrl_check.specs.OpenRules.{GiveWhatHolds, OpenRules}
use Rattle.vrl_compile.proofs.SoundEnds.{no_error_behind, no_error_parts, sound_settled, sound_told, IsSoundPart}
use Rattle.vrl_compile.specs.SoundLaws.{Laws}
use Rattle.vrl_compile.proofs.SoundLists.{items_sound, no_more_sound, one_more_sound, AreSound}
use Rattle.vrl_compile.proofs.SoundValues.{scalar_is}

-- ---- items

-- as a part with codes of its own
part_with_codes : (setting : SettingTree) (known : Option RootMap) (e : Expr) (j : Judgement) (ds : List Diagnostic) → IsSoundPart setting known e j → IsSoundPart setting known e (with_codes ds j)
part_with_codes setting known e j ds sound none well = sound (no_error_parts j.codes ds none).0 well

-- items are judged in order
items_in_order : EmptiesAreCounted → ExpressionsAreSound → (moment : ℤ) (rules : OpenRules) → GiveWhatHolds rules → {before after : Judgement} {es : Exprs} → JudgesItems rules before es after → (Ks : List KindTree) × AreSound (setting_of moment rules) before es Ks after
items_in_order counted each moment rules holds no_more_items = ([], no_more_sound)
items_in_order counted each moment rules holds (one_more_item {before = before} {j = j} {e = e} judges in_order more) =
    let others = items_in_order counted each moment rules holds more in
    (j.kind ∷ others.0, one_more_sound {j = with_codes (of_item (span_of e) j) j} (counted.expression _ _ _ _ _ judges) (part_with_codes (setting_of moment rules) before.ok e j (of_item (span_of e) j) (each moment rules holds false before.ok e j judges)) in_order others.1)

-- an item that may fail has a code
can_not_fail : (fail : Option RootMap) (span : Span) → HasNoError (when (is_some fail) (at 100 span)) → fail ≡ None
can_not_fail None span none = refl
can_not_fail (Some known) span none = absurd (true≢false none)

no_fail : (a b c : Option RootMap) → IsJoined a b c → a ≡ None → b ≡ None → c ≡ None
no_fail None b c is first second = is ∙ second
no_fail (Some known) b c is first second = cc

items_clean : {rules : OpenRules} {before after : Judgement} {es : Exprs} → JudgesItems rules before es after → HasNoError after.codes → HasNoError before.codes
items_clean no_more_items none = none
items_clean (one_more_item {before = before} {j = j} {middle = middle} {e = e} judges in_order more) none = (no_error_behind before (with_codes (of_item (span_of e) j) j) middle in_order.behind (items_clean more none)).0

-- so items without an error code can't fail
items_never_fail : {rules : OpenRules} {before after : Judgement} {es : Exprs} → JudgesItems rules before es after → before.fail ≡ None → HasNoError after.codes → after.fail ≡ None
items_never_fail no_more_items is none = is
items_never_fail (one_more_item {before = before} {j = j} {middle = middle} {e = e} judges in_order more) is none =
    let codes = no_error_behind before (with_codes (of_item (span_of e) j) j) middle in_order.behind (items_clean more none) in
    items_never_fail more (no_fail before.fail j.fail middle.fail in_order.fail is (can_not_fail j.fail (span_of e) (no_error_parts j.codes (of_item (span_of e) j) codes.1).1)) none

-- ---- scripts

run_outcome : (j : Judgement) (outcome : Outcome) (store : Store) → j.fail ≡ None → IsSoundOutcome j outcome store → ComesTo (ends_of j) outcome store
run_outcome j (value v) store fail sound = sound
run_outcome j (returned v) store fail sound = sound
run_outcome j (error text) store fail sound = subst (FitsKnown store) fail sound
run_outcome j (aborted m) store fail sound = tt
run_outcome j (banged text) store fail sound = tt
run_outcome j deep store fail sound = tt

-- the metadata in the store that a run starts with
start_holds : (event beside : Tree) (P : Tree → Type 0) → P beside → IsSomeAnd (value_of metadata (store_of event beside)) P
start_holds event beside P holds = subst (λ found. IsSomeAnd found P) (sym (map.get-insert nat_list_cmp_total map.empty metadata_name beside metadata_name)) holds

still_dead : (test : Bool) (known : Option RootMap) → known ≡ None → if_state test known ≡ None
still_dead true known is = is
still_dead false known is = refl

pub script_is_sound : Laws → ExpressionsAreSound → ScriptsAreSound
script_is_sound laws each moment rules holds declared items j (a_script {N = N} {state = state} {j = k} start null_kind judges) none well event beside of_kind beside_is well_event well_beside =
    run_outcome (settle k) ended.outcome ended.store (still_dead (not k.poisoned) k.fail (items_never_fail judges refl none))
    (sound_settled k ended (laws.causes.items _ _ _ _ judges refl ∙ none)
    ((sound_told k ended).1 (items_sound laws setting (items_in_order laws.counted each moment rules holds judges).1 none well [] k.empties (sym (append-nil k.empties)) null (store_of event beside)
    (start_is (length rules.sources) event beside (store_of event beside) refl well_event well_beside) (laws.starts declared state (store_of event beside) start of_kind (start_holds event beside (λ v. Inhabits v json_object) beside_is)) (scalar_is laws.cuts null N (λ s. refl) null_kind)))) where
      setting : SettingTree
      setting = setting_of moment rules

      ended : Ended
      ended = run_script setting k.empties items event beside
