-- `return` and `abort`.
use Rattle.std.proofs.Common.{◌≡◌, Bool, false, ◌||◌, List, ◌++◌, Option, Some, None, inr, length, refl, ◌∙◌}
use Rattle.std.proofs.lemmas.Bool.{or_parts}
use Rattle.vrl_value.specs.Tag.{tag_of}
use Rattle.vrl_value.specs.Tree.{Tree, string}
use Rattle.vrl_value.specs.declared.value.Tag.{Tag}
use Rattle.vrl_value.specs.declared.value.Tag.TheVariants as tag
use Rattle.vrl_diag.specs.declared.diagnostic.Span.{Span}
use Rattle.vrl_syntax.specs.Tree.{Expr, return_of, abort_with, no_message, message, span_of}
use Rattle.vrl_kind.specs.Canonical.{never_kind}
use Rattle.vrl_kind.specs.KindTree.{KindTree}
use Rattle.vrl_kind.specs.Kinds.{Inhabits}
use Rattle.vrl_state.specs.States.{IsEither, IsJoined, RootMap}
use Rattle.vrl_state.specs.Stores.{FitsKnown, Store}
use Rattle.vrl_builtin.specs.Rows.{SettingTree}
use Rattle.vrl_store.specs.Outcomes.{returned, ends}
use Rattle.vrl_judge.specs.Rules.{Judgement, at, if_state, is_alive, is_fallible, is_other, nothing, settled_kind, when, with_codes}
use Rattle.vrl_resolve.specs.Meaning.{aborted_with, eval}
use Rattle.vrl_compile.specs.Sound.{IsSoundEnd}
use Rattle.vrl_compile.proofs.SoundCounts.{IsToldOf}
use Rattle.vrl_compile.proofs.SoundEnds.{IsSoundForm, IsSoundPart, as_run, ends_alike, left_either, left_joins, no_error_parts, sound_on_value}
use Rattle.vrl_compile.specs.SoundLaws.{Laws}
use Rattle.vrl_compile.proofs.SoundTags.{no_code, tag_there}

-- ---- `return`

-- a way that a store fits is alive, so the kind there is that of its values
alive_kind : (ok : Option RootMap) (K : KindTree) (v : Tree) (store : Store) → FitsKnown store ok → Inhabits v K → Inhabits v (settled_kind false (is_alive ok) K)
alive_kind None K v store fits of_kind = absurd fits
alive_kind (Some known) K v store fits of_kind = of_kind

-- in a closure it has an error code
pub return_is_sound : Laws → (setting : SettingTree) (inside : Bool) (known : RootMap) (span : Span) (e : Expr) (j : Judgement) (ret : Option RootMap) (R : KindTree) → IsJoined j.ret j.ok ret → IsEither j.returned (settled_kind false (is_alive j.ok) j.kind) R
    → IsSoundPart setting (Some known) e j → IsSoundForm setting known (return_of e) (with_codes (when inside (at 1004 span)) (record j { kind = never_kind; ok = if_state inside j.ok; ret = ret; returned = R }))
return_is_sound laws setting inside known span e j ret R joined either part none well rest store stored fits =
    let ds = when inside (at 1004 span) in
    let run = as_run laws setting (Some known) e j rest well (part (no_error_parts j.codes ds none).0 well) in
    let whole = with_codes ds (record j { kind = never_kind; ok = if_state inside j.ok; ret = ret; returned = R }) in
    let kind = settled_kind false (is_alive j.ok) j.kind in
    sound_on_value (length setting.sources) j whole (eval setting (j.empties ++ rest) e store) (λ v after. ends (returned v) after)
    (record { fail = λ end fits. fits; returns = record { ret = left_joins laws j.ret j.ok ret joined; returned = left_either laws j.returned kind R either } })
    (run.sound store stored fits) (run.kept store stored)
    (λ v after came. (laws.either v j.returned kind R either (inr (alive_kind j.ok j.kind v after came.ok came.kind)), laws.joins j.ret j.ok ret after joined (inr came.ok)))

-- ---- `abort`

pub abort_is_sound : (setting : SettingTree) (known : RootMap) (tags : List Tag) → IsSoundForm setting known (abort_with no_message) (nothing tags)
abort_is_sound setting known tags none well rest store stored fits = tt

text_aborts : (whole : Judgement) (v : Tree) (store : Store) → tag_of v ≡ tag.Text → IsSoundEnd whole (ends (aborted_with v) store)
text_aborts whole (string s) store is = tt
text_aborts whole v store is = absurd cc

pub abort_with_is_sound : Laws → (setting : SettingTree) (known : RootMap) (e : Expr) (j : Judgement) → IsToldOf e j → IsSoundPart setting (Some known) e j
    → IsSoundForm setting known (abort_with (message e)) (with_codes (when (is_fallible j || is_other tag.Text j) (at 1011 (span_of e))) (record j { kind = never_kind; ok = None }))
abort_with_is_sound laws setting known e j judged part none well rest store stored fits =
    let ds = when (is_fallible j || is_other tag.Text j) (at 1011 (span_of e)) in
    let clean = no_error_parts j.codes ds none in
    let run = as_run laws setting (Some known) e j rest well (part clean.0 well) in
    let whole = with_codes ds (record j { kind = never_kind; ok = None }) in
    sound_on_value (length setting.sources) j whole (eval setting (j.empties ++ rest) e store) (λ v after. ends (aborted_with v) after) (ends_alike j whole refl refl refl) (run.sound store stored fits) (run.kept store stored)
    (λ v after came. text_aborts whole v after (tag_there tag.Text j v after (judged.cause ∙ clean.0) came.ok (or_parts _ _ (no_code (is_fallible j || is_other tag.Text j) (span_of e) 1011 refl clean.1)).1 came.kind))
