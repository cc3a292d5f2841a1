-- Assignments: a store in which a value was written fits what is known behind the write. A write by which a root would be too deep ends
-- all, and nothing is promised of it.
use Rattle.std.proofs.Common.{ℕ, List, ◌∷◌, ◌++◌, Option, Some, None, inl, inr, length, refl, sym, subst}
use Rattle.std.proofs.lemmas.Bool.{true≢false}
use Rattle.vrl_value.specs.Tree.{Tree, null, string}
use Rattle.vrl_value.specs.declared.value.Tag.{Tag}
use Rattle.vrl_value.specs.declared.value.Tag.TheVariants as tag
use Rattle.vrl_path.specs.declared.path.Step.{Step}
use Rattle.vrl_diag.specs.declared.diagnostic.Diagnostic.{Diagnostic}
use Rattle.vrl_diag.specs.declared.diagnostic.Span.{Span}
use Rattle.vrl_syntax.specs.ErrorAssignments.{empty_value}
use Rattle.vrl_syntax.specs.Tree.{Expr, expr, read, binary, assign, merge, both}
use Rattle.vrl_syntax.specs.declared.root.Op.TheVariants as op
use Rattle.vrl_syntax.specs.declared.root.Root.{Root}
use Rattle.vrl_syntax.specs.declared.root.Target.{Target}
use Rattle.vrl_syntax.specs.declared.root.Target.TheVariants.{Nowhere, Place}
use Rattle.vrl_kind.specs.KindTree.{KindTree}
use Rattle.vrl_kind.specs.Kinds.{found_at, Inhabits}
use Rattle.vrl_state.specs.States as states
use Rattle.vrl_state.specs.States.{IsCutOf, IsEither, IsJoined, RootMap}
use Rattle.vrl_state.specs.Stores.{with_value, FitsKnown, Store}
use Rattle.vrl_builtin.specs.Rows.{SettingTree}
use Rattle.vrl_store.specs.Outcomes.{Outcome, value, error, returned, deep, Ended, ends}
use Rattle.vrl_store.specs.Places.{is_within, root_value, root_with, writes_to}
use Rattle.vrl_store.specs.WellFormed.{IsWellFormedEnded, IsWellFormedExpr}
use Rattle.vrl_judge.specs.Rules.{IsScalar, IsTargetWritten, Judgement, at, of_assignment, of_error_assignment, with_codes}
use Rattle.vrl_resolve.specs.Meaning.{assigned, both_assigned, eval, written_both}
use Rattle.vrl_compile.specs.Sound.{IsSoundEnd, IsSoundOutcome}
use Rattle.vrl_compile.proofs.SoundValues.{of_own_kind, scalar_is}
use Rattle.vrl_compile.proofs.SoundEnds.{IsSoundForm, IsSoundPart, as_run, ends_alike, no_error_parts, sound_either, sound_on_value}
use Rattle.vrl_compile.specs.SoundLaws.{Laws}

-- ---- one write

-- a root with a value at a path
write_fits : Laws → (root : Root) (path : List Step) (N : KindTree) (v : Tree) (known after : Option RootMap) (store : Store) → states.IsWritten root path N known after → FitsKnown store known → Inhabits v N
    → FitsKnown (with_value root (root_with root path v store) store) after
write_fits laws root path N v known after store is fits of_kind =
    let set = laws.sets (root_value root store) path v in
    laws.writes root path N v known after store (with_value root (root_with root path v store) store) is fits of_kind (record { value = root_with root path v store; set = set.0; store = refl })

-- what follows a write of a value of the kind that was judged to be written
sound_written : Laws → (j : Judgement) (t : Target) (N : KindTree) (known after : Option RootMap) (v : Tree) (store : Store) (next : Store → Ended) → IsTargetWritten t N known after → FitsKnown store known → Inhabits v N
    → ((end : Store) → FitsKnown end after → IsSoundEnd j (next end)) → IsSoundEnd j (writes_to t v store next)
sound_written laws j Nowhere N known after v store next is fits of_kind behind = behind store (subst (FitsKnown store) (sym is) fits)
sound_written laws j (Place span root path) N known after v store next is fits of_kind behind =
    let w = root_with root path v store in
    sound_either j (is_within w) (next (with_value root w store)) (ends deep store) (behind (with_value root w store) (write_fits laws root path N v known after store is fits of_kind)) tt

-- ---- `t = e` and `t |= e`

-- behind the expression
sound_assigned : Laws → (count : ℕ) (t : Target) (j : Judgement) (ok : Option RootMap) (ds : List Diagnostic) (given : Ended) → IsTargetWritten t j.kind j.ok ok → IsSoundEnd j given → IsWellFormedEnded count given
    → IsSoundEnd (with_codes ds (record j { ok = ok })) (assigned t given)
sound_assigned laws count t j ok ds given is sound well =
    let whole = with_codes ds (record j { ok = ok }) in
    sound_on_value count j whole given (λ v after. writes_to t v after (λ end. ends (value v) end)) (ends_alike j whole refl refl refl) sound well
    (λ v after came. sound_written laws whole t j.kind j.ok ok v after (λ end. ends (value v) end) is came.ok came.kind (λ end fits. (came.kind, fits)))

pub assignment_is_sound : Laws → (setting : SettingTree) (known : RootMap) (span : Span) (t : Target) (e : Expr) (j : Judgement) (ok : Option RootMap) → IsTargetWritten t j.kind j.ok ok → IsSoundPart setting (Some known) e j
    → IsSoundForm setting known (assign t e) (with_codes (of_assignment span t j) (record j { ok = ok }))
assignment_is_sound laws setting known span t e j ok is part none well rest store stored fits =
    let run = as_run laws setting (Some known) e j rest well (part (no_error_parts j.codes (of_assignment span t j) none).0 well) in
    sound_assigned laws (length setting.sources) t j ok (of_assignment span t j) (eval setting (j.empties ++ rest) e store) is (run.sound store stored fits) (run.kept store stored)

-- judged as the assignment of the merge of what stands there and the expression
pub merge_assignment_is_sound : Laws → (setting : SettingTree) (known : RootMap) (span s : Span) (root : Root) (path : List Step) (e : Expr) (j : Judgement) (ok : Option RootMap) → IsTargetWritten (Place s root path) j.kind j.ok ok
    → IsSoundPart setting (Some known) (expr span (binary op.Merge (expr s (read root path)) e)) j
    → IsSoundForm setting known (merge (Place s root path) e) (with_codes (of_assignment span (Place s root path) j) (record j { ok = ok }))
merge_assignment_is_sound laws setting known span s root path e j ok is part none well rest store stored fits =
    let merged = expr span (binary op.Merge (expr s (read root path)) e) in
    let literals : IsWellFormedExpr (length setting.sources) merged = (tt, well) in
    let run = as_run laws setting (Some known) merged j rest literals (part (no_error_parts j.codes (of_assignment span (Place s root path) j) none).0 literals) in
    sound_assigned laws (length setting.sources) (Place s root path) j ok (of_assignment span (Place s root path) j) (eval setting (j.empties ++ rest) merged store) is (run.sound store stored fits) (run.kept store stored)

-- into nothing it has an error code
pub merge_into_nothing_is_sound : (setting : SettingTree) (known : RootMap) (span : Span) (e : Expr) (j : Judgement) → IsSoundForm setting known (merge Nowhere e) (with_codes (at 640 span) j)
merge_into_nothing_is_sound setting known span e j none well rest store stored fits = absurd (true≢false (no_error_parts j.codes (at 640 span) none).1)

-- ---- `ok, err = e`

-- both targets are written, one behind the other
sound_written_both : Laws → (j : Judgement) (t u : Target) (K L : KindTree) (known between after : Option RootMap) (v w : Tree) (store : Store) → IsTargetWritten t K known between → IsTargetWritten u L between after → FitsKnown store known
    → Inhabits v K → Inhabits w L → ((end : Store) → FitsKnown end after → Inhabits v j.kind × FitsKnown end j.ok) → IsSoundEnd j (written_both t u v w store)
sound_written_both laws j t u K L known between after v w store first second fits of_first of_second behind =
    sound_written laws j t K known between v store (λ mid. writes_to u w mid (λ end. ends (value v) end)) first fits of_first
    (λ mid fits_mid. sound_written laws j u L between after w mid (λ end. ends (value v) end) second fits_mid of_second behind)

-- how both targets are judged, behind a value of a part and behind an error, with any empty value of the kind E
record AreJudgedSo (t u : Target) (j : Judgement) (E K : KindTree) (ok : Option RootMap) : Type 0 where
  kind : IsEither j.kind E K
  N : KindTree
  T : KindTree
  null_kind : IsScalar tag.Null N
  text_kind : IsScalar tag.Text T
  given : Option RootMap
  given_both : Option RootMap
  failed : Option RootMap
  failed_both : Option RootMap
  given_first : IsTargetWritten t j.kind j.ok given
  given_second : IsTargetWritten u N given given_both
  failed_first : IsTargetWritten t E j.fail failed
  failed_second : IsTargetWritten u T failed failed_both
  joined : IsJoined given_both failed_both ok

sound_both : Laws → (t u : Target) (empty : Tag) (j : Judgement) (E K : KindTree) (ok : Option RootMap) (ds : List Diagnostic) (tags : List Tag) (outcome : Outcome) (store : Store) → Inhabits (empty_value empty) E → AreJudgedSo t u j E K ok
    → IsSoundOutcome j outcome store → IsSoundEnd (with_codes ds (record j { kind = K; ok = ok; fail = None; empties = tags })) (both_assigned t u empty outcome store)
sound_both laws t u empty j E K ok ds tags (value v) store of_empty judged sound =
    sound_written_both laws (with_codes ds (record j { kind = K; ok = ok; fail = None; empties = tags })) t u j.kind judged.N j.ok judged.given judged.given_both v null store judged.given_first judged.given_second sound.1 sound.0
    (scalar_is laws.cuts null judged.N (λ s. refl) judged.null_kind)
    (λ end fits. (laws.either v j.kind E K judged.kind (inl sound.0), laws.joins judged.given_both judged.failed_both ok end judged.joined (inl fits)))
sound_both laws t u empty j E K ok ds tags (error text) store of_empty judged sound =
    sound_written_both laws (with_codes ds (record j { kind = K; ok = ok; fail = None; empties = tags })) t u E judged.T j.fail judged.failed judged.failed_both (empty_value empty) (string text) store judged.failed_first judged.failed_second sound of_empty
    (scalar_is laws.cuts (string text) judged.T (λ s. refl) judged.text_kind)
    (λ end fits. (laws.either (empty_value empty) j.kind E K judged.kind (inr of_empty), laws.joins judged.given_both judged.failed_both ok end judged.joined (inr fits)))
sound_both laws t u empty j E K ok ds tags (returned v) store of_empty judged sound = sound
sound_both laws t u empty j E K ok ds tags other store of_empty judged sound = tt

-- with an empty value of any tag
pub error_assignment_is_sound : Laws → (setting : SettingTree) (known : RootMap) (span : Span) (t u : Target) (e : Expr) (j : Judgement) (empty : Tag) (E K N T : KindTree) (given given_both failed failed_both ok : Option RootMap)
    → IsCutOf (found_at (empty_value empty)) E → IsEither j.kind E K → IsScalar tag.Null N → IsScalar tag.Text T
    → IsTargetWritten t j.kind j.ok given → IsTargetWritten u N given given_both → IsTargetWritten t E j.fail failed → IsTargetWritten u T failed failed_both → IsJoined given_both failed_both ok → IsSoundPart setting (Some known) e j
    → IsSoundForm setting known (both t u e) (with_codes (of_error_assignment span t u j K) (record j { kind = K; ok = ok; fail = None; empties = empty ∷ j.empties }))
error_assignment_is_sound laws setting known span t u e j empty E K N T given given_both failed failed_both ok cut kind null_kind text_kind given_first given_second failed_first failed_second joined part none well rest store stored fits =
    let ended = eval setting (j.empties ++ rest) e store in
    let sound = part (no_error_parts j.codes (of_error_assignment span t u j K) none).0 well in
    sound_both laws t u empty j E K ok (of_error_assignment span t u j K) (empty ∷ j.empties) ended.outcome ended.store (of_own_kind laws.cuts (empty_value empty) E cut) (record {
      kind = kind;
      N = N;
      T = T;
      null_kind = null_kind;
      text_kind = text_kind;
      given = given;
      given_both = given_both;
      failed = failed;
      failed_both = failed_both;
      given_first = given_first;
      given_second = given_second;
      failed_first = failed_first;
      failed_second = failed_second;
      joined = joined;
    }) (sound rest store stored fits)
