-- The body of a closure: its names are bound in front of it and end behind it, and what is known before each run holds where each run ends.
use Rattle.std.proofs.Common.{◌≡◌, ℕ, length, Bool, true, false, cond, List, [], ◌∷◌, ◌++◌, Option, Some, None, is_some, option_map, bytes_eq, codes, if◌then◌else◌, refl, sym, ap, ◌∙◌, subst}
use Rattle.std.proofs.lemmas.Bool.{false≢true}
use Rattle.std.proofs.lemmas.Cmp.{nat_list_cmp_total}
use Rattle.std.specs.Cmp.Lexicographic.{slice_cmp}
use Rattle.std.specs.FinMap as map
use Rattle.std.specs.FinMap.{nat_cmp-IsAntisymmetric, slice_cmp-IsAntisymmetric}
use Rattle.std.specs.Ordering.{eq_by_cmp, nat_cmp}
use Rattle.vrl_value.specs.Tree.{Tree, null}
use Rattle.vrl_value.specs.declared.value.Tag.{Tag}
use Rattle.vrl_diag.specs.declared.diagnostic.Span.{Span}
use Rattle.vrl_syntax.specs.Stores.{Store, bound_to, hidden_by, store_back, store_kept, values_back, with_value}
use Rattle.vrl_syntax.specs.Tree.{closure}
use Rattle.vrl_syntax.specs.Written.{exprs_write}
use Rattle.vrl_syntax.specs.declared.root.Root.TheVariants.{Name}
use Rattle.vrl_state.specs.States.{body_scope, kept, with_names, RootMap}
use Rattle.vrl_state.specs.Stores.{AreOfKinds, FitsKnown}
use Rattle.vrl_builtin.specs.Rows.{SettingTree}
use Rattle.vrl_store.specs.Outcomes.{Outcome, value, error, aborted, returned, banged, deep, Ended, block_left}
use Rattle.vrl_store.specs.WellFormed.{AreWellFormed, AreWellFormedExprs, IsWellFormedStore}
use Rattle.vrl_judge.specs.Closures.{ClosureBody, Try, first_try, second_try, third_try, left_body, IsNextTry}
use Rattle.vrl_judge.specs.Rules.{Judgement, if_state}
use Rattle.vrl_check.specs.Determined.{HasCause}
use Rattle.vrl_resolve.specs.Meaning.{eval_body, eval_items}
use Rattle.vrl_resolve.proofs.WellFormedEnds.{bound_is}
use Rattle.vrl_compile.specs.Sound.{HasNoError, IsSoundEnd, IsSoundOutcome}
use Rattle.vrl_compile.specs.SoundLaws.{Laws}
use Rattle.vrl_compile.proofs.SoundBlocks.{at_kept, IsSoundBlock}
use Rattle.vrl_compile.proofs.SoundEnds.{left_joins}

-- ---- names that are bound

some_kept : (b : Bool) (v : Tree) (found : Option Tree) → is_some found ≡ true → is_some (cond b (Some v) found) ≡ true
some_kept true v found is = refl
some_kept false v found is = is

still_there : (skipped : Bool) (x : List ℕ) (v : Tree) (store : Store) (y : List ℕ) → map.contains_key store.variables y ≡ true → map.contains_key (if skipped then store else with_value (Name x) v store).variables y ≡ true
still_there true x v store y is = is
still_there false x v store y is =
    ap is_some (map.get-insert nat_list_cmp_total store.variables x v y) ∙ some_kept (eq_by_cmp (slice_cmp nat_cmp) y x) v (map.get store.variables y) is

-- a variable that was there is there once names are bound
bound_keeps : (names : List (List ℕ)) (vs : List Tree) (store : Store) (y : List ℕ) → map.contains_key store.variables y ≡ true → map.contains_key (bound_to names vs store).variables y ≡ true
bound_keeps [] vs store y is = is
bound_keeps (x ∷ names) [] store y is = is
bound_keeps (x ∷ names) (v ∷ vs) store y is =
    let skipped = bytes_eq x (codes "_") in
    bound_keeps names vs (if skipped then store else with_value (Name x) v store) y (still_there skipped x v store y is)

-- ---- what is left of the store

-- what passes the second test passes the first, so that one alone counts
kept_twice : (first second : Bool) (v : Option Tree) → (second ≡ true → first ≡ true) → cond second (cond first v None) None ≡ cond second v None
kept_twice true second v holds = refl
kept_twice false false v holds = refl
kept_twice false true v holds = absurd (false≢true (holds refl))

-- the end of the block in the body changes nothing of it
back_is : (hidden : List (List ℕ)) (before bound end : Store) → ((y : List ℕ) → map.contains_key before.variables y ≡ true → map.contains_key bound.variables y ≡ true) → store_back hidden before (store_kept bound end) ≡ store_back hidden before end
back_is hidden before bound end holds =
    let first : List ℕ → Bool = λ y. map.contains_key bound.variables y in
    let second : List ℕ → Bool = λ y. map.contains_key before.variables y in
    ap (λ values. record end { variables = values_back hidden before.variables values })
    (map.same_map nat_list_cmp_total (slice_cmp-IsAntisymmetric nat_cmp-IsAntisymmetric) (map.retain_keys (map.retain_keys end.variables first) second) (map.retain_keys end.variables second)
    (λ y.
    at_kept (map.retain_keys end.variables first) second y
    ∙ ap (λ found. cond (second y) found None) (at_kept end.variables first y)
    ∙ kept_twice (first y) (second y) (map.get end.variables y) (holds y)
    ∙ sym (at_kept end.variables second y)))

back_fits : Laws → (names : List (List ℕ)) (known : RootMap) (state : Option RootMap) (before bound end : Store) → store_back (hidden_by names) before (store_kept bound end) ≡ store_back (hidden_by names) before end → FitsKnown before (Some known) → FitsKnown (store_kept bound end) state
    → FitsKnown (store_back (hidden_by names) before end) (option_map (kept (body_scope (hidden_by names) known)) state)
back_fits laws names known state before bound end same first fits =
    subst (λ s. FitsKnown s (option_map (kept (body_scope (hidden_by names) known)) state)) same (laws.bodies (hidden_by names) known state before (store_kept bound end) first fits)

left_outcome : Laws → (b : ClosureBody) (known : RootMap) (j : Judgement) (before bound end : Store) (outcome : Outcome) → store_back (hidden_by b.names) before (store_kept bound end) ≡ store_back (hidden_by b.names) before end → FitsKnown before (Some known)
    → IsSoundOutcome j outcome (store_kept bound end) → IsSoundOutcome (left_body b known j) outcome (store_back (hidden_by b.names) before end)
left_outcome laws b known j before bound end (value v) same first sound = (sound.0, back_fits laws b.names known j.ok before bound end same first sound.1)
left_outcome laws b known j before bound end (error text) same first sound = back_fits laws b.names known j.fail before bound end same first sound
left_outcome laws b known j before bound end (returned v) same first sound = (sound.0, back_fits laws b.names known j.ret before bound end same first sound.1)
left_outcome laws b known j before bound end (aborted m) same first sound = tt
left_outcome laws b known j before bound end (banged text) same first sound = tt
left_outcome laws b known j before bound end deep same first sound = tt

-- ---- bodies

-- what is shown of a body, run with values of the kinds of its names
abbrev pub IsSoundBody : SettingTree → ClosureBody → Option RootMap → Judgement → Type 0
IsSoundBody setting b known j = HasNoError j.codes → AreWellFormedExprs (length setting.sources) b.items
    → (rest : List Tag) (span : Span) (vs : List Tree) (store : Store) → AreOfKinds vs b.kinds → AreWellFormed (length setting.sources) vs → IsWellFormedStore (length setting.sources) store → FitsKnown store known
    → IsSoundEnd j (eval_body setting (j.empties ++ rest) (closure b.names b.items span) vs store)

pub unreached_body_is_sound : (setting : SettingTree) (b : ClosureBody) (j : Judgement) → IsSoundBody setting b None j
unreached_body_is_sound setting b j none well rest span vs store kinds formed stored fits = absurd fits

pub reached_body_is_sound : Laws → (setting : SettingTree) (b : ClosureBody) (known : RootMap) (j : Judgement) → IsSoundBlock setting (Some (with_names b.names b.kinds known)) b.items j → IsSoundBody setting b (Some known) (left_body b known j)
reached_body_is_sound laws setting b known j block none well rest span vs store kinds formed stored fits =
    let bound = bound_to b.names vs store in
    let ended : Ended = eval_items setting (j.empties ++ rest) null b.items bound in
    let inner : IsSoundEnd j (block_left bound ended) = block none well rest bound (bound_is (length setting.sources) b.names vs store formed stored) (laws.names b.names vs b.kinds store known kinds fits) in
    left_outcome laws b known j store bound ended.store ended.outcome (back_is (hidden_by b.names) store bound ended.store (bound_keeps b.names vs store)) fits inner

-- ---- what is known before each run

-- Of the runs of a body that begin where something is known: each of them is sound, and what is known before it holds where they begin and behind each.
pub record AreSoundRuns (setting : SettingTree) (b : ClosureBody) (begin known : Option RootMap) (j : Judgement) : Type 0 where
  pub body : IsSoundBody setting b (if_state b.runs known) j
  pub begins : (store : Store) → FitsKnown store begin → FitsKnown store known
  pub goes_on : (store : Store) → FitsKnown store j.ok → FitsKnown store known
  pub cause : HasCause j

-- what is known at one try holds at the next
next_fits : Laws → (try : Try) (b : ClosureBody) (known behind next : Option RootMap) → IsNextTry try b known behind next → (store : Store) → FitsKnown store known → FitsKnown store next
next_fits laws first_try b known behind next is store fits = laws.flattening (exprs_write b.items) is.0 next store is.2 (left_joins laws known behind is.0 is.1 store fits)
next_fits laws second_try b known behind next is store fits = laws.forgetting (exprs_write b.items) known next store is fits
next_fits laws third_try b known behind next is store fits = absurd is

-- so runs that begin at the next are runs that begin at that one
pub runs_from_next : Laws → (setting : SettingTree) (try : Try) (b : ClosureBody) (known behind next last : Option RootMap) (j : Judgement) → IsNextTry try b known behind next → AreSoundRuns setting b next last j → AreSoundRuns setting b known last j
runs_from_next laws setting try b known behind next last j is runs = record {
  body = runs.body;
  begins = λ store fits. runs.begins store (next_fits laws try b known behind next is store fits);
  goes_on = runs.goes_on;
  cause = runs.cause;
}
