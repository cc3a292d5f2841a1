-- The runs of a closure's body for the parts of a collection, one behind another: they end as they were judged, and the store before each of them
-- fits what is known there.
use Rattle.std.proofs.Common.{◌≡◌, ◌≢◌, ℕ, length, true, List, [], ◌∷◌, ◌++◌, append_assoc, append-nil, Option, refl, sym, ap, ◌∙◌, subst}
use Rattle.std.specs.Prelude.{⊤, All}
use Rattle.std.proofs.lemmas.List.Elements.{All-head, All-tail}
use Rattle.vrl_value.specs.Tree.{Tree, array as items}
use Rattle.vrl_value.specs.View.{items_of_trees}
use Rattle.vrl_value.specs.declared.value.Tag.{Tag}
use Rattle.vrl_diag.specs.declared.diagnostic.Span.{Span}
use Rattle.vrl_syntax.specs.Tree.{closure}
use Rattle.vrl_state.specs.States.{RootMap}
use Rattle.vrl_state.specs.Stores.{AreOfKinds, FitsKnown, Store}
use Rattle.vrl_builtin.specs.Rows.{SettingTree}
use Rattle.vrl_store.specs.WellFormed.{AreWellFormed, AreWellFormedExprs, IsWellFormedStore}
use Rattle.vrl_judge.specs.Closures.{ClosureBody}
use Rattle.vrl_judge.specs.Rules.{Judgement, Loop}
use Rattle.vrl_check.specs.Judgement.{run_through}
use Rattle.vrl_resolve.specs.Iteration.{Body, runs}
use Rattle.vrl_resolve.specs.Meaning.{eval_body}
use Rattle.vrl_compile.specs.Sound.{HasNoError, RunsTo, not_yet, once_more}
use Rattle.vrl_compile.specs.SoundLaws.{Laws}
use Rattle.vrl_compile.proofs.SoundBodies.{AreSoundRuns}
use Rattle.vrl_compile.proofs.SoundEnds.{IsGiven, IsSoundAs, IsValueOf, as_on_value, as_weaker, ends_alike, possible_state, sound_given}

-- ---- what a body is run with, and what its runs give

-- the collection may have such a part, and the values for the names are of their kinds
pub record IsRunWith (count : ℕ) (b : ClosureBody) (vs : List Tree) : Type 0 where
  pub possible : b.runs ≡ true
  pub kinds : AreOfKinds vs b.kinds
  pub well : AreWellFormed count vs

abbrev pub AreRunWith : ℕ → ClosureBody → List (List Tree) → Type 0
AreRunWith count b [] = ⊤
AreRunWith count b (vs ∷ vss) = IsRunWith count b vs × AreRunWith count b vss

-- the value of a run
abbrev pub IsResult : Judgement → Tree → Type 0
IsResult j r = (after : Store) × IsValueOf j r after

-- one for each run
abbrev pub AreResults : {A : Type 0} → Judgement → List A → List Tree → Type 0
AreResults j [] [] = ⊤
AreResults j (p ∷ ps) (r ∷ rs) = IsResult j r × AreResults j ps rs
AreResults j ps rs = ⊥

-- the array of such values behind these, and the store that the runs left
pub record AreRun (vss : List (List Tree)) (before : List Tree) (j : Judgement) (known : Option RootMap) (v : Tree) (after : Store) : Type 0 where
  pub results : List Tree
  pub is : v ≡ items (items_of_trees (before ++ results))
  pub each : AreResults j vss results
  pub ok : FitsKnown after known

one_more_run : (vs : List Tree) (vss : List (List Tree)) (before : List Tree) (j : Judgement) (known : Option RootMap) (r v : Tree) (after : Store) → IsResult j r → AreRun vss (before ++ r ∷ []) j known v after → AreRun (vs ∷ vss) before j known v after
one_more_run vs vss before j known r v after given more = record {
  results = r ∷ more.results;
  is = more.is ∙ ap (λ rs. items (items_of_trees rs)) (append_assoc before (r ∷ []) more.results);
  each = (given, more.each);
  ok = more.ok;
}

-- ---- the runs

module _ (laws : Laws) (setting : SettingTree) (b : ClosureBody) (begin : Option RootMap) (loop : Loop) (j : Judgement) (sound : AreSoundRuns setting b begin loop.known j) (none : HasNoError j.codes) (well : AreWellFormedExprs (length setting.sources) b.items)
    (rest : List Tag) (span : Span) where
  abbrev count : ℕ
  count = length setting.sources

  abbrev body : Body
  body = eval_body setting (j.empties ++ rest) (closure b.names b.items span)

  one_run : (vs : List Tree) (store : Store) → IsRunWith count b vs → IsWellFormedStore count store → FitsKnown store loop.known → IsSoundAs (IsGiven count j) j (body vs store)
  one_run vs store are stored fits =
      sound_given count j (body vs store) (sound.body none well rest span vs store are.kinds are.well stored (possible_state b.runs loop.known store are.possible fits))
      (laws.kept.body setting (j.empties ++ rest) (closure b.names b.items span) well vs store are.well stored)

  pub runs_sound : (vss : List (List Tree)) (rs : List Tree) (store : Store) → AreRunWith count b vss → IsWellFormedStore count store → FitsKnown store loop.known → IsSoundAs (AreRun vss rs j loop.known) (run_through loop j) (runs body vss rs store)
  runs_sound [] rs store are stored fits = record { results = []; is = ap (λ us. items (items_of_trees us)) (sym (append-nil rs)); each = tt; ok = fits }
  runs_sound (vs ∷ vss) rs store are stored fits =
      as_on_value (IsGiven count j) (AreRun (vs ∷ vss) rs j loop.known) j (run_through loop j) (body vs store) (λ r after. runs body vss (rs ++ r ∷ []) after) (ends_alike j (run_through loop j) refl refl refl) (one_run vs store are.0 stored fits)
      (λ r after came.
      as_weaker (AreRun vss (rs ++ r ∷ []) j loop.known) (AreRun (vs ∷ vss) rs j loop.known) (run_through loop j) (runs body vss (rs ++ r ∷ []) after) (λ v end. one_more_run vs vss rs j loop.known r v end (after, (came.kind, came.ok)))
      (runs_sound vss (rs ++ r ∷ []) after are.1 came.stored (sound.goes_on after came.ok)))

  -- where each of them ended with a value
  ran_to : (run : Body) → ((vs : List Tree) (end : Store) → IsRunWith count b vs → IsWellFormedStore count end → FitsKnown end loop.known → IsSoundAs (IsGiven count j) j (run vs end))
      → {vss : List (List Tree)} {store after : Store} → RunsTo run vss store after → AreRunWith count b vss → IsWellFormedStore count store → FitsKnown store loop.known → FitsKnown after loop.known
  ran_to run each not_yet are stored fits = fits
  ran_to run each (once_more {vs = vs} {v = v} {store = store} {between = between} is more) are stored fits =
      let came : IsGiven count j v between = subst (IsSoundAs (IsGiven count j) j) is (each vs store are.0 stored fits) in
      ran_to run each more are.1 came.stored (sound.goes_on between came.ok)

  pub runs_keep : (vss : List (List Tree)) (store after : Store) → AreRunWith count b vss → IsWellFormedStore count store → FitsKnown store begin → RunsTo body vss store after → FitsKnown after loop.known
  runs_keep vss store after are stored fits ran = ran_to body one_run ran are stored (sound.begins store fits)

-- the first of them
pub first_run_with : (n : ℕ) (b : ClosureBody) (vss others : List (List Tree)) → AreRunWith n b (vss ++ others) → AreRunWith n b vss
first_run_with n b [] others are = tt
first_run_with n b (vs ∷ vss) others are = (are.0, first_run_with n b vss others are.1)

-- values for the names, given for each run
pub all_run_with : (count : ℕ) (b : ClosureBody) (vss : List (List Tree)) → (vss ≢ [] → b.runs ≡ true) → All (λ vs. AreOfKinds vs b.kinds) vss → All (AreWellFormed count) vss → AreRunWith count b vss
all_run_with count b [] possible kinds well = tt
all_run_with count b (vs ∷ vss) possible kinds well =
    let runs_it : b.runs ≡ true = possible (λ is. cc) in (
      record { possible = runs_it; kinds = All-head (λ us. AreOfKinds us b.kinds) vs vss kinds; well = All-head (AreWellFormed count) vs vss well },
      all_run_with count b vss (λ some. runs_it) (All-tail (λ us. AreOfKinds us b.kinds) vs vss kinds) (All-tail (AreWellFormed count) vs vss well),
    )
