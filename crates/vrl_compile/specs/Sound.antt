-- Soundness: what the judgement says holds of the meaning. This is the Vector Remap Language's
-- claim that a program that compiles handles each of its errors.
use Rattle.std.specs.Prelude.{◌≡◌, ◌≢◌, ℕ, ℤ, Bool, true, false, List, [], ◌∷◌, ◌++◌, All, Option, ⊤, length}
use Rattle.std.specs.List.{list_any}
use Rattle.vrl_value.specs.Tag.{tag_of}
use Rattle.vrl_value.specs.Tree.{Tree}
use Rattle.vrl_value.specs.declared.value.Tag.{Tag}
use Rattle.vrl_diag.specs.declared.diagnostic.Diagnostic.{Diagnostic}
use Rattle.vrl_diag.specs.declared.diagnostic.Span.{Span}
use Rattle.vrl_syntax.specs.Tree.{closure, Expr, Exprs}
use Rattle.vrl_syntax.specs.declared.call_form.CallForm.{CallForm}
use Rattle.vrl_kind.specs.KindTree.{KindTree}
use Rattle.vrl_kind.specs.Kinds.{Inhabits}
use Rattle.vrl_kind.specs.PartSets.{parts_at}
use Rattle.vrl_state.specs.States.{json_object, IsCutOf, RootMap}
use Rattle.vrl_state.specs.Stores.{AreOfKinds, FitsKnown, Store}
use Rattle.vrl_builtin.specs.Rows.{SettingTree}
use Rattle.vrl_builtin.specs.TagSets.{allows}
use Rattle.vrl_binding.specs.Binding.{collections}
use Rattle.vrl_store.specs.Outcomes.{Outcome, value, error, returned, Ended}
use Rattle.vrl_store.specs.WellFormed.{AreWellFormed, IsWellFormed, IsWellFormedExpr, AreWellFormedExprs, IsWellFormedStore}
use Rattle.vrl_diag.specs.Refusal.{is_error}
use Rattle.vrl_judge.specs.Closures.{ClosureBody, key_tags}
use Rattle.vrl_judge.specs.Rules.{Judgement, Loop, scalars_at}
use Rattle.vrl_check.specs.Judgement.{IsCutDown, Judges, JudgesRuns, JudgesScript, body_of}
use Rattle.vrl_check.specs.OpenRules.{GiveWhatHolds, OpenRules}
use Rattle.vrl_resolve.specs.Calls.{Body}
use Rattle.vrl_resolve.specs.Iteration.{given_by}
use Rattle.vrl_resolve.specs.Meaning.{eval, eval_body, run_script}

-- none of the codes is an error
abbrev pub HasNoError : List Diagnostic → Type 0
HasNoError codes = list_any is_error codes ≡ false

-- ---- expressions

-- A value, also that of a return, is of the kind that was judged, and the store fits what is known
-- at that end. Of an end by `abort`, by a call with a `!` or by the limit of depth nothing is said.
abbrev pub IsSoundOutcome : Judgement → Outcome → Store → Type 0
IsSoundOutcome j (value v) store = Inhabits v j.kind × FitsKnown store j.ok
IsSoundOutcome j (error text) store = FitsKnown store j.fail
IsSoundOutcome j (returned v) store = Inhabits v j.returned × FitsKnown store j.ret
IsSoundOutcome j other store = ⊤

-- it ended as it was judged
abbrev pub IsSoundEnd : Judgement → Ended → Type 0
IsSoundEnd j ended = IsSoundOutcome j ended.outcome ended.store

-- run from any store that fits what is known, and with any tags behind its own, it ends as it was
-- judged
abbrev pub IsSoundFrom : SettingTree → Option RootMap → Expr → Judgement → Type 0
IsSoundFrom setting known e j = (rest : List Tag) (store : Store) → IsWellFormedStore (length setting.sources) store
    → FitsKnown store known → IsSoundEnd j (eval setting (j.empties ++ rest) e store)

-- the setting of a run of what is judged by these rules
abbrev pub setting_of : ℤ → OpenRules → SettingTree
setting_of moment rules = record { moment = moment; sources = rules.sources }

-- so it is of every expression of well-formed literals, wherever it is judged without an error
-- code, by whatever the rules leave open, where each state of a closure that they give holds
abbrev pub ExpressionsAreSound : Type 0
ExpressionsAreSound = (moment : ℤ) (rules : OpenRules) → GiveWhatHolds rules
    → (inside : Bool) (known : Option RootMap) (e : Expr) (j : Judgement) → Judges rules inside known e j
    → HasNoError j.codes → IsWellFormedExpr (length rules.sources) e
    → IsSoundFrom (setting_of moment rules) known e j

-- ---- closures

-- a closure's body runs over values for its names, one list of them behind the other, from the
-- first store to the second: each of these runs ends with a value
pub data RunsTo (body : Body) : List (List Tree) → Store → Store → Type 0 where
  not_yet : {store : Store} → RunsTo body [] store store
  once_more : {vs : List Tree} {vss : List (List Tree)} {v : Tree} {store between after : Store}
      → body vs store ≡ record { outcome = value v; store = between } → RunsTo body vss between after
      → RunsTo body (vs ∷ vss) store after

-- the store before each run of a closure's body fits what is known there, however many runs there
-- were
pub record ClosuresAreSound : Type 0 where
  -- It is so where the body is run for parts that the collection may have, with values of the kinds
  -- of its names, and with the tags of its own empty values. And it is so of whatever is known that
  -- what is known where the call begins to run the body is within, and that the body keeps: whether
  -- a try gave it, or the rules allow it.
  pub runs : (moment : ℤ) (rules : OpenRules) → GiveWhatHolds rules
      → (b : ClosureBody) (span : Span) (begin : Option RootMap) (loop : Loop) (j : Judgement)
      → JudgesRuns rules b begin loop j → HasNoError j.codes → AreWellFormedExprs (length rules.sources) b.items
      → (rest : List Tag) (vss : List (List Tree)) (store after : Store)
      → (vss ≢ [] → b.runs ≡ true)
      → All (λ vs. AreOfKinds vs b.kinds) vss → All (AreWellFormed (length rules.sources)) vss
      → IsWellFormedStore (length rules.sources) store → FitsKnown store begin
      → RunsTo (eval_body (setting_of moment rules) (j.empties ++ rest) (closure b.names b.items span)) vss store after
      → FitsKnown after loop.known
  -- So it is of a call of a function that takes a closure. Its argument is of the kind K, which is
  -- cut down to the tags of a collection, as C; its names stand for keys and parts of that. The
  -- argument's value is a collection, and the body is run for the first parts of it, or for all.
  pub calls : (moment : ℤ) (rules : OpenRules) → GiveWhatHolds rules
      → (f : CallForm) (names : List (List ℕ)) (es : Exprs) (K C key part : KindTree)
      → IsCutDown (collections f) K C → IsCutOf (scalars_at (key_tags C)) key → IsCutOf (parts_at C) part
      → (span : Span) (begin : Option RootMap) (loop : Loop) (j : Judgement)
      → JudgesRuns rules (body_of f names es key part) begin loop j → HasNoError j.codes
      → AreWellFormedExprs (length rules.sources) es
      → (v : Tree) → Inhabits v K → allows (collections f) (tag_of v) ≡ true → IsWellFormed (length rules.sources) v
      → (rest : List Tag) (vss others : List (List Tree)) (store after : Store)
      → given_by f v ≡ vss ++ others → IsWellFormedStore (length rules.sources) store → FitsKnown store begin
      → RunsTo (eval_body (setting_of moment rules) (j.empties ++ rest) (closure names es span)) vss store after
      → FitsKnown after loop.known

-- ---- scripts

-- the ends of a script that has a value: at its end, of which kind it is and what is known there,
-- and the same at a return
pub record Ends : Type 0 where
  pub kind : KindTree
  pub ok : Option RootMap
  pub returned : KindTree
  pub ret : Option RootMap

-- as a judgement says
abbrev pub ends_of : Judgement → Ends
ends_of j = record { kind = j.kind; ok = j.ok; returned = j.returned; ret = j.ret }

-- A run came to one of its ends: a value is of the kind that it has there, and the store that is
-- left fits what is known there. An error is none of them; of an `abort`, a call with a `!` and the
-- limit of depth nothing more is said.
abbrev pub ComesTo : Ends → Outcome → Store → Type 0
ComesTo ends (value v) store = Inhabits v ends.kind × FitsKnown store ends.ok
ComesTo ends (returned v) store = Inhabits v ends.returned × FitsKnown store ends.ret
ComesTo ends (error text) store = ⊥
ComesTo ends other store = ⊤

-- the run of a script over an event and its metadata, with the empty values of its judgement, comes
-- to one of the ends that were judged
abbrev pub IsSoundOver : SettingTree → Judgement → Exprs → (event beside : Tree) → Type 0
IsSoundOver setting j items event beside =
    let ended = run_script setting j.empties items event beside in ComesTo (ends_of j) ended.outcome ended.store

-- so it is of every script of well-formed literals that is judged without an error code, by
-- whatever the rules leave open, where each state of a closure that they give holds, over every
-- event of the declared kind and every metadata that is an object of JSON, both well-formed
abbrev pub ScriptsAreSound : Type 0
ScriptsAreSound = (moment : ℤ) (rules : OpenRules) → GiveWhatHolds rules
    → (declared : KindTree) (items : Exprs) (j : Judgement) → JudgesScript rules declared items j → HasNoError j.codes
    → AreWellFormedExprs (length rules.sources) items
    → (event beside : Tree) → Inhabits event declared → Inhabits beside json_object
    → IsWellFormed (length rules.sources) event → IsWellFormed (length rules.sources) beside
    → IsSoundOver (setting_of moment rules) j items event beside
