-- What `compile` answers: the diagnostics of a text under a declared kind, by the first step that
-- gives any. The numbers of diagnostics are those of the Vector Remap Language's error reference,
-- but for those from 1000 on, which are this compiler's.
use Rattle.std.specs.Prelude.{◌≡◌, ℕ, ℤ, true, List, [], ◌∷◌, ◌++◌, length, Option, if◌then◌else◌, ⊤}
use Rattle.std.specs.List.{list_any}
use Rattle.vrl_value.specs.Tree.{Tree}
use Rattle.vrl_diag.specs.declared.diagnostic.Diagnostic.{Diagnostic}
use Rattle.vrl_diag.specs.declared.diagnostic.Span.{Span}
use Rattle.vrl_syntax.specs.Tree.{Script}
use Rattle.vrl_syntax.specs.Limits.{exprs_faults, KeepsLimits}
use Rattle.vrl_token.specs.Reading.{IsTokenized, IsTextFault}
use Rattle.vrl_token.specs.declared.token.Spanned.{Spanned}
use Rattle.vrl_parse.specs.Reading.{IsErrorPlace, Reads}
use Rattle.vrl_word.specs.Words.{regex_of}
use Rattle.vrl_kind.specs.KindTree.{KindTree}
use Rattle.vrl_kind.specs.Kinds.{Inhabits}
use Rattle.vrl_pattern.specs.Malformed.{is_malformed}
use Rattle.vrl_state.specs.States.{json_object, IsEither, IsJoined, RootMap}
use Rattle.vrl_store.specs.Outcomes.{Ended}
use Rattle.vrl_store.specs.WellFormed.{IsWellFormed}
use Rattle.vrl_check.specs.Answer.{IsJudged}
use Rattle.vrl_judge.specs.Returns.{return_kind, return_state}
use Rattle.vrl_diag.specs.Refusal.{is_error}
use Rattle.vrl_judge.specs.Rules.{Judgement}
use Rattle.vrl_check.specs.Judgement.{JudgesScript}
use Rattle.vrl_check.specs.OpenRules.{language_rules}
use Rattle.vrl_judge.specs.Ordered.{AreOrdered}
use Rattle.vrl_check.specs.declared.judged.Judged.{Judged}
use Rattle.vrl_resolve.specs.Meaning.{IsUnhandled}
use Rattle.vrl_resolve.specs.Program.{ended_over, program_of}
use Rattle.vrl_compile.specs.Program.{program_for}
use Rattle.vrl_compile.specs.Sound.{ComesTo, Ends, HasNoError, ends_of}
use Rattle.vrl_compile.specs.declared.script.Accepted.{Accepted as AcceptedScript}
use Rattle.vrl_compile.specs.declared.script.Compiled.{Compiled}
use Rattle.vrl_compile.specs.declared.script.Compiled.TheVariants.{Accepted, Refused}

-- ---- readings

-- these are the text's tokens, in which the grammar reads this script
pub record IsScript (text : List ℕ) (tokens : List Spanned) (script : Script) : Type 0 where
  pub tokenized : IsTokenized text tokens
  pub reads : Reads tokens script

-- the text has tokens, in which the grammar reads no script, and which go wrong at this place
pub record IsUngrammatical (text : List ℕ) (span : Span) : Type 0 where
  pub tokens : List Spanned
  pub tokenized : IsTokenized text tokens
  pub unread : (script : Script) → ¬ Reads tokens script
  pub place : IsErrorPlace (record { tokens = tokens; «end» = length text }) span

-- ---- diagnostics

-- 203, unrecognized token
abbrev pub unread_at : Span → List Diagnostic
unread_at span = record { code = 203; span = span } ∷ []

-- 101, malformed regex literal, where the token has a source, as a regex literal has, and that
-- isn't well formed
abbrev pub malformed_at : Span → List (List ℕ) → List Diagnostic
malformed_at span [] = []
malformed_at span (source ∷ sources) = if is_malformed source then record { code = 101; span = span } ∷ [] else []

-- at each of the tokens, in order
abbrev pub malformed_literals : List Spanned → List Diagnostic
malformed_literals [] = []
malformed_literals (t ∷ ts) = malformed_at t.span (regex_of t.token) ++ malformed_literals ts

-- nothing is wrong with a script before it is judged: its paths keep the limits, and its regex
-- literals are well formed
pub record CanBeJudged (tokens : List Spanned) (script : Script) : Type 0 where
  pub limits : KeepsLimits script.items
  pub well_formed : malformed_literals tokens ≡ []

-- the diagnostics of a script over events of a kind
pub data AreOfScript (declared : KindTree) (tokens : List Spanned) (script : Script)
    (diagnostics : List Diagnostic) : Type 0 where
  -- the first path that is written or deleted beyond the limits (1012)
  beyond : (first : Diagnostic) (others : List Diagnostic) → exprs_faults script.items ≡ first ∷ others
      → diagnostics ≡ first ∷ [] → AreOfScript declared tokens script diagnostics
  -- regex literals are malformed
  malformed : KeepsLimits script.items → (first : Diagnostic) (others : List Diagnostic)
      → malformed_literals tokens ≡ first ∷ others → diagnostics ≡ first ∷ others
      → AreOfScript declared tokens script diagnostics
  -- those of the judgement
  judged : CanBeJudged tokens script → (j : Judgement)
      → JudgesScript (language_rules script.patterns) declared script.items j → AreOrdered j.codes diagnostics
      → AreOfScript declared tokens script diagnostics

-- the diagnostics of a text
pub data AreDiagnostics (declared : KindTree) (text : List ℕ) (diagnostics : List Diagnostic) : Type 0 where
  -- a spelling is at fault, or tokens are nested too deeply (1008)
  wrong : (fault : Diagnostic) → IsTextFault text fault → diagnostics ≡ fault ∷ []
      → AreDiagnostics declared text diagnostics
  -- the grammar reads no script
  unread : (span : Span) → IsUngrammatical text span → diagnostics ≡ unread_at span
      → AreDiagnostics declared text diagnostics
  of_script : (tokens : List Spanned) (script : Script) → IsScript text tokens script
      → AreOfScript declared tokens script diagnostics → AreDiagnostics declared text diagnostics

-- ---- answers

-- the text is this script, nothing is wrong with it before it is judged, and of its diagnostics
-- none is an error
pub record IsAccepted (declared : KindTree) (text : List ℕ) (script : Script) (judgement : Judgement) : Type 0 where
  pub tokens : List Spanned
  pub is_script : IsScript text tokens script
  pub can_be_judged : CanBeJudged tokens script
  pub judges : JudgesScript (language_rules script.patterns) declared script.items judgement
  pub no_error : HasNoError judgement.codes

-- the text is a script that is accepted: this is how it was judged, the program is what it is run
-- as, and the sources are those of its regex literals
pub record IsAcceptedAs (declared : KindTree) (text : List ℕ) (answer : AcceptedScript) : Type 0 where
  pub script : Script
  pub judgement : Judgement
  pub accepted : IsAccepted declared text script judgement
  pub judged : IsJudged judgement answer.judged
  pub program : program_of answer.program ≡ program_for script judgement
  pub sources : answer.sources ≡ script.patterns

-- these are the text's diagnostics, and one of them is an error
pub record IsRefused (declared : KindTree) (text : List ℕ) (diagnostics : List Diagnostic) : Type 0 where
  pub are : AreDiagnostics declared text diagnostics
  pub error : list_any is_error diagnostics ≡ true

-- accepted as its judgement says, or refused with all its diagnostics
abbrev pub IsAnswer : KindTree → List ℕ → Compiled → Type 0
IsAnswer declared text (Accepted answer) = IsAcceptedAs declared text answer
IsAnswer declared text (Refused diagnostics) = IsRefused declared text diagnostics

-- ---- soundness

-- the ends that an answer tells
abbrev pub ends_told : Judged → Ends
ends_told told =
    record { kind = told.kind; ok = told.ok.known; returned = return_kind told.ret; ret = return_state told.ret }

-- a run of an accepted script ended so
pub record IsSoundlyEnded (ends : Ends) (ended : Ended) : Type 0 where
  -- it handled each of its errors
  pub handled : ¬ IsUnhandled ended.outcome
  pub came : ComesTo ends ended.outcome ended.store
  -- whichever end it is, a value is of the kind that joins those of both, which `ending` tells, and
  -- the store fits the join of what is known at them
  pub joined : (K : KindTree) (known : Option RootMap) → IsEither ends.kind ends.returned K
      → IsJoined ends.ok ends.ret known
      → ComesTo (record { kind = K; ok = known; returned = K; ret = known }) ended.outcome ended.store

-- so ends every script that is accepted, over every event of the declared kind and every metadata
-- that is an object of JSON, both well-formed, at every moment
abbrev pub AcceptedScriptsAreSound : Type 0
AcceptedScriptsAreSound = (declared : KindTree) (text : List ℕ) (script : Script) (j : Judgement)
    → IsAccepted declared text script j → (moment : ℤ) (event beside : Tree)
    → Inhabits event declared → Inhabits beside json_object
    → IsWellFormed (length script.patterns) event → IsWellFormed (length script.patterns) beside
    → IsSoundlyEnded (ends_of j) (ended_over (program_for script j) moment event beside)

-- the same of what `compile` answers
abbrev pub IsSoundAnswer : KindTree → Compiled → Type 0
IsSoundAnswer declared (Accepted answer) = (moment : ℤ) (event beside : Tree)
    → Inhabits event declared → Inhabits beside json_object
    → IsWellFormed (length answer.sources) event → IsWellFormed (length answer.sources) beside
    → IsSoundlyEnded (ends_told answer.judged) (ended_over (program_of answer.program) moment event beside)
IsSoundAnswer declared (Refused diagnostics) = ⊤
