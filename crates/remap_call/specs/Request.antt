-- What a call asks: the words tell it, and the script and the kind file that they name.
use Rattle.std.specs.Prelude.{◌≡◌, ◌≢◌, ◌⊎◌, ℕ, ℤ, Bool, List, [], ◌∷◌, ◌++◌, Option, Some, None, IfSome, IsSomeAnd, ⊤}
use Rattle.vrl_value.specs.Tree.{Tree}
use Rattle.vrl_diag.specs.declared.diagnostic.Diagnostic.{Diagnostic}
use Rattle.vrl_kind.specs.KindTree.{KindTree}
use Rattle.vrl_kind.specs.Kinds.{Inhabits}
use Rattle.vrl_kindfile.specs.Files.{IsDeclared, IsRefused as IsFileRefused}
use Rattle.vrl_kindfile.specs.declared.fault.KindFault.{KindFault}
use Rattle.vrl_kindfile.specs.declared.fault.KindFault.TheVariants as fault
use Rattle.vrl_state.specs.Known.{known_as}
use Rattle.vrl_state.specs.States.{json_object, IsEither, IsJoined, RootMap}
use Rattle.vrl_state.specs.declared.known.Known.{Known}
use Rattle.vrl_syntax.specs.Tree.{Script}
use Rattle.vrl_token.specs.Reading.{IsNoScript}
use Rattle.vrl_token.specs.declared.token.Spanned.{Spanned}
use Rattle.vrl_judge.specs.Ordered.{AreOrdered}
use Rattle.vrl_judge.specs.Rules.{Judgement}
use Rattle.vrl_check.specs.Judgement.{JudgesScript}
use Rattle.vrl_check.specs.OpenRules.{language_rules}
use Rattle.vrl_compile.specs.Answer.{IsAccepted as IsAcceptedText, IsRefused as IsRefusedText, IsScript, IsSoundlyEnded}
use Rattle.vrl_compile.specs.Once.{StandOnce}
use Rattle.vrl_compile.specs.Program.{program_for}
use Rattle.vrl_compile.specs.Sound.{ends_of}
use Rattle.vrl_resolve.specs.Program.{ProgramTree, ended_over}
use Rattle.vrl_run.specs.Devices.{Held, IsLoaded}
use Rattle.vrl_run.specs.LineResult.{StandsFor}
use Rattle.vrl_run.specs.Request.{Request, ScriptRun, bad_kind, bad_script, bad_words, map_lines, map_made, tell_kinds}
use Rattle.vrl_run.specs.declared.options.Options.{Options}
use Rattle.remap_words.specs.Words.{Invocation, check, generate, lines}

-- ---- what is loaded

-- the bytes of a call's script, and those of its kind file
pub record Texts : Type 0 where
  pub script : Option (List ℕ)
  pub kind_file : Option (List ℕ)

pub record AreTextsOf (held : Held) (invocation : Invocation) (texts : Texts) : Type 0 where
  pub script : IsLoaded held invocation.script texts.script
  pub kind_file : IfSome invocation.kind (λ name. IsLoaded held name texts.kind_file)

-- words that are refused name nothing
abbrev pub AreTexts : Held → Option Invocation → Texts → Type 0
AreTexts held None texts = ⊤
AreTexts held (Some invocation) texts = AreTextsOf held invocation texts

-- Which name was added to the failures: none; that of the script; or that of the kind file, which
-- is loaded once the script is known to be a text.
pub data HasLoaded (invocation : Invocation) (texts : Texts) (failures after : List (List ℕ)) : Type 0 where
  none_failed : after ≡ failures → HasLoaded invocation texts failures after
  script_failed : after ≡ failures ++ invocation.script ∷ [] → HasLoaded invocation texts failures after
  kind_failed : (name text : List ℕ) → invocation.kind ≡ Some name → texts.script ≡ Some text → ¬ IsNoScript text
      → after ≡ failures ++ name ∷ [] → HasLoaded invocation texts failures after

-- words that are refused load nothing
abbrev pub HasLoadedBy : Option Invocation → Texts → List (List ℕ) → List (List ℕ) → Type 0
HasLoadedBy None texts failures after = after ≡ failures
HasLoadedBy (Some invocation) texts failures after = HasLoaded invocation texts failures after

-- ---- the declared kind

-- the kind of the events that are taken, by the kind file's name, if there is one, and its bytes;
-- without one they are objects of which nothing is known but that they are JSON
abbrev pub IsDeclaredKind : (name file : Option (List ℕ)) → KindTree → Type 0
IsDeclaredKind None file K = K ≡ json_object
IsDeclaredKind (Some name) file K = IsSomeAnd file (λ bytes. IsDeclared bytes K)

-- the kind file has no kind, for this reason
abbrev pub IsKindRefused : (name file : Option (List ℕ)) → KindFault → Type 0
IsKindRefused None file f = ⊥
IsKindRefused (Some name) file f = (f ≢ fault.Memory) × IsSomeAnd file (λ bytes. IsFileRefused bytes f)

-- ---- the script

-- 1009, script too long or not UTF-8
abbrev pub no_script_text : List Diagnostic
no_script_text = record { code = 1009; span = record { start = 0; end = 0 } } ∷ []

-- the request of a script whose bytes are no text
abbrev pub no_script_request : List ℕ → Request
no_script_request text = bad_script text no_script_text

-- the bytes are the text of this script
pub record IsTextOf (script : Script) (text : List ℕ) : Type 0 where
  pub tokens : List Spanned
  pub is_script : IsScript text tokens script

-- the bytes are those of this script, which is accepted over events of the kind; it is judged so,
-- and these are its diagnostics, all of them warnings
pub record IsAccepted (declared : KindTree) (text : List ℕ) (script : Script) (judgement : Judgement)
    (warnings : List Diagnostic) : Type 0 where
  pub is_text : ¬ IsNoScript text
  pub accepted : IsAcceptedText declared text script judgement
  pub ordered : AreOrdered judgement.codes warnings

-- the bytes are those of a script that is refused, with these diagnostics
pub data IsRefused (name file : Option (List ℕ)) (text : List ℕ) (diagnostics : List Diagnostic) : Type 0 where
  no_text : IsNoScript text → diagnostics ≡ no_script_text → IsRefused name file text diagnostics
  has_error : ¬ IsNoScript text → (declared : KindTree) → IsDeclaredKind name file declared
      → IsRefusedText declared text diagnostics → IsRefused name file text diagnostics

-- the program of a text handles each of its errors over each line that stands for an event of the
-- kind and its metadata, be it an envelope or not, at every moment: it ends with a value, by an
-- `abort`, by a call with a `!` or by the limit of depth. The value, the variables, the metadata
-- among them, and the event at each path are of the kinds that were judged
abbrev pub RunsSoundly : KindTree → List ℕ → ProgramTree → Type 0
RunsSoundly declared text program = (s : Script) → IsTextOf s text → (judgement : Judgement)
    → JudgesScript (language_rules s.patterns) declared s.items judgement
    → (envelope : Bool) (line : List ℕ) (event beside : Tree) → StandsFor envelope line (event, beside)
    → Inhabits event declared → (moment : ℤ)
    → IsSoundlyEnded (ends_of judgement) (ended_over program moment event beside)

-- so runs every script that is accepted
abbrev pub AcceptedScriptsRunSoundly : Type 0
AcceptedScriptsRunSoundly = (declared : KindTree) (text : List ℕ) (script : Script) (judgement : Judgement)
    (warnings : List Diagnostic) → IsAccepted declared text script judgement warnings
    → RunsSoundly declared text (program_for script judgement)

-- ---- the request

abbrev pub options_of : Invocation → Options
options_of invocation = record {
  drop_on_error = invocation.drop_on_error;
  keep_on_abort = invocation.keep_on_abort;
  envelope = invocation.envelope;
}

-- the script of this text is accepted, and is to run so
pub record IsRun (invocation : Invocation) (file : Option (List ℕ)) (text : List ℕ) (run : ScriptRun) : Type 0 where
  pub text_is : run.text ≡ text
  pub declared : IsDeclaredKind invocation.kind file run.declared
  pub script : Script
  pub judgement : Judgement
  pub accepted : IsAccepted run.declared text script judgement run.warnings
  pub program_is : run.program ≡ program_for script judgement
  pub options_are : run.options ≡ options_of invocation

-- the script of this text is accepted, and may end with these kinds: that of its value, at its end
-- or at a return, and what is known there
pub record IsKnown (invocation : Invocation) (file : Option (List ℕ)) (text : List ℕ) (warnings : List Diagnostic)
    (K : KindTree) (known : Known) : Type 0 where
  pub declared : KindTree
  pub is_declared : IsDeclaredKind invocation.kind file declared
  pub script : Script
  pub judgement : Judgement
  pub accepted : IsAccepted declared text script judgement warnings
  pub kind : IsEither judgement.kind judgement.returned K
  pub roots : Option RootMap
  pub joined : IsJoined judgement.ok judgement.ret roots
  pub known_is : known ≡ known_as roots

-- What a call asks whose script has these bytes: whether the script is a text comes first, then
-- whether the kind file has a kind, and then the script's diagnostics.
abbrev pub AsksByScript : Invocation → Option (List ℕ) → List ℕ → Request → Type 0
AsksByScript i file text bad_words = ⊥
AsksByScript i file text (bad_kind fault) = ¬ IsNoScript text × IsKindRefused i.kind file fault
AsksByScript i file text (bad_script told diagnostics) = (told ≡ text) × IsRefused i.kind file text diagnostics
AsksByScript i file text (map_lines run) = (i.mode ≡ lines) × IsRun i file text run
AsksByScript i file text (map_made run count seed) = (i.mode ≡ generate count seed) × IsRun i file text run
AsksByScript i file text (tell_kinds told warnings K known envelope) =
    (i.mode ≡ check) × (told ≡ text) × (envelope ≡ i.envelope) × IsKnown i file text warnings K known

-- what a call asks whose words mean this, or are refused, by its texts; without a script it asks
-- nothing
abbrev pub Asks : Option Invocation → Texts → Request → Type 0
Asks None texts request = request ≡ bad_words
Asks (Some i) texts request = IsSomeAnd texts.script (λ text. AsksByScript i texts.kind_file text request)

-- it asks to run a script, over lines that are read or made
abbrev pub AsksToRun : Option Invocation → Texts → ScriptRun → Type 0
AsksToRun invocation texts run =
    Asks invocation texts (map_lines run) ⊎ ((count : ℕ) × (seed : ℕ) × Asks invocation texts (map_made run count seed))

-- a name has no bytes that is to be loaded: that of the script, or that of the kind file where the
-- script is a text
pub data IsUnloaded (invocation : Invocation) (texts : Texts) : Type 0 where
  no_script : texts.script ≡ None → IsUnloaded invocation texts
  no_kind_file : (name text : List ℕ) → invocation.kind ≡ Some name → texts.script ≡ Some text → ¬ IsNoScript text
      → texts.kind_file ≡ None → IsUnloaded invocation texts

-- lines are read
abbrev pub ReadsLines : Option Invocation → Type 0
ReadsLines None = ⊥
ReadsLines (Some i) = i.mode ≡ lines

-- ---- what is told of a script

-- the diagnostics that a request holds
abbrev pub diagnostics_in : Request → List Diagnostic
diagnostics_in bad_words = []
diagnostics_in (bad_kind fault) = []
diagnostics_in (bad_script told diagnostics) = diagnostics
diagnostics_in (map_lines run) = run.warnings
diagnostics_in (map_made run count seed) = run.warnings
diagnostics_in (tell_kinds told warnings K known envelope) = warnings

-- none of them stands twice, whatever is asked
abbrev pub AreToldOnce : (Request → Type 0) → Type 0
AreToldOnce asks = (request : Request) → asks request → StandOnce (diagnostics_in request)
