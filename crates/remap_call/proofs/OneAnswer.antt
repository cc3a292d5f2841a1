-- What a call asks has one answer.
use Rattle.std.proofs.Common.{◌≡◌, ◌≢◌, ℕ, Bool, List, Option, Some, None, true, false, refl, sym, ap, ◌∙◌, subst, arith}
use Rattle.std.specs.List.{list_any}
use Rattle.std.proofs.lemmas.List.Sorted.{list_any-IsPermutation}
use Rattle.vrl_diag.specs.Refusal.{is_error}
use Rattle.vrl_diag.specs.declared.diagnostic.Diagnostic.{Diagnostic}
use Rattle.vrl_kind.specs.KindTree.{KindTree}
use Rattle.vrl_kindfile.specs.Files.{IsDeclared, IsRefused as IsFileRefused}
use Rattle.vrl_kindfile.specs.Laws.{FilesHaveOneAnswer}
use Rattle.vrl_kindfile.specs.declared.fault.KindFault.{KindFault}
use Rattle.vrl_kindfile.specs.declared.fault.KindFault.TheVariants as fault
use Rattle.vrl_state.specs.Known.{known_as}
use Rattle.vrl_state.specs.States.{IsEither, IsJoined}
use Rattle.vrl_state.specs.declared.known.Known.{Known}
use Rattle.vrl_syntax.specs.Tree.{Script}
use Rattle.vrl_judge.specs.Rules.{Judgement}
use Rattle.vrl_check.specs.Judgement.{JudgesScript}
use Rattle.vrl_check.specs.OpenRules.{language_rules}
use Rattle.vrl_compile.specs.Answer.{AreDiagnostics, judged, of_script}
use Rattle.vrl_compile.specs.Program.{program_for}
use Rattle.vrl_run.specs.Request.{MayCome, Request, ScriptRun, bad_kind, bad_script, bad_words, map_lines, map_made, tell_kinds}
use Rattle.vrl_run.specs.declared.status.Status.{Status}
use Rattle.remap_call.specs.Laws.{Laws}
use Rattle.remap_call.specs.OneAnswer.{HasOneAnswer}
use Rattle.remap_call.specs.Request.{Asks, AsksByScript, IsAccepted, IsDeclaredKind, IsKindRefused, IsKnown, IsRefused, IsRun, Texts, has_error, no_text}
use Rattle.remap_words.specs.Words.{Invocation, Mode, check, generate, lines}

-- ---- the declared kind is one, or the kind file has one fault

same_kind : FilesHaveOneAnswer → (name file : Option (List ℕ)) (K L : KindTree) → IsDeclaredKind name file K → IsDeclaredKind name file L → K ≡ L
same_kind files None file K L one two = one ∙ sym two
same_kind files (Some name) None K L one two = absurd one
same_kind files (Some name) (Some bytes) K L one two = files.one_kind bytes K L one two

declared_or_refused : FilesHaveOneAnswer → (bytes : List ℕ) (K : KindTree) (f : KindFault) → f ≢ fault.Memory → IsDeclared bytes K → IsFileRefused bytes f → ⊥
declared_or_refused files bytes K fault.TooLong other is refused = omega (arith, is.text.size, refused)
declared_or_refused files bytes K fault.NotJson other is refused = files.kind_or_not_json bytes K is refused
declared_or_refused files bytes K (fault.Bad pointer) other is refused = files.kind_or_fault bytes pointer K is refused
declared_or_refused files bytes K fault.Memory other is refused = other refl

not_declared_and_refused : FilesHaveOneAnswer → (name file : Option (List ℕ)) (K : KindTree) (f : KindFault) → IsDeclaredKind name file K → IsKindRefused name file f → ⊥
not_declared_and_refused files None file K f is refused = refused
not_declared_and_refused files (Some name) None K f is refused = is
not_declared_and_refused files (Some name) (Some bytes) K f is refused = declared_or_refused files bytes K f refused.0 is refused.1

one_fault : FilesHaveOneAnswer → (bytes : List ℕ) (f g : KindFault) → f ≢ fault.Memory → g ≢ fault.Memory → IsFileRefused bytes f → IsFileRefused bytes g → f ≡ g
one_fault files bytes fault.TooLong fault.TooLong some other one two = refl
one_fault files bytes fault.TooLong fault.NotJson some other one two = absurd (omega (arith, one, two.size))
one_fault files bytes fault.TooLong (fault.Bad p) some other one two = absurd (omega (arith, one, two.text.size))
one_fault files bytes fault.NotJson fault.TooLong some other one two = absurd (omega (arith, two, one.size))
one_fault files bytes fault.NotJson fault.NotJson some other one two = refl
one_fault files bytes fault.NotJson (fault.Bad p) some other one two = absurd (files.fault_or_not_json bytes p two one)
one_fault files bytes (fault.Bad p) fault.TooLong some other one two = absurd (omega (arith, two, one.text.size))
one_fault files bytes (fault.Bad p) fault.NotJson some other one two = absurd (files.fault_or_not_json bytes p one two)
one_fault files bytes (fault.Bad p) (fault.Bad q) some other one two = ap fault.Bad (files.one_fault bytes p q one two)
one_fault files bytes fault.Memory g some other one two = absurd (some refl)
one_fault files bytes f fault.Memory some other one two = absurd (other refl)

same_fault : FilesHaveOneAnswer → (name file : Option (List ℕ)) (f g : KindFault) → IsKindRefused name file f → IsKindRefused name file g → f ≡ g
same_fault files None file f g one two = absurd one
same_fault files (Some name) None f g one two = absurd one.1
same_fault files (Some name) (Some bytes) f g one two = one_fault files bytes f g one.0 two.0 one.1 two.1

-- ---- a text is refused or accepted, in one way

accepted_diagnostics : {declared : KindTree} {text : List ℕ} {script : Script} {judgement : Judgement} {warnings : List Diagnostic} → IsAccepted declared text script judgement warnings → AreDiagnostics declared text warnings
accepted_diagnostics {script = script} {judgement = judgement} is = let accepted = is.accepted in of_script accepted.tokens script accepted.is_script (judged accepted.can_be_judged judgement accepted.judges is.ordered)

-- what is accepted has no error
no_warning : {declared : KindTree} {text : List ℕ} {script : Script} {judgement : Judgement} {warnings : List Diagnostic} → IsAccepted declared text script judgement warnings → list_any is_error warnings ≡ false
no_warning {judgement = judgement} {warnings = warnings} is = sym (list_any-IsPermutation is_error judgement.codes warnings is.ordered.same) ∙ is.accepted.no_error

not_alike : (ds es : List Diagnostic) → list_any is_error ds ≡ true → list_any is_error es ≡ false → ¬ (ds ≡ es)
not_alike ds es error none is = let wrong : true ≡ false = sym error ∙ ap (list_any is_error) is ∙ none in cc

not_refused_and_accepted : Laws → (name file : Option (List ℕ)) {K : KindTree} {text : List ℕ} {ds : List Diagnostic} {script : Script} {judgement : Judgement} {warnings : List Diagnostic}
    → IsDeclaredKind name file K → IsRefused name file text ds → ¬ IsAccepted K text script judgement warnings
not_refused_and_accepted laws name file declared (no_text none is) accepted = accepted.is_text none
not_refused_and_accepted laws name file {K} {text} {ds} {script} {judgement} {warnings} declared (has_error is L too refused) accepted =
    let same : L ≡ K = same_kind laws.kind_files name file L K too declared in
    not_alike ds warnings refused.error (no_warning accepted) (laws.diagnostics K text ds warnings (subst (λ M. AreDiagnostics M text ds) same refused.are) (accepted_diagnostics accepted))

one_refusal : Laws → (name file : Option (List ℕ)) (text : List ℕ) (ds es : List Diagnostic) → IsRefused name file text ds → IsRefused name file text es → ds ≡ es
one_refusal laws name file text ds es (no_text none one) (no_text too two) = one ∙ sym two
one_refusal laws name file text ds es (no_text none one) (has_error is K declared two) = absurd (is none)
one_refusal laws name file text ds es (has_error is K declared one) (no_text none two) = absurd (is none)
one_refusal laws name file text ds es (has_error is K declared one) (has_error too L also two) =
    laws.diagnostics L text ds es (subst (λ M. AreDiagnostics M text ds) (same_kind laws.kind_files name file K L declared also) one.are) two.are

-- what two acceptances of a text have in common
record AreOne (script other : Script) (judgement judged : Judgement) (warnings warned : List Diagnostic) : Type 0 where
  pub scripts : script ≡ other
  pub judgements : judgement ≡ judged
  pub warnings_are : warnings ≡ warned

accepted_once : Laws → {K : KindTree} {text : List ℕ} {script other : Script} {judgement judged : Judgement} {warnings warned : List Diagnostic} → IsAccepted K text script judgement warnings → IsAccepted K text other judged warned → AreOne script other judgement judged warnings warned
accepted_once laws {K} {text} {script} {other} {judgement} {judged} {warnings} {warned} one two =
    let scripts : script ≡ other = (laws.readings text one.accepted.tokens two.accepted.tokens script other one.accepted.is_script two.accepted.is_script).script_is in
    let judges : JudgesScript (language_rules other.patterns) K other.items judgement = subst (λ s. JudgesScript (language_rules s.patterns) K s.items judgement) scripts one.accepted.judges in
    let sources = other.patterns in
    record {
      scripts = scripts;
      judgements = laws.judgements.script (language_rules sources) (laws.judgements.language sources) K other.items judgement judged judges two.accepted.judges;
      warnings_are = laws.diagnostics K text warnings warned (accepted_diagnostics one) (accepted_diagnostics two);
    }

-- a text is run in one way
one_run : Laws → (i : Invocation) (file : Option (List ℕ)) (text : List ℕ) (run other : ScriptRun) → IsRun i file text run → IsRun i file text other → run ≡ other
one_run laws i file text run other one two =
    let kinds : run.declared ≡ other.declared = same_kind laws.kind_files i.kind file run.declared other.declared one.declared two.declared in
    let both = accepted_once laws (subst (λ K. IsAccepted K text one.script one.judgement run.warnings) kinds one.accepted) two.accepted in
    let texts : run.text ≡ other.text = one.text_is ∙ sym two.text_is in
    let programs : run.program ≡ other.program = one.program_is ∙ ap (λ s. program_for s one.judgement) both.scripts ∙ ap (program_for two.script) both.judgements ∙ sym two.program_is in
    let options : run.options ≡ other.options = one.options_are ∙ sym two.options_are in
    λ n. record { text = texts n; program = programs n; declared = kinds n; options = options n; warnings = both.warnings_are n }

-- what its kinds are told as is one
one_telling : Laws → (i : Invocation) (file : Option (List ℕ)) (text : List ℕ) (warnings warned : List Diagnostic) (K L : KindTree) (known other : Known) (envelope : Bool) → IsKnown i file text warnings K known → IsKnown i file text warned L other
    → tell_kinds text warnings K known envelope ≡ tell_kinds text warned L other envelope
one_telling laws i file text warnings warned K L known other envelope one two =
    let kinds : one.declared ≡ two.declared = same_kind laws.kind_files i.kind file one.declared two.declared one.is_declared two.is_declared in
    let both = accepted_once laws (subst (λ M. IsAccepted M text one.script one.judgement warnings) kinds one.accepted) two.accepted in
    let told : IsEither two.judgement.kind two.judgement.returned K = subst (λ j. IsEither j.kind j.returned K) both.judgements one.kind in
    let kind : K ≡ L = laws.judgements.kind two.judgement.kind two.judgement.returned K L told two.kind in
    let joined : IsJoined two.judgement.ok two.judgement.ret one.roots = subst (λ j. IsJoined j.ok j.ret one.roots) both.judgements one.joined in
    let roots = laws.judgements.join two.judgement.ok two.judgement.ret one.roots two.roots joined two.joined in
    let states : known ≡ other = one.known_is ∙ ap known_as roots ∙ sym two.known_is in
    λ n. tell_kinds text (both.warnings_are n) (kind n) (states n) envelope

-- ---- requests

-- a kind file that is refused leaves nothing else to be asked
kind_alone : Laws → (i : Invocation) (file : Option (List ℕ)) (text : List ℕ) (f : KindFault) (b : Request) → AsksByScript i file text (bad_kind f) → AsksByScript i file text b → b ≡ bad_kind f
kind_alone laws i file text f bad_words one two = absurd two
kind_alone laws i file text f (bad_kind g) one two = ap bad_kind (same_fault laws.kind_files i.kind file g f two.1 one.1)
kind_alone laws i file text f (bad_script told ds) one (is, no_text none only) = absurd (one.0 none)
kind_alone laws i file text f (bad_script told ds) one (is, has_error some K declared refused) = absurd (not_declared_and_refused laws.kind_files i.kind file K f declared one.1)
kind_alone laws i file text f (map_lines run) one two = absurd (not_declared_and_refused laws.kind_files i.kind file run.declared f two.1.declared one.1)
kind_alone laws i file text f (map_made run count seed) one two = absurd (not_declared_and_refused laws.kind_files i.kind file run.declared f two.1.declared one.1)
kind_alone laws i file text f (tell_kinds told warnings K known envelope) one two = absurd (not_declared_and_refused laws.kind_files i.kind file two.3.declared f two.3.is_declared one.1)

-- a script that is refused isn't run
run_not_refused : Laws → (i : Invocation) (file : Option (List ℕ)) (text : List ℕ) (ds : List Diagnostic) (run : ScriptRun) → IsRefused i.kind file text ds → IsRun i file text run → ⊥
run_not_refused laws i file text ds run refused is = not_refused_and_accepted laws i.kind file is.declared refused is.accepted

telling_not_refused : Laws → (i : Invocation) (file : Option (List ℕ)) (text : List ℕ) (ds warnings : List Diagnostic) (K : KindTree) (known : Known) → IsRefused i.kind file text ds → IsKnown i file text warnings K known → ⊥
telling_not_refused laws i file text ds warnings K known refused is = not_refused_and_accepted laws i.kind file is.is_declared refused is.accepted

-- a call has one mode
lines_not_check : {m : Mode} → m ≡ lines → m ≡ check → ⊥
lines_not_check one two = let wrong : lines ≡ check = sym one ∙ two in cc

lines_not_generate : {m : Mode} {count seed : ℕ} → m ≡ lines → m ≡ generate count seed → ⊥
lines_not_generate {count = count} {seed = seed} one two = let wrong : lines ≡ generate count seed = sym one ∙ two in cc

check_not_generate : {m : Mode} {count seed : ℕ} → m ≡ check → m ≡ generate count seed → ⊥
check_not_generate {count = count} {seed = seed} one two = let wrong : check ≡ generate count seed = sym one ∙ two in cc

same_made : Laws → (i : Invocation) (file : Option (List ℕ)) (text : List ℕ) (run other : ScriptRun) (count seed number start : ℕ) → AsksByScript i file text (map_made run count seed) → AsksByScript i file text (map_made other number start) → map_made run count seed ≡ map_made other number start
same_made laws i file text run other count seed number start one two =
    let modes : generate count seed ≡ generate number start = sym one.0 ∙ two.0 in
    let counts : count ≡ number = cc in
    let seeds : seed ≡ start = cc in
    let runs = one_run laws i file text run other one.1 two.1 in
    λ n. map_made (runs n) (counts n) (seeds n)

refused_requests : Laws → (i : Invocation) (file : Option (List ℕ)) (text told too : List ℕ) (ds es : List Diagnostic) → AsksByScript i file text (bad_script told ds) → AsksByScript i file text (bad_script too es) → bad_script told ds ≡ bad_script too es
refused_requests laws i file text told too ds es one two =
    ap (λ t. bad_script t ds) (one.0 ∙ sym two.0) ∙ ap (bad_script too) (one_refusal laws i.kind file text ds es one.1 two.1)

same_tellings : Laws → (i : Invocation) (file : Option (List ℕ)) (text told too : List ℕ) (warnings warned : List Diagnostic) (K L : KindTree) (known other : Known) (envelope enclosed : Bool)
    → AsksByScript i file text (tell_kinds told warnings K known envelope) → AsksByScript i file text (tell_kinds too warned L other enclosed)
    → tell_kinds told warnings K known envelope ≡ tell_kinds too warned L other enclosed
same_tellings laws i file text told too warnings warned K L known other envelope enclosed one two =
    ap (λ t. tell_kinds t warnings K known envelope) one.1 ∙ ap (tell_kinds text warnings K known) (one.2 ∙ sym two.2)
    ∙ one_telling laws i file text warnings warned K L known other enclosed one.3 two.3 ∙ ap (λ t. tell_kinds t warned L other enclosed) (sym two.1)

alike : Laws → (i : Invocation) (file : Option (List ℕ)) (text : List ℕ) (a b : Request) → AsksByScript i file text a → AsksByScript i file text b → a ≡ b
alike laws i file text bad_words b one two = absurd one
alike laws i file text (bad_kind f) b one two = sym (kind_alone laws i file text f b one two)
alike laws i file text (bad_script told ds) bad_words one two = absurd two
alike laws i file text (bad_script told ds) (bad_kind f) one two = kind_alone laws i file text f (bad_script told ds) two one
alike laws i file text (bad_script told ds) (bad_script too es) one two = refused_requests laws i file text told too ds es one two
alike laws i file text (bad_script told ds) (map_lines run) one two = absurd (run_not_refused laws i file text ds run one.1 two.1)
alike laws i file text (bad_script told ds) (map_made run count seed) one two = absurd (run_not_refused laws i file text ds run one.1 two.1)
alike laws i file text (bad_script told ds) (tell_kinds too warnings K known envelope) one two = absurd (telling_not_refused laws i file text ds warnings K known one.1 two.3)
alike laws i file text (map_lines run) bad_words one two = absurd two
alike laws i file text (map_lines run) (bad_kind f) one two = kind_alone laws i file text f (map_lines run) two one
alike laws i file text (map_lines run) (bad_script told ds) one two = absurd (run_not_refused laws i file text ds run two.1 one.1)
alike laws i file text (map_lines run) (map_lines other) one two = ap map_lines (one_run laws i file text run other one.1 two.1)
alike laws i file text (map_lines run) (map_made other count seed) one two = absurd (lines_not_generate one.0 two.0)
alike laws i file text (map_lines run) (tell_kinds too warnings K known envelope) one two = absurd (lines_not_check one.0 two.0)
alike laws i file text (map_made run count seed) bad_words one two = absurd two
alike laws i file text (map_made run count seed) (bad_kind f) one two = kind_alone laws i file text f (map_made run count seed) two one
alike laws i file text (map_made run count seed) (bad_script told ds) one two = absurd (run_not_refused laws i file text ds run two.1 one.1)
alike laws i file text (map_made run count seed) (map_lines other) one two = absurd (lines_not_generate two.0 one.0)
alike laws i file text (map_made run count seed) (map_made other number start) one two = same_made laws i file text run other count seed number start one two
alike laws i file text (map_made run count seed) (tell_kinds too warnings K known envelope) one two = absurd (check_not_generate two.0 one.0)
alike laws i file text (tell_kinds told warnings K known envelope) bad_words one two = absurd two
alike laws i file text (tell_kinds told warnings K known envelope) (bad_kind f) one two = kind_alone laws i file text f (tell_kinds told warnings K known envelope) two one
alike laws i file text (tell_kinds told warnings K known envelope) (bad_script too ds) one two = absurd (telling_not_refused laws i file text ds warnings K known two.1 one.3)
alike laws i file text (tell_kinds told warnings K known envelope) (map_lines run) one two = absurd (lines_not_check two.0 one.0)
alike laws i file text (tell_kinds told warnings K known envelope) (map_made run count seed) one two = absurd (check_not_generate one.0 two.0)
alike laws i file text (tell_kinds told warnings K known envelope) (tell_kinds too warned L other enclosed) one two = same_tellings laws i file text told too warnings warned K L known other envelope enclosed one two

alike_asked : Laws → (invocation : Option Invocation) (text file : Option (List ℕ)) (a b : Request) → Asks invocation (record { script = text; kind_file = file }) a → Asks invocation (record { script = text; kind_file = file }) b → a ≡ b
alike_asked laws None text file a b one two = one ∙ sym two
alike_asked laws (Some i) None file a b one two = absurd one
alike_asked laws (Some i) (Some text) file a b one two = alike laws i file text a b one two

pub one_answer : Laws → (invocation : Option Invocation) (texts : Texts) → HasOneAnswer (Asks invocation texts)
one_answer laws invocation texts a b one two = alike_asked laws invocation texts.script texts.kind_file a b one two

-- what may come of one request that is asked may come of each
pub comes_of_each : Laws → (invocation : Option Invocation) (texts : Texts) (a b : Request) (s : Status) → Asks invocation texts a → MayCome a s → Asks invocation texts b → MayCome b s
comes_of_each laws invocation texts a b s one comes two = subst (λ r. MayCome r s) (one_answer laws invocation texts a b one two) comes
