-- A text has one answer.
use Rattle.std.proofs.Common.{◌≡◌, ℕ, ◌<◌, ◌≤◌, List, [], ◌∷◌, length, Result, Ok, Err, IfErr, refl, sym, ap, ◌∙◌, subst, arith}
use Rattle.std.specs.Result.{IsErrAnd}
use Rattle.vrl_diag.specs.declared.diagnostic.Diagnostic.{Diagnostic}
use Rattle.vrl_syntax.specs.Limits.{exprs_faults}
use Rattle.vrl_syntax.specs.Tree.{Script}
use Rattle.vrl_token.specs.Laws.{TokensAreDetermined}
use Rattle.vrl_token.specs.OnFault.{OnFault}
use Rattle.vrl_token.specs.Placing.{script_limit}
use Rattle.vrl_token.specs.Reading.{IsTokenized}
use Rattle.vrl_token.specs.TokenList.{TokenList}
use Rattle.vrl_token.specs.declared.fault.SyntaxFault.{SyntaxFault}
use Rattle.vrl_token.specs.declared.fault.SyntaxFault.TheVariants.{Fault, Memory}
use Rattle.vrl_token.specs.declared.token.Spanned.{Spanned}
use Rattle.vrl_parse.specs.Reading.{ErrorPlacesAreDetermined, IsScriptFault, no_script, path_fault, Reads, ScriptsAreDetermined}
use Rattle.vrl_format.specs.Formatting.{IsAnswer, IsFaultOf, in_script, in_tokens, IsReadTo, IsStill, KeepsMeaning}
use Rattle.vrl_format.specs.Laws.{AnswersAreDetermined, LayoutsMeanTheSame, LayoutsStay}
use Rattle.vrl_format.specs.Layout.{IsLayout, layout}
use Rattle.vrl_format.specs.Pieces.{pieces_of}
use Rattle.vrl_format.specs.declared.formatting.Formatted.{Formatted}
use Rattle.vrl_format.specs.declared.formatting.Formatted.TheVariants.{Text, Refused, TooLong}

-- ---- faults

first_fault : (ds es : List Diagnostic) (d e : Diagnostic) (faults : List Diagnostic) → faults ≡ d ∷ ds → faults ≡ e ∷ es → d ≡ e
first_fault ds es d e faults one two = let both : d ∷ ds ≡ e ∷ es = sym one ∙ two in cc

no_fault : (ds : List Diagnostic) (d : Diagnostic) (faults : List Diagnostic) → faults ≡ d ∷ ds → faults ≡ [] → ⊥
no_fault ds d faults some none = let wrong : d ∷ ds ≡ [] = sym some ∙ none in cc

same_diagnostic : (d e : Diagnostic) → d.code ≡ e.code → d.span ≡ e.span → d ≡ e
same_diagnostic d e codes spans = λ i. record { code = codes i; span = spans i }

one_script_fault : ScriptsAreDetermined → ErrorPlacesAreDetermined → (tokens : TokenList) (d e : Diagnostic) → IsScriptFault tokens d → IsScriptFault tokens e → d ≡ e
one_script_fault scripts places tokens d e (no_script code none place) (no_script code_too none_too place_too) = same_diagnostic d e (code ∙ sym code_too) (places tokens d.span e.span place place_too)
one_script_fault scripts places tokens d e (no_script code none place) (path_fault {s = s} reads is) = absurd (none s reads)
one_script_fault scripts places tokens d e (path_fault {s = s} reads is) (no_script code none place) = absurd (none s reads)
one_script_fault scripts places tokens d e (path_fault {s = s} {ds = ds} reads is) (path_fault {s = t} {ds = es} reads_too is_too) =
    first_fault ds es d e (exprs_faults t.items) (subst (λ x. exprs_faults x.items ≡ d ∷ ds) (scripts tokens.tokens s t reads reads_too) is) is_too

abbrev of_text : List ℕ → List Spanned → TokenList
of_text text ts = record { tokens = ts; «end» = length text }

one_fault : TokensAreDetermined → ScriptsAreDetermined → ErrorPlacesAreDetermined → (text : List ℕ) (d e : Diagnostic) → IsFaultOf text d → IsFaultOf text e → d ≡ e
one_fault tokens scripts places text d e (in_tokens is) (in_tokens too) = tokens.one_fault text d e is too
one_fault tokens scripts places text d e (in_tokens is) (in_script {tokens = ts} tokenized too) = absurd (tokens.not_both text ts d tokenized is)
one_fault tokens scripts places text d e (in_script {tokens = ts} tokenized is) (in_tokens too) = absurd (tokens.not_both text ts e tokenized too)
one_fault tokens scripts places text d e (in_script {tokens = ts} tokenized is) (in_script {tokens = us} tokenized_too too) =
    one_script_fault scripts places (of_text text us) d e (subst (λ xs. IsScriptFault (of_text text xs) d) (tokens.one_list text ts us tokenized tokenized_too) is) too

no_script_fault : ScriptsAreDetermined → (tokens : TokenList) (d : Diagnostic) (script : Script) → Reads tokens.tokens script → exprs_faults script.items ≡ [] → IsScriptFault tokens d → ⊥
no_script_fault scripts tokens d script reads limits (no_script code none place) = none script reads
no_script_fault scripts tokens d script reads limits (path_fault {s = s} {ds = ds} reads_too is) =
    no_fault ds d (exprs_faults script.items) (subst (λ x. exprs_faults x.items ≡ d ∷ ds) (scripts tokens.tokens s script reads_too reads) is) limits

-- a text that is read has no fault
read_or_fault : TokensAreDetermined → ScriptsAreDetermined → (text : List ℕ) (script : Script) (d : Diagnostic) → IsReadTo text script → IsFaultOf text d → ⊥
read_or_fault tokens scripts text script d read (in_tokens is) = tokens.not_both text read.tokens d read.tokenized is
read_or_fault tokens scripts text script d read (in_script {tokens = ts} tokenized is) =
    no_script_fault scripts (of_text text ts) d script (subst (λ xs. Reads xs script) (tokens.one_list text read.tokens ts read.tokenized tokenized) read.reads) read.limits is

-- ---- layouts

one_layout : TokensAreDetermined → (text laid other : List ℕ) → IsLayout text laid → IsLayout text other → laid ≡ other
one_layout tokens text laid other one two = one.is ∙ ap (λ ts. layout (pieces_of text ts)) (tokens.one_list text one.tokens two.tokens one.tokenized two.tokenized) ∙ sym two.is

short_or_long : (laid other : List ℕ) → laid ≡ other → length laid ≤ script_limit → script_limit < length other → ⊥
short_or_long laid other same short long = let lengths : length laid ≡ length other = ap length same in omega (arith, lengths, short, long)

pub determined : TokensAreDetermined → ScriptsAreDetermined → ErrorPlacesAreDetermined → AnswersAreDetermined
determined tokens scripts places text (Text laid) (Text other) one two = ap Text (one_layout tokens text laid other one.0.layout two.0.layout)
determined tokens scripts places text (Text laid) (Refused d) one two = absurd (read_or_fault tokens scripts text one.0.script d one.0.is_read two)
determined tokens scripts places text (Text laid) TooLong one two = absurd (short_or_long laid two.0 (one_layout tokens text laid two.0 one.0.layout two.1.layout) one.1 two.2)
determined tokens scripts places text (Refused d) (Text laid) one two = absurd (read_or_fault tokens scripts text two.0.script d two.0.is_read one)
determined tokens scripts places text (Refused d) (Refused e) one two = ap Refused (one_fault tokens scripts places text d e one two)
determined tokens scripts places text (Refused d) TooLong one two = absurd (read_or_fault tokens scripts text two.1.script d two.1.is_read one)
determined tokens scripts places text TooLong (Text laid) one two = absurd (short_or_long laid one.0 (one_layout tokens text laid one.0 two.0.layout one.1.layout) two.1 one.2)
determined tokens scripts places text TooLong (Refused d) one two = absurd (read_or_fault tokens scripts text one.1.script d one.1.is_read two)
determined tokens scripts places text TooLong TooLong one two = refl

-- ---- what is answered for a fault

-- what holds of a fault holds of what hands it on
pub handed_on : {X : Type 0} (result : Result X SyntaxFault) (f : SyntaxFault) (P : SyntaxFault → Type 0) → IsErrAnd result (λ g. g ≡ f) → P f → IfErr result P
handed_on (Ok x) f P is holds = tt
handed_on (Err g) f P is holds = subst P (sym is) holds

-- what is wrong with the tokens of a text is wrong with the text
pub script_fault : (text : List ℕ) (found : TokenList) (f : SyntaxFault) → IsTokenized text found.tokens → found.end ≡ length text → OnFault (IsScriptFault found) f → OnFault (IsFaultOf text) f
script_fault text found (Fault d) tokenized ends is =
    let made : ℕ → TokenList = λ n. record { tokens = found.tokens; «end» = n } in
    in_script {tokens = found.tokens} tokenized (subst (λ n. IsScriptFault (made n) d) ends is)
script_fault text found Memory tokenized ends is = tt

-- ---- layouts

-- an answered layout means the same
pub keeps_meaning : LayoutsMeanTheSame → (text : List ℕ) (answer : Formatted) → IsAnswer text answer → KeepsMeaning text answer
keeps_meaning same text (Text laid) is = same text laid is.0
keeps_meaning same text (Refused fault) is = tt
keeps_meaning same text TooLong is = tt

-- and is answered to itself
pub is_still : LayoutsStay → (text : List ℕ) (answer : Formatted) → IsAnswer text answer → IsStill answer
is_still stays text (Text laid) is = (stays text laid is.0, is.1)
is_still stays text (Refused fault) is = tt
is_still stays text TooLong is = tt
