-- The rules read the one script of tokens, or show that there is none.
use Rattle.std.proofs.Common.{◌≡◌, List, [], ◌∷◌, sym, ap, ◌∙◌, subst}
use Rattle.std.proofs.lemmas.List.{append-nil}
use Rattle.vrl_syntax.specs.Tree.{Exprs, Script}
use Rattle.vrl_token.specs.declared.token.Spanned.{Spanned}
use Rattle.vrl_word.specs.Words.{Word, words_from}
use Rattle.vrl_parse.specs.Grammar.{IsScript}
use Rattle.vrl_parse.specs.Reading.{Reads, ScriptsAreDetermined, sources_of}
use Rattle.vrl_parse.specs.Descent.{script, RuleTakes, RuleRefuses}
use Rattle.vrl_parse.proofs.OneEnding.{one_ending}
use Rattle.vrl_parse.proofs.Spelled.{script_is_spelled}
use Rattle.vrl_parse.proofs.Descended.{script_is_taken}

same_script : (s t : Script) → s.items ≡ t.items → s.patterns ≡ t.patterns → s ≡ t
same_script s t items patterns =
    ap (λ x. let u : Script = record { items = x; patterns = s.patterns } in u) items ∙ ap (λ x. let u : Script = record { items = t.items; patterns = x } in u) patterns

pub scripts_determined : ScriptsAreDetermined
scripts_determined ts s t one two =
    let same = one_ending (script_is_taken one.items) (script_is_taken two.items) in
    let items : s.items ≡ t.items = cc in
    same_script s t items (one.patterns ∙ sym two.patterns)

-- all words are taken
pub read_whole : (ts : List Spanned) (s : Script) → RuleTakes script (words_from 0 ts) s.items [] → s.patterns ≡ sources_of ts → Reads ts s
read_whole ts s run patterns =
    let front = script_is_spelled run in
    record { items = subst (λ ws. IsScript ws s.items) (sym (front.parts ∙ append-nil front.words)) front.told; patterns = patterns }

-- some words are left
pub unread_rest : (ts : List Spanned) (es : Exprs) (w : Word) (ws : List Word) → RuleTakes script (words_from 0 ts) es (w ∷ ws) → (s : Script) → ¬ Reads ts s
unread_rest ts es w ws run s reads =
    let same = one_ending run (script_is_taken reads.items) in
    let rests : w ∷ ws ≡ [] = cc in
    cc

-- the words are refused
pub unread_refusal : (ts : List Spanned) (vs : List Word) → RuleRefuses script (words_from 0 ts) vs → (s : Script) → ¬ Reads ts s
unread_refusal ts vs run s reads =
    let same = one_ending run (script_is_taken reads.items) in
    cc
