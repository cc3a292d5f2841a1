-- The script of a list of tokens, and what is wrong with tokens.
use Rattle.std.specs.Prelude.{◌≡◌, ℕ, List, [], ◌∷◌, ◌++◌}
use Rattle.vrl_diag.specs.declared.diagnostic.Diagnostic.{Diagnostic}
use Rattle.vrl_diag.specs.declared.diagnostic.Span.{Span}
use Rattle.vrl_syntax.specs.Limits.{exprs_faults}
use Rattle.vrl_syntax.specs.Tree.{Script}
use Rattle.vrl_token.specs.TokenList.{TokenList}
use Rattle.vrl_token.specs.declared.token.Spanned.{Spanned}
use Rattle.vrl_parse.specs.Grammar.{IsScript}
use Rattle.vrl_word.specs.Words.{regex_of, words_from}

-- the sources of the regex literals, in order
abbrev pub sources_of : List Spanned → List (List ℕ)
sources_of [] = []
sources_of (t ∷ ts) = regex_of t.token ++ sources_of ts

-- the tokens are those of this script
pub record Reads (ts : List Spanned) (s : Script) : Type 0 where
  pub items : IsScript (words_from 0 ts) s.items
  pub patterns : s.patterns ≡ sources_of ts

-- a script begins with these tokens: with some more behind them they are one
pub record BeginsScript (ts : List Spanned) : Type 0 where
  pub more : List Spanned
  pub script : Script
  pub reads : Reads (ts ++ more) script

-- where tokens that are no script go wrong: at the first with which no script begins, or, where one begins
-- with all of them, at the end of the text
pub data IsErrorPlace (tokens : TokenList) (span : Span) : Type 0 where
  at_token : (before behind : List Spanned) (t : Spanned) → tokens.tokens ≡ before ++ t ∷ behind → BeginsScript before
      → ¬ BeginsScript (before ++ t ∷ []) → span ≡ t.span → IsErrorPlace tokens span
  at_end : BeginsScript tokens.tokens → span ≡ record { start = tokens.«end»; end = tokens.«end» }
      → IsErrorPlace tokens span

-- what is wrong with tokens: that no script is read from them, or the first path that breaks a limit
pub data IsScriptFault (tokens : TokenList) (d : Diagnostic) : Type 0 where
  no_script : d.code ≡ 203 → ((s : Script) → ¬ Reads tokens.tokens s) → IsErrorPlace tokens d.span
      → IsScriptFault tokens d
  path_fault : {s : Script} {ds : List Diagnostic} → Reads tokens.tokens s → exprs_faults s.items ≡ d ∷ ds
      → IsScriptFault tokens d

-- the codes of what can be wrong with tokens
abbrev pub parse_codes : List ℕ
parse_codes = 203 ∷ 1012 ∷ []

-- tokens have at most one script
abbrev pub ScriptsAreDetermined : Type 0
ScriptsAreDetermined = (ts : List Spanned) (s t : Script) → Reads ts s → Reads ts t → s ≡ t

-- and they go wrong at one place
abbrev pub ErrorPlacesAreDetermined : Type 0
ErrorPlacesAreDetermined = (tokens : TokenList) (s t : Span) → IsErrorPlace tokens s → IsErrorPlace tokens t → s ≡ t
