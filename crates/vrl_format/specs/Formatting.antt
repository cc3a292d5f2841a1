-- What a formatter answers to a text.
use Rattle.std.specs.Prelude.{◌≡◌, ℕ, ◌<◌, ◌≤◌, List, [], length, map}
use Rattle.vrl_diag.specs.declared.diagnostic.Diagnostic.{Diagnostic}
use Rattle.vrl_syntax.specs.Limits.{exprs_faults}
use Rattle.vrl_syntax.specs.Tree.{Script}
use Rattle.vrl_token.specs.declared.token.Spanned.{Spanned}
use Rattle.vrl_token.specs.declared.token.Token.{Token}
use Rattle.vrl_token.specs.Placing.{script_limit}
use Rattle.vrl_token.specs.Reading.{IsTextFault, IsTokenized}
use Rattle.vrl_parse.specs.Reading.{IsScriptFault, Reads}
use Rattle.vrl_format.specs.Apart.{apart}
use Rattle.vrl_format.specs.Comments.{comments_of}
use Rattle.vrl_format.specs.Layout.{IsLayout}
use Rattle.vrl_format.specs.Unplaced.{without_places}
use Rattle.vrl_format.specs.declared.formatting.Formatted.{Formatted}
use Rattle.vrl_format.specs.declared.formatting.Formatted.TheVariants.{Text, Refused, TooLong}

-- the text is read to this script, whose paths keep their limits
pub record IsReadTo (text : List ℕ) (script : Script) : Type 0 where
  pub tokens : List Spanned
  pub tokenized : IsTokenized text tokens
  pub reads : Reads tokens script
  pub limits : exprs_faults script.items ≡ []

-- the first thing that is wrong with the text: with its tokens, or with what the grammar reads in them
pub data IsFaultOf (text : List ℕ) (fault : Diagnostic) : Type 0 where
  in_tokens : IsTextFault text fault → IsFaultOf text fault
  in_script : {tokens : List Spanned} → IsTokenized text tokens
      → IsScriptFault (record { tokens = tokens; «end» = length text }) fault → IsFaultOf text fault

-- the text is a script, and this is its layout
pub record IsLaidOut (text laid : List ℕ) : Type 0 where
  pub script : Script
  pub is_read : IsReadTo text script
  pub layout : IsLayout text laid

-- what is answered to a text
abbrev pub IsAnswer : List ℕ → Formatted → Type 0
IsAnswer text (Text laid) = IsLaidOut text laid × (length laid ≤ script_limit)
IsAnswer text (Refused fault) = IsFaultOf text fault
IsAnswer text TooLong = (laid : List ℕ) × IsLaidOut text laid × (script_limit < length laid)

-- ---- what a layout keeps

abbrev pub tokens_in : List Spanned → List Token
tokens_in tokens = map (λ t. t.token) tokens

-- Two texts are the same script but for places, of the same tokens, with the same separators but at
-- edges, and have the same comments behind as many tokens.
pub record MeansTheSame (text other : List ℕ) : Type 0 where
  pub script : Script
  pub other_script : Script
  pub read : IsReadTo text script
  pub other_read : IsReadTo other other_script
  pub same_script : without_places other_script ≡ without_places script
  pub same_tokens : apart (tokens_in other_read.tokens) ≡ apart (tokens_in read.tokens)
  pub same_comments : comments_of other other_read.tokens ≡ comments_of text read.tokens

-- a layout that is answered means the same as its text
abbrev pub KeepsMeaning : List ℕ → Formatted → Type 0
KeepsMeaning text (Text laid) = MeansTheSame text laid
KeepsMeaning text answer = Unit {0}

-- and is what is answered to it
abbrev pub IsStill : Formatted → Type 0
IsStill (Text laid) = IsAnswer laid (Text laid)
IsStill answer = Unit {0}
