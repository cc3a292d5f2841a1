-- The elements of a text that is cut up are spelled in it.
use Rattle.std.proofs.Common.{◌≡◌, refl, ℕ, Bool, true, false, List, [], ◌∷◌, ◌++◌, Option, Some, None, arith}
use Rattle.vrl_token.specs.declared.piece.Lexeme.{Lexeme}
use Rattle.vrl_token.specs.declared.piece.Piece.{Piece}
use Rattle.vrl_token.specs.declared.piece.Piece.TheVariants.{Blank, Comment, Newline, Brace, Bar, Word}
use Rattle.vrl_token.specs.declared.token.Token.{Token}
use Rattle.vrl_token.specs.declared.token.Token.TheVariants as token
use Rattle.vrl_token.specs.Brackets.{token_of}
use Rattle.vrl_token.specs.Context.{closes_before, regexes_before}
use Rattle.vrl_token.specs.Division.{kept}
use Rattle.vrl_token.specs.Pieces.{Begins}
use Rattle.vrl_token.specs.Words.{BeginsWith}
use Rattle.vrl_format.proofs.Cuts.{AreSpelled, Cut, joined, placed}
use Rattle.vrl_format.proofs.Elements.{AreClear, Behind, IsClear, begins_with_word, calls, element_at, elements, is_suffix, line_element, stop_element, touches, with_regex, word_element}
use Rattle.vrl_format.proofs.FirstBytes.{begins_otherwise, blanks_otherwise}
use Rattle.vrl_format.proofs.Tellings.{no_false, token_counts}

-- ---- what begins with `(` is a word

lines_or_word : (braces : List Bool) (bare : Bool) (before : List Token) (spelling : List ℕ) (behind : List Lexeme)
    (go : Behind) (pieces : List Piece) (p : Piece) (text rest : List ℕ)
    → Begins pieces p text rest → BeginsWith 40 text
    → begins_with_word (element_at braces bare before spelling behind go p) ≡ true
lines_or_word braces bare before spelling behind go pieces Blank text rest begins opens =
    absurd (blanks_otherwise text begins.gap rest begins.some begins.run.parts begins.run.passes opens)
lines_or_word braces bare before spelling behind go pieces Comment text rest begins opens =
    absurd (begins_otherwise text begins.behind 35 begins.parts (λ is. omega (arith, is)) opens)
lines_or_word braces bare before spelling behind go pieces Newline text rest begins opens =
    absurd (begins_otherwise text rest 10 begins (λ is. omega (arith, is)) opens)
lines_or_word braces true before spelling behind go pieces (Word token.Separator) text rest begins opens = refl
lines_or_word braces false before spelling behind go pieces (Word token.Separator) text rest begins opens =
    absurd (begins_otherwise text rest 59 begins (λ is. omega (arith, is)) opens)
lines_or_word braces bare before spelling behind go pieces (Word u) text rest begins opens = refl
lines_or_word braces bare before spelling behind go pieces Brace text rest begins opens = refl
lines_or_word braces bare before spelling behind go pieces Bar text rest begins opens = refl

opens_with_word : (total : ℕ) (braces : List Bool) (bare : Bool) (before : List Token) (pieces : List Piece)
    (cs : List Cut) → AreSpelled pieces cs
    → BeginsWith 40 (joined cs) → begins_with_word (elements total braces bare before cs) ≡ true
opens_with_word total braces bare before pieces [] spelled opens = absurd opens
opens_with_word total braces bare before pieces (c ∷ cs) spelled opens =
    lines_or_word braces bare before c.spelling (kept (placed total cs)) (λ bs b ts. elements total bs b ts cs) pieces
    c.piece (c.spelling ++ joined cs) (joined cs) spelled.0 opens

-- ---- one element

-- what stands behind is clear, from each state
abbrev Later : List Piece → Behind → Type 0
Later pieces go =
    (braces : List Bool) (bare : Bool) (before : List Token) (touch : Bool) (n : ℕ) → regexes_before pieces ≡ n
    → (closes_before pieces ≡ true → touch ≡ true) → AreClear touch n (go braces bare before)

clear_here : (pieces : List Piece) (n : ℕ) (p : Piece) (spelling rest : List ℕ) → regexes_before pieces ≡ n
    → Begins pieces p (spelling ++ rest) rest → IsClear n p spelling
clear_here pieces n p spelling rest few begins =
    record { before = pieces; rest = rest; regexes_are = few; begins = begins }

line_clear : (pieces : List Piece) (n : ℕ) (touch : Bool) (braces : List Bool) (bare : Bool) (before : List Token)
    (go : Behind) (found : Option Token) → regexes_before pieces ≡ n
    → Later (Newline ∷ pieces) go → AreClear touch n (line_element braces bare before go found)
line_clear pieces n touch braces bare before go None few later =
    later braces bare before false n few (λ closes. no_false closes)
line_clear pieces n touch braces bare before go (Some t) few later =
    later braces bare (t ∷ before) false n few (λ closes. no_false closes)

stop_clear : (pieces : List Piece) (n : ℕ) (touch : Bool) (braces : List Bool) (bare : Bool) (before : List Token)
    (spelling rest : List ℕ) (behind : List Lexeme) (go : Behind)
    → regexes_before pieces ≡ n → Begins pieces (Word token.Separator) (spelling ++ rest) rest
    → Later (Word token.Separator ∷ pieces) go
    → AreClear touch n (stop_element braces before spelling behind go bare)
stop_clear pieces n touch braces true before spelling rest behind go few begins later = (
  clear_here pieces n (Word token.Separator) spelling rest few begins,
  λ is. no_false is,
  λ is. no_false is,
  later braces false (token.Separator ∷ before) false n few (λ closes. no_false closes),
)
stop_clear pieces n touch braces false before spelling rest behind go few begins later =
    later braces false (token.Separator ∷ before) false n few (λ closes. no_false closes)

suffix_touches : (pieces : List Piece) (touch : Bool) (text rest : List ℕ)
    → (closes_before pieces ≡ true → touch ≡ true) → (u : Token) → Begins pieces (Word u) text rest
    → is_suffix (Word u) ≡ true → touch ≡ true
suffix_touches pieces touch text rest closing (token.Suffix path) begins is = closing begins.1
suffix_touches pieces touch text rest closing u begins is = no_false is

call_opens : (pieces : List Piece) (text rest : List ℕ) (u : Token) → Begins pieces (Word u) text rest
    → calls (Word u) ≡ true → BeginsWith 40 rest
call_opens pieces text rest (token.Function name) begins is = begins.1
call_opens pieces text rest (token.BangFunction name) begins is = begins.1
call_opens pieces text rest u begins is = no_false is

-- any token but a separator
token_clear : (pieces : List Piece) (n : ℕ) (touch : Bool) (braces : List Bool) (bare : Bool) (before : List Token)
    (spelling rest : List ℕ) (behind : List Lexeme) (go : Behind) (u : Token)
    → regexes_before pieces ≡ n → (closes_before pieces ≡ true → touch ≡ true)
    → Begins pieces (Word u) (spelling ++ rest) rest → Later (Word u ∷ pieces) go
    → ((bs : List Bool) (b : Bool) (ts : List Token) → BeginsWith 40 rest → begins_with_word (go bs b ts) ≡ true)
    → AreClear touch n (word_element braces bare before (Word u) spelling behind go (Some u))
token_clear pieces n touch braces bare before spelling rest behind go u few closing begins later words = (
  clear_here pieces n (Word u) spelling rest few begins,
  suffix_touches pieces touch (spelling ++ rest) rest closing u begins,
  λ is. words _ _ _ (call_opens pieces (spelling ++ rest) rest u begins is),
  later _ _ _ (touches (Word u)) (with_regex (Word u) n) (token_counts pieces n few u) (λ closes. closes),
)

element_clear : (pieces : List Piece) (n : ℕ) (touch : Bool) (braces : List Bool) (bare : Bool) (before : List Token)
    (spelling rest : List ℕ) (behind : List Lexeme) (go : Behind) (p : Piece)
    → regexes_before pieces ≡ n → (closes_before pieces ≡ true → touch ≡ true) → Begins pieces p (spelling ++ rest) rest
    → Later (p ∷ pieces) go
    → ((bs : List Bool) (b : Bool) (ts : List Token) → BeginsWith 40 rest → begins_with_word (go bs b ts) ≡ true)
    → AreClear touch n (element_at braces bare before spelling behind go p)
element_clear pieces n touch braces bare before spelling rest behind go Blank few closing begins later words =
    later braces bare before touch n few (λ closes. no_false closes)
element_clear pieces n touch braces bare before spelling rest behind go Comment few closing begins later words = (
  clear_here pieces n Comment spelling rest few begins,
  later braces bare before false n few (λ closes. no_false closes),
)
element_clear pieces n touch braces bare before spelling rest behind go Newline few closing begins later words =
    line_clear pieces n touch braces bare before go (token_of before Newline behind) few later
element_clear pieces n touch braces bare before spelling rest behind go (Word token.Separator) few closing
    begins later words =
    stop_clear pieces n touch braces bare before spelling rest behind go few begins later
element_clear pieces n touch braces bare before spelling rest behind go (Word u) few closing begins later words =
    token_clear pieces n touch braces bare before spelling rest behind go u few closing begins later words
element_clear pieces n touch braces bare before spelling rest behind go Brace few closing begins later words = (
  clear_here pieces n Brace spelling rest few begins,
  λ is. no_false is,
  λ is. no_false is,
  later _ _ _ false n few (λ closes. no_false closes),
)
element_clear pieces n touch braces bare before spelling rest behind go Bar few closing begins later words = (
  clear_here pieces n Bar spelling rest few begins,
  λ is. no_false is,
  λ is. no_false is,
  later _ _ _ false n few (λ closes. no_false closes),
)

-- ---- all of them

pub elements_clear : (total : ℕ) (braces : List Bool) (bare : Bool) (before : List Token) (touch : Bool) (n : ℕ)
    (pieces : List Piece) (cs : List Cut)
    → AreSpelled pieces cs → regexes_before pieces ≡ n → (closes_before pieces ≡ true → touch ≡ true)
    → AreClear touch n (elements total braces bare before cs)
elements_clear total braces bare before touch n pieces [] spelled few closing = tt
elements_clear total braces bare before touch n pieces (c ∷ cs) spelled few closing =
    element_clear pieces n touch braces bare before c.spelling (joined cs) (kept (placed total cs))
    (λ bs b ts. elements total bs b ts cs) c.piece few closing spelled.0
    (λ bs b ts now m are closes. elements_clear total bs b ts now m (c.piece ∷ pieces) cs spelled.1 are closes)
    (λ bs b ts opens. opens_with_word total bs b ts (c.piece ∷ pieces) cs spelled.1 opens)
