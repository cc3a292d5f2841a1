-- The elements of a text whose tokens are joined are told.
use Rattle.std.proofs.Common.{◌≡◌, ◌≢◌, refl, sym, ◌∙◌, subst, ℕ, Bool, true, false, ◌&&◌, not, if◌then◌else◌, List, [], ◌∷◌, ◌++◌, Option, Some, None, inl, inr, arith}
use Rattle.std.specs.List.{list_any}
use Rattle.vrl_token.specs.declared.piece.Lexeme.{Lexeme}
use Rattle.vrl_token.specs.declared.piece.Piece.{Piece}
use Rattle.vrl_token.specs.declared.piece.Piece.TheVariants.{Blank, Comment, Newline, Brace, Bar, Word}
use Rattle.vrl_token.specs.declared.token.Token.{Token}
use Rattle.vrl_token.specs.declared.token.Token.TheVariants as token
use Rattle.vrl_token.specs.Brackets.{arrow_before, bar_token, begins_object, block_follows, brace_token, encloses, goes_on_behind, is_bars, joins, joins_piece, newline_parts, open_behind, token_of, tokens_from}
use Rattle.vrl_token.specs.Division.{kept}
use Rattle.vrl_token.specs.Lexical.{BeginsInside, BeginsOutside}
use Rattle.vrl_token.specs.Pieces.{Begins}
use Rattle.vrl_token.specs.Respelling.{RespellingLaws, StartsPiece}
use Rattle.vrl_format.proofs.Joining.{AreJoined, may_follow}
use Rattle.vrl_format.specs.Pieces.{braces_behind, opens_bare, sort_of}
use Rattle.vrl_format.proofs.Ahead.{Joined, behind_word, brace_told, joins_none, joins_same, separator_is_free}
use Rattle.vrl_format.proofs.Cuts.{AreSpelled, Cut, joined, placed}
use Rattle.vrl_format.proofs.Elements.{AreTold, EndsNote, IsTold, Behind, Element, word, element_at, element_tokens, elements, first_word, goes_on_last, line_element, opens_bare_word, parts_here, stop_element}
use Rattle.vrl_format.proofs.ClosesNext.{at_cuts, closes_same, parting}

-- ---- comments

line_ends_note : (braces : List Bool) (bare : Bool) (before : List Token) (go : Behind) (t : Option Token)
    → EndsNote (line_element braces bare before go t)
line_ends_note braces bare before go None = tt
line_ends_note braces bare before go (Some t) = tt

no_blank_line : (b : ℕ) → StartsPiece Blank b → ¬ (b ≢ 10) → ⊥
no_blank_line b starts ends = elim starts [
  | inl space ↦ ends (λ is. let nothing : ⊥ = omega (arith, space, is) in nothing)
  | inr (inl tab) ↦ ends (λ is. let nothing : ⊥ = omega (arith, tab, is) in nothing)
  | inr (inr carriage) ↦ ends (λ is. let nothing : ⊥ = omega (arith, carriage, is) in nothing)
]

-- a piece that begins with a newline is one
newline_ends_note : (braces : List Bool) (bare : Bool) (before : List Token) (x rest y : List ℕ) (ls : List Lexeme)
    (go : Behind) (p : Piece)
    → BeginsInside (StartsPiece p) x → BeginsOutside (λ b. b ≢ 10) (x ++ rest)
    → EndsNote (element_at braces bare before y ls go p)
newline_ends_note braces bare before [] rest y ls go p starts ends = absurd starts
newline_ends_note braces bare before (b ∷ bs) rest y ls go Blank starts ends = absurd (no_blank_line b starts ends)
newline_ends_note braces bare before (b ∷ bs) rest y ls go Comment starts ends = absurd (ends starts.1)
newline_ends_note braces bare before (b ∷ bs) rest y ls go Newline starts ends =
    line_ends_note braces bare before go (token_of before Newline ls)
newline_ends_note braces bare before (b ∷ bs) rest y ls go Brace starts ends = absurd (ends starts.1)
newline_ends_note braces bare before (b ∷ bs) rest y ls go Bar starts ends = absurd (ends starts.1)
newline_ends_note braces bare before (b ∷ bs) rest y ls go (Word t) starts ends = absurd (ends starts.1)

ends_note : (total : ℕ) (braces : List Bool) (bare : Bool) (before : List Token) (pieces : List Piece) (cs : List Cut)
    → RespellingLaws → BeginsOutside (λ b. b ≢ 10) (joined cs) → AreSpelled pieces cs
    → EndsNote (elements total braces bare before cs)
ends_note total braces bare before pieces [] laws ends spelled = tt
ends_note total braces bare before pieces (c ∷ cs) laws ends spelled =
    newline_ends_note braces bare before c.spelling (joined cs) c.spelling (kept (placed total cs)) (at_cuts total cs)
    c.piece (laws.spellings c.piece pieces c.spelling (joined cs) spelled.0) ends

-- ---- separators

-- a separator parts, where no line joins behind it
separator_parts : (before : List Token) (es : List Element) → may_follow before token.Separator ≡ true
    → goes_on_behind before ≡ goes_on_last before → first_word joins_piece es ≡ false → parts_here before es ≡ true
separator_parts before es may last none =
    let free = separator_is_free before may in
    λ i. not (free.0 i) && (not ((sym last ∙ free.1) i) && not (none i))

-- no item goes on behind it
separator_rests : (before : List Token) → may_follow before token.Separator ≡ true
    → goes_on_behind before ≡ goes_on_last before
    → goes_on_behind (token.Separator ∷ before) ≡ goes_on_last (token.Separator ∷ before)
separator_rests before may last = sym (separator_is_free before may).1 ∙ last

-- ---- words

bare_same : (total : ℕ) (braces : List Bool) (before : List Token) (cs : List Cut) (t : Token)
    → opens_bare t (tokens_from (t ∷ before) (kept (placed total cs)))
    ≡ opens_bare_word t (behind_word total cs braces before t)
bare_same total braces before cs token.OpenBlock = closes_same total (true ∷ braces) _ (token.OpenBlock ∷ before) cs
bare_same total braces before cs t = refl

-- the elements are told, where the item goes on as it does behind the last token that is no separator
abbrev ToldBehind : Behind → Type 0
ToldBehind go = (bs : List Bool) (b : Bool) (ts : List Token) → Joined ts (go bs b ts)
    → goes_on_behind ts ≡ goes_on_last ts → AreTold bs b ts (go bs b ts)

word_told : (total : ℕ) (braces : List Bool) (bare : Bool) (before : List Token) (cs : List Cut) (p : Piece)
    (x : List ℕ) (t : Token)
    → ToldBehind (at_cuts total cs) → IsTold bare before p t (behind_word total cs braces before t)
    → goes_on_behind (t ∷ before) ≡ goes_on_last (t ∷ before)
    → (may_follow before t ≡ true) × Joined (t ∷ before) (behind_word total cs braces before t)
    → AreTold braces bare before (word p t (sort_of braces t) x ∷ behind_word total cs braces before t)
word_told total braces bare before cs p x t go told last joins = (
  told,
  refl,
  joins.0,
  subst (λ b. AreTold (braces_behind t braces) b (t ∷ before) (behind_word total cs braces before t))
      (bare_same total braces before cs t)
      (go (braces_behind t braces) (opens_bare t (tokens_from (t ∷ before) (kept (placed total cs))))
      (t ∷ before) joins.1 last),
)

brace_goes : (before : List Token) (object : Bool)
    → goes_on_behind ((if object then token.OpenObject else token.OpenBlock) ∷ before)
    ≡ goes_on_last ((if object then token.OpenObject else token.OpenBlock) ∷ before)
brace_goes before true = refl
brace_goes before false = refl

bar_goes : (before : List Token) (opens closes : Bool)
    → goes_on_behind ((if opens then token.OpenBars else if closes then token.CloseBars else token.Merge) ∷ before)
    ≡ goes_on_last ((if opens then token.OpenBars else if closes then token.CloseBars else token.Merge) ∷ before)
bar_goes before true closes = refl
bar_goes before false true = refl
bar_goes before false false = refl

-- ---- elements

line_told : (total : ℕ) (braces : List Bool) (bare : Bool) (before : List Token) (cs : List Cut)
    → ToldBehind (at_cuts total cs) → goes_on_behind before ≡ goes_on_last before
    → (q : Bool) → q ≡ newline_parts before (kept (placed total cs))
    → Joined before (line_element braces bare before (at_cuts total cs) (parting q))
    → AreTold braces bare before (line_element braces bare before (at_cuts total cs) (parting q))
line_told total braces bare before cs go last true is joined = (
  is ∙ (λ i. not (encloses (open_behind before))
      && (not (last i) && not (joins_same total cs braces bare (token.Separator ∷ before) joined.1 i))),
  go braces bare (token.Separator ∷ before) joined.1 (separator_rests before joined.0 last),
)
line_told total braces bare before cs go last false is joined = (
  is ∙ (λ i. not (encloses (open_behind before))
      && (not (last i) && not (joins_same total cs braces bare before joined i))),
  go braces bare before joined last,
)

stop_told : (total : ℕ) (braces : List Bool) (before : List Token) (cs : List Cut) (x : List ℕ)
    → ToldBehind (at_cuts total cs) → goes_on_behind before ≡ goes_on_last before → (bare : Bool)
    → Joined before (stop_element braces before x (kept (placed total cs)) (at_cuts total cs) bare)
    → AreTold braces bare before (stop_element braces before x (kept (placed total cs)) (at_cuts total cs) bare)
stop_told total braces before cs x go last true joined =
    word_told total braces true before cs (Word token.Separator) x token.Separator go (
      refl,
      refl,
      separator_parts before (behind_word total cs braces before token.Separator) joined.0 last
          (joins_none total cs braces false before joined.1),
    )
    (separator_rests before joined.0 last) joined
stop_told total braces before cs x go last false joined = (
  separator_parts before (elements total braces false (token.Separator ∷ before) cs) joined.0 last
      (joins_none total cs braces false before joined.1),
  go braces false (token.Separator ∷ before) joined.1 (separator_rests before joined.0 last),
)

piece_told : (total : ℕ) (braces : List Bool) (bare : Bool) (before : List Token) (pieces : List Piece) (cs : List Cut)
    (x : List ℕ) (p : Piece)
    → RespellingLaws → Begins pieces p (x ++ joined cs) (joined cs) → AreSpelled (p ∷ pieces) cs
    → ToldBehind (at_cuts total cs) → goes_on_behind before ≡ goes_on_last before
    → Joined before (element_at braces bare before x (kept (placed total cs)) (at_cuts total cs) p)
    → AreTold braces bare before (element_at braces bare before x (kept (placed total cs)) (at_cuts total cs) p)
piece_told total braces bare before pieces cs x Blank laws begins spelled go last joins =
    go braces bare before joins last
piece_told total braces bare before pieces cs x Comment laws begins spelled go last joins = (
  ends_note total braces bare before (Comment ∷ pieces) cs laws begins.run.ends spelled,
  go braces bare before joins last,
)
piece_told total braces bare before pieces cs x Newline laws begins spelled go last joins =
    line_told total braces bare before cs go last (newline_parts before (kept (placed total cs))) refl joins
piece_told total braces bare before pieces cs x Brace laws begins spelled go last joins =
    word_told total braces bare before cs Brace x (brace_token before (kept (placed total cs))) go
    (brace_told total cs braces before (brace_token before (kept (placed total cs))) refl joins.1)
    (brace_goes before (not (block_follows before) && begins_object (kept (placed total cs)))) joins
piece_told total braces bare before pieces cs x Bar laws begins spelled go last joins =
    word_told total braces bare before cs Bar x (bar_token before) go refl
    (bar_goes before (arrow_before before) (list_any is_bars (open_behind before))) joins
piece_told total braces bare before pieces cs x (Word token.Separator) laws begins spelled go last joins =
    stop_told total braces before cs x go last bare joins
piece_told total braces bare before pieces cs x (Word t) laws begins spelled go last joins =
    word_told total braces bare before cs (Word t) x t go refl refl joins

pub elements_told : (total : ℕ) (braces : List Bool) (bare : Bool) (before : List Token) (pieces : List Piece)
    (cs : List Cut) → RespellingLaws → AreSpelled pieces cs
    → AreJoined before (element_tokens (elements total braces bare before cs))
    → goes_on_behind before ≡ goes_on_last before → AreTold braces bare before (elements total braces bare before cs)
elements_told total braces bare before pieces [] laws spelled joins last = tt
elements_told total braces bare before pieces (c ∷ cs) laws spelled joins last =
    piece_told total braces bare before pieces cs c.spelling c.piece laws spelled.0 spelled.1
    (λ bs b ts goes rests. elements_told total bs b ts (c.piece ∷ pieces) cs laws spelled.1 goes rests) last joins
