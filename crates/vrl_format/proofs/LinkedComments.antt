-- The comments of a text, piece by piece of its division.
use Rattle.std.proofs.Common.{◌≡◌, refl, sym, ap, ◌∙◌, subst, ℕ, ◌-◌, Bool, true, false, List, [], ◌∷◌, ◌++◌, Option, Some, None, length, if◌then◌else◌}
use Rattle.std.proofs.lemmas.List.{append_cancel_right}
use Rattle.vrl_token.specs.declared.piece.Lexeme.{Lexeme}
use Rattle.vrl_token.specs.declared.piece.Piece.{Piece}
use Rattle.vrl_token.specs.declared.piece.Piece.TheVariants.{Blank, Comment, Newline, Brace, Bar, Word}
use Rattle.vrl_token.specs.declared.token.Token.{Token}
use Rattle.vrl_token.specs.declared.token.Token.TheVariants as token
use Rattle.vrl_token.specs.Brackets.{bar_token, brace_token, newline_parts, token_of, tokens_from, with_spanned, with_token}
use Rattle.vrl_token.specs.Division.{kept}
use Rattle.vrl_token.specs.Pieces.{Begins}
use Rattle.vrl_format.specs.Comments.{Comment as Noted, comments_from, comments_in, comments_of, counted}
use Rattle.vrl_format.specs.Pieces.{line_end, Remark, remark, trimmed}
use Rattle.vrl_format.proofs.Cuts.{AreSpelled, Cut, joined, placed}
use Rattle.vrl_format.proofs.Linked.{kept_of, span_of, tokens_of}
use Rattle.vrl_format.proofs.Standing.{Stands, noted_at_end, noted_before, over_blank, over_comment, over_newline, past_token, starts}

-- ---- comments, told by the division

-- the comments from a piece on that is no comment, where `go` gives those behind
abbrev pub counted_cut : ℕ → List Token → (ℕ → List Token → List Noted) → Option Token → List Noted
counted_cut n before go None = go n before
counted_cut n before go (Some t) = go (counted t n) (t ∷ before)

abbrev pub comments_at : ℕ → List Token → List ℕ → List Lexeme → (ℕ → List Token → List Noted) → Piece → List Noted
comments_at n before spelling behind go Comment = record { tokens = n; text = trimmed spelling } ∷ go n before
comments_at n before spelling behind go p = counted_cut n before go (token_of before p behind)

abbrev pub cut_comments : ℕ → ℕ → List Token → List Cut → List Noted
cut_comments total n before [] = []
cut_comments total n before (c ∷ cs) =
    comments_at n before c.spelling (kept (placed total cs)) (λ m ts. cut_comments total m ts cs) c.piece

-- ---- remarks

comments_in-append : (n : ℕ) (rs more : List Remark) (later : List Noted)
    → comments_in n (rs ++ more) later ≡ comments_in n rs (comments_in n more later)
comments_in-append n [] more later = refl
comments_in-append n (line_end ∷ rs) more later = comments_in-append n rs more later
comments_in-append n (remark text ∷ rs) more later =
    ap (λ cs. record { tokens = n; text = trimmed text } ∷ cs) (comments_in-append n rs more later)

-- ---- over the cuts

abbrev from_cuts : List ℕ → List Cut → ℕ → List Token → List Noted
from_cuts text cs n ts = cut_comments (length text) n ts cs

-- the comments from a place on are those of the cuts behind it
abbrev AreLinked : List ℕ → List Cut → Type 0
AreLinked text cs = (before : List Piece) (ts : List Token) (place : ℕ) (rs : List Remark) (n : ℕ)
    → AreSpelled before cs → Stands text place rs (joined cs)
    → comments_from text place n (tokens_of text ts cs) ≡ comments_in n rs (from_cuts text cs n ts)

-- what is shown of a first cut that is this token, or none
abbrev IsLinked : List ℕ → List Cut → List Token → ℕ → List Remark → ℕ → Option Token → List ℕ → Type 0
IsLinked text cs ts place rs n t spelling =
    comments_from text place n (with_spanned t (span_of text spelling cs) (tokens_of text (with_token t ts) cs))
    ≡ comments_in n rs (counted_cut n ts (from_cuts text cs) t)

linked_token : {text : List ℕ} (cs : List Cut) → AreLinked text cs → (before : List Piece) (ts : List Token)
    (place : ℕ) (rs : List Remark) (n : ℕ) (t : Token) (spelling : List ℕ) → AreSpelled before cs
    → Stands text place rs (spelling ++ joined cs) → IsLinked text cs ts place rs n (Some t) spelling
linked_token {text} cs linked before ts place rs n t spelling spelled stands =
    let behind = past_token spelling (joined cs) stands in
    let more = linked before (t ∷ ts) (length text - length (joined cs)) [] (counted t n) spelled behind in
    λ i. comments_in n (noted_before (spelling ++ joined cs) stands i) (more i)

linked_newline : {text : List ℕ} (cs : List Cut) → AreLinked text cs → (before : List Piece) (ts : List Token)
    (place : ℕ) (rs : List Remark) (n : ℕ) (q : Bool) → AreSpelled before cs
    → Stands text place rs (10 ∷ joined cs)
    → IsLinked text cs ts place rs n (if q then Some token.Separator else None) (10 ∷ [])
linked_newline cs linked before ts place rs n true spelled stands =
    linked_token cs linked before ts place rs n token.Separator (10 ∷ []) spelled stands
linked_newline {text} cs linked before ts place rs n false spelled stands =
    linked before ts place (rs ++ line_end ∷ []) n spelled (over_newline (joined cs) stands)
    ∙ comments_in-append n rs (line_end ∷ []) (from_cuts text cs n ts)

linked_piece : {text : List ℕ} (cs : List Cut) → AreLinked text cs → (before : List Piece) (ts : List Token)
    (place : ℕ) (rs : List Remark) (n : ℕ) (p : Piece) (spelling : List ℕ)
    → Begins before p (spelling ++ joined cs) (joined cs) → AreSpelled (p ∷ before) cs
    → Stands text place rs (spelling ++ joined cs)
    → let first : Lexeme = record { piece = p; span = span_of text spelling cs } in
    comments_from text place n (tokens_from ts (kept (first ∷ placed (length text) cs)))
    ≡ comments_in n rs (comments_at n ts spelling (kept_of text cs) (from_cuts text cs) p)
linked_piece cs linked before ts place rs n Blank spelling is spelled stands =
    linked (Blank ∷ before) ts place rs n spelled (over_blank spelling (joined cs) is stands)
linked_piece {text} cs linked before ts place rs n Comment spelling is spelled stands =
    let note = remark spelling ∷ [] in
    linked (Comment ∷ before) ts place (rs ++ note) n spelled (over_comment spelling (joined cs) is stands)
    ∙ comments_in-append n rs note (from_cuts text cs n ts)
linked_piece {text} cs linked before ts place rs n Newline spelling is spelled stands =
    let same = append_cancel_right spelling (10 ∷ []) (joined cs) is in
    let here : Stands text place rs (10 ∷ joined cs) = subst (Stands text place rs) is stands in
    let parting = newline_parts ts (kept_of text cs) in
    subst (IsLinked text cs ts place rs n (if parting then Some token.Separator else None)) (sym same)
    (linked_newline cs linked (Newline ∷ before) ts place rs n parting spelled here)
linked_piece {text} cs linked before ts place rs n Brace spelling is spelled stands =
    linked_token cs linked (Brace ∷ before) ts place rs n (brace_token ts (kept_of text cs)) spelling spelled stands
linked_piece cs linked before ts place rs n Bar spelling is spelled stands =
    linked_token cs linked (Bar ∷ before) ts place rs n (bar_token ts) spelling spelled stands
linked_piece cs linked before ts place rs n (Word t) spelling is spelled stands =
    linked_token cs linked (Word t ∷ before) ts place rs n t spelling spelled stands

pub comments_linked_from : (text : List ℕ) (cs : List Cut) → AreLinked text cs
comments_linked_from text [] before ts place rs n spelled stands =
    ap (λ r. comments_in n r []) (noted_at_end stands)
comments_linked_from text (c ∷ cs) before ts place rs n spelled stands =
    linked_piece cs (comments_linked_from text cs) before ts place rs n c.piece c.spelling spelled.0 spelled.1 stands

-- the comments of a text that is cut so
pub linked_comments : (cs : List Cut) → AreSpelled [] cs
    → comments_of (joined cs) (tokens_from [] (kept (placed (length (joined cs)) cs)))
    ≡ cut_comments (length (joined cs)) 0 [] cs
linked_comments cs spelled = comments_linked_from (joined cs) cs [] [] 0 [] 0 spelled (starts (joined cs))
