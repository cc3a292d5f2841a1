-- The division of a text into pieces: they join to the text, each is a spelling of its sort behind
-- the pieces before it, and none could be longer.
use Rattle.std.specs.Prelude.{◌≡◌, ℕ, ◌-◌, Bool, true, false, List, [], ◌∷◌, length, filter}
use Rattle.vrl_diag.specs.declared.diagnostic.Diagnostic.{Diagnostic}
use Rattle.vrl_diag.specs.declared.diagnostic.Span.{Span}
use Rattle.vrl_token.specs.declared.piece.Piece.{Piece}
use Rattle.vrl_token.specs.declared.piece.Piece.TheVariants.{Blank, Comment}
use Rattle.vrl_token.specs.declared.piece.Lexeme.{Lexeme}
use Rattle.vrl_token.specs.Faults.{IsFault}
use Rattle.vrl_token.specs.Pieces.{Begins}

-- the span of what stands between two rests of a text of so many bytes
abbrev pub span_between : ℕ → List ℕ → List ℕ → Span
span_between total text rest = record { start = total - length text; «end» = total - length rest }

-- the pieces before the place behind these
abbrev pub pieces_behind : List Piece → List Lexeme → List Piece
pieces_behind before [] = before
pieces_behind before (p ∷ ps) = pieces_behind (p.piece ∷ before) ps

-- Behind the pieces before it, the text is these pieces and a rest. Spans are told in the whole
-- text, which has so many bytes.
abbrev pub Leads : ℕ → List Piece → List ℕ → List Lexeme → List ℕ → Type 0
Leads total before text [] rest = text ≡ rest
Leads total before text (p ∷ ps) rest = (next : List ℕ) × Begins before p.piece text next
    × (p.span ≡ span_between total text next) × Leads total (p.piece ∷ before) next ps rest

-- the whole text is these pieces
abbrev pub IsDivision : List ℕ → List Lexeme → Type 0
IsDivision text pieces = Leads (length text) [] text pieces []

-- this is the first fault of the text by its place: pieces without a fault stand before it
pub record IsFirstFault (text : List ℕ) (fault : Diagnostic) : Type 0 where
  pub pieces : List Lexeme
  pub place : List ℕ
  pub rest : List ℕ
  pub leads : Leads (length text) [] text pieces place
  pub is_fault : IsFault (pieces_behind [] pieces) place fault.code rest
  pub span : fault.span ≡ span_between (length text) place rest

-- blanks and comments are let go
abbrev pub is_kept : Lexeme → Bool
is_kept p = is_kept_piece p.piece
  where
    is_kept_piece : Piece → Bool
    is_kept_piece Blank = false
    is_kept_piece Comment = false
    is_kept_piece _ = true

abbrev pub kept : List Lexeme → List Lexeme
kept pieces = filter is_kept pieces
