-- A text as its pieces with their spellings, without places.
use Rattle.std.proofs.Common.{◌≡◌, refl, ap, ◌∙◌, subst, ℕ, List, [], ◌∷◌, ◌++◌}
use Rattle.vrl_token.specs.declared.piece.Lexeme.{Lexeme}
use Rattle.vrl_token.specs.declared.piece.Piece.{Piece}
use Rattle.vrl_token.specs.Division.{Leads, span_between}
use Rattle.vrl_token.specs.Pieces.{Begins}
use Rattle.vrl_token.proofs.Taking.{piece_takes}

pub record Cut : Type 0 where
  pub piece : Piece
  pub spelling : List ℕ

abbrev pub joined : List Cut → List ℕ
joined [] = []
joined (c ∷ cs) = c.spelling ++ joined cs

-- each piece is spelled so behind those before it, and before the rest
abbrev pub AreSpelled : List Piece → List Cut → Type 0
AreSpelled before [] = Unit {0}
AreSpelled before (c ∷ cs) = Begins before c.piece (c.spelling ++ joined cs) (joined cs) × AreSpelled (c.piece ∷ before) cs

-- the pieces at their places in a text of so many bytes
abbrev pub placed : ℕ → List Cut → List Lexeme
placed total [] = []
placed total (c ∷ cs) =
    record { piece = c.piece; span = span_between total (c.spelling ++ joined cs) (joined cs) } ∷ placed total cs

pub spelled_leads : (total : ℕ) (before : List Piece) (cs : List Cut) → AreSpelled before cs → Leads total before (joined cs) (placed total cs) []
spelled_leads total before [] spelled = refl
spelled_leads total before (c ∷ cs) (begins, spelled) = (joined cs, begins, refl, spelled_leads total (c.piece ∷ before) cs spelled)

-- a text that is led through is cut so
pub record IsCutUp (total : ℕ) (before : List Piece) (text : List ℕ) (lexemes : List Lexeme) : Type 0 where
  pub cuts : List Cut
  pub text_is : text ≡ joined cuts
  pub spelled : AreSpelled before cuts
  pub lexemes_are : lexemes ≡ placed total cuts

one_more : (total : ℕ) (before : List Piece) (p : Lexeme) (front text next : List ℕ) (ps : List Lexeme) → text ≡ front ++ next
    → Begins before p.piece text next → p.span ≡ span_between total text next → IsCutUp total (p.piece ∷ before) next ps
    → IsCutUp total before text (p ∷ ps)
one_more total before p front text next ps parts begins span more = record {
  cuts = record { piece = p.piece; spelling = front } ∷ more.cuts;
  text_is = parts ∙ ap (λ rest. front ++ rest) more.text_is;
  spelled = (subst (λ rest. Begins before p.piece (front ++ rest) rest) more.text_is (subst (λ whole. Begins before p.piece whole next) parts begins), more.spelled);
  lexemes_are = (λ i. record { piece = p.piece; span = (span ∙ (λ j. span_between total (parts j) next) ∙ (λ j. span_between total (front ++ more.text_is j) (more.text_is j))) i } ∷ more.lexemes_are i);
}

pub led_is_cut : (total : ℕ) (before : List Piece) (text : List ℕ) (ps : List Lexeme) → Leads total before text ps [] → IsCutUp total before text ps
led_is_cut total before text [] leads = record { cuts = []; text_is = leads; spelled = tt; lexemes_are = refl }
led_is_cut total before text (p ∷ ps) (next, begins, span, leads) =
    let taken = piece_takes before p.piece text next begins in
    one_more total before p taken.front text next ps taken.parts begins span (led_is_cut total (p.piece ∷ before) next ps leads)
