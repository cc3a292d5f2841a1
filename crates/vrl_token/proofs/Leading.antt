-- Pieces read one behind another.
use Rattle.std.proofs.Common.{◌≡◌, ℕ, ◌-◌, true, false, if◌then◌else◌, List, [], ◌∷◌, ◌++◌, length, refl, sym, ap, ◌∙◌, subst}
use Rattle.vrl_diag.specs.declared.diagnostic.Span.{Span}
use Rattle.vrl_token.specs.declared.context.Context.{Context}
use Rattle.vrl_token.specs.declared.piece.Piece.{Piece}
use Rattle.vrl_token.specs.declared.piece.Lexeme.{Lexeme}
use Rattle.vrl_token.specs.Cuts.{IsContext}
use Rattle.vrl_token.specs.Division.{Leads, is_kept, kept, pieces_behind, span_between}
use Rattle.vrl_token.specs.Pieces.{Begins}

-- the pieces from the start of a text to a place, the context there and the pieces kept
pub record IsLed (text rest : List ℕ) (context : Context) (found : List Lexeme) : Type 0 where
  pub pieces : List Lexeme
  pub leads : Leads (length text) [] text pieces rest
  pub is_context : IsContext (pieces_behind [] pieces) context
  pub keeps : found ≡ kept pieces

pub span_is : (s : Span) (total : ℕ) (text rest : List ℕ) → s.start ≡ total - length text → s.«end» ≡ total - length rest → s ≡ span_between total text rest
span_is s total text rest start ends = ap (λ n. let t : Span = record { start = n; «end» = s.«end» } in t) start ∙ ap (λ n. let t : Span = record { start = total - length text; «end» = n } in t) ends

pieces_behind-more : (before : List Piece) (ps : List Lexeme) (p : Lexeme) → pieces_behind before (ps ++ p ∷ []) ≡ p.piece ∷ pieces_behind before ps
pieces_behind-more before [] p = refl
pieces_behind-more before (q ∷ qs) p = pieces_behind-more (q.piece ∷ before) qs p

leads_more : (total : ℕ) (before : List Piece) (text : List ℕ) (ps : List Lexeme) (rest next : List ℕ) (p : Lexeme) → Leads total before text ps rest → Begins (pieces_behind before ps) p.piece rest next → p.span ≡ span_between total rest next
    → Leads total before text (ps ++ p ∷ []) next
leads_more total before text [] rest next p leads begins span = (next, subst (λ t. Begins before p.piece t next) (sym leads) begins, span ∙ ap (λ t. span_between total t next) (sym leads), refl)
leads_more total before text (q ∷ qs) rest next p leads begins span = (leads.0, leads.1, leads.2, leads_more total (q.piece ∷ before) leads.0 qs rest next p leads.3 begins span)

kept-more : (ps : List Lexeme) (p : Lexeme) → kept (ps ++ p ∷ []) ≡ kept ps ++ kept (p ∷ [])
kept-more [] p = refl
kept-more (q ∷ qs) p = elim (is_kept q) as (λ b. (if b then q ∷ kept (qs ++ p ∷ []) else kept (qs ++ p ∷ [])) ≡ (if b then q ∷ kept qs else kept qs) ++ kept (p ∷ [])) [ true ↦ ap (λ t. q ∷ t) (kept-more qs p) | false ↦ kept-more qs p ]

pub led_more : {text rest next : List ℕ} {context new : Context} {found more : List Lexeme} (p : Lexeme) (led : IsLed text rest context found) → Begins (pieces_behind [] led.pieces) p.piece rest next
    → p.span ≡ span_between (length text) rest next → IsContext (p.piece ∷ pieces_behind [] led.pieces) new → more ≡ found ++ kept (p ∷ []) → IsLed text next new more
led_more {text} {rest} {next} {context} {new} {found} {more} p led begins span is keeps = record {
  pieces = led.pieces ++ p ∷ [];
  leads = leads_more (length text) [] text led.pieces rest next p led.leads begins span;
  is_context = subst (λ b. IsContext b new) (sym (pieces_behind-more [] led.pieces p)) is;
  keeps = keeps ∙ ap (λ t. t ++ kept (p ∷ [])) led.keeps ∙ sym (kept-more led.pieces p);
}
