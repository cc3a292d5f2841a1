-- Tokens told from pieces one behind another.
use Rattle.std.proofs.Common.{◌≡◌, Some, None, List, [], ◌∷◌, ◌++◌, reverse, refl, sym, ap, ◌∙◌, subst, append_assoc}
use Rattle.vrl_token.specs.declared.ahead.Ready.{Ready}
use Rattle.vrl_token.specs.declared.before.Before.{Before}
use Rattle.vrl_token.specs.declared.piece.Lexeme.{Lexeme}
use Rattle.vrl_token.specs.declared.token.Spanned.{Spanned}
use Rattle.vrl_token.specs.declared.token.Token.{Token}
use Rattle.vrl_token.specs.Brackets.{tokens_from, token_of, with_spanned, with_token}
use Rattle.vrl_token.specs.Telling.{AreReady, IsAhead, IsBefore}
use Rattle.vrl_token.proofs.Readied.{reverse-snoc}

-- the tokens so far, what they say, and the pieces that are left
pub record IsToldSoFar (all : List Lexeme) (left : List Ready) (tokens : List Spanned) (before : Before) : Type 0 where
  pub names : List Token
  pub rest : List Lexeme
  pub are_ready : AreReady (reverse left) rest
  pub is_before : IsBefore names before
  pub tells : tokens_from [] all ≡ tokens ++ tokens_from names rest

pub told_none : {all : List Lexeme} {left : List Ready} {before : Before} → AreReady (reverse left) all → IsBefore [] before → IsToldSoFar all left [] before
told_none {all} ready is = record { names = []; rest = all; are_ready = ready; is_before = is; tells = refl }

-- the next piece, and what is left behind it
pub record IsNext (left : List Ready) (r : Ready) (front : List Ready) (rest : List Lexeme) : Type 0 where
  pub behind : List Lexeme
  pub is : rest ≡ r.lexeme ∷ behind
  pub is_ahead : IsAhead behind r.ahead
  pub are_ready : AreReady (reverse front) behind

next_of : (left : List Ready) (r : Ready) (front : List Ready) (rest : List Lexeme) → AreReady (r ∷ reverse front) rest → IsNext left r front rest
next_of left r front [] ready = absurd ready
next_of left r front (p ∷ ps) ready = record { behind = ps; is = ap (λ x. x ∷ ps) (sym ready.0); is_ahead = ready.1; are_ready = ready.2 }

pub next : (left front : List Ready) (r : Ready) (rest : List Lexeme) → left ≡ front ++ r ∷ [] → AreReady (reverse left) rest → IsNext left r front rest
next left front r rest popped ready = next_of left r front rest (subst (λ rs. AreReady rs rest) (ap reverse popped ∙ reverse-snoc front r) ready)

pub told_skip : {all : List Lexeme} {left front : List Ready} {tokens : List Spanned} {before : Before} (r : Ready) (so_far : IsToldSoFar all left tokens before) → left ≡ front ++ r ∷ []
    → ((names : List Token) (behind : List Lexeme) → IsBefore names before → IsAhead behind r.ahead → None ≡ token_of names r.lexeme.piece behind) → IsToldSoFar all front tokens before
told_skip {all} {left} {front} {tokens} {before} r so_far popped says =
    let n = next left front r so_far.rest popped so_far.are_ready in
    let none = says so_far.names n.behind so_far.is_before n.is_ahead in
    record {
      names = so_far.names;
      rest = n.behind;
      are_ready = n.are_ready;
      is_before = so_far.is_before;
      tells = so_far.tells ∙ ap (λ ps. tokens ++ tokens_from so_far.names ps) n.is ∙ ap (λ o. tokens ++ with_spanned o r.lexeme.span (tokens_from (with_token o so_far.names) n.behind)) (sym none);
    }

pub told_more : {all : List Lexeme} {left front : List Ready} {tokens more : List Spanned} {before new : Before} (r : Ready) (t : Token) (so_far : IsToldSoFar all left tokens before) → left ≡ front ++ r ∷ []
    → ((names : List Token) (behind : List Lexeme) → IsBefore names before → IsAhead behind r.ahead → Some t ≡ token_of names r.lexeme.piece behind)
    → ((names : List Token) → IsBefore names before → IsBefore (t ∷ names) new) → more ≡ tokens ++ record { token = t; span = r.lexeme.span } ∷ [] → IsToldSoFar all front more new
told_more {all} {left} {front} {tokens} {more} {before} {new} r t so_far popped says adds pushed =
    let n = next left front r so_far.rest popped so_far.are_ready in
    let some = says so_far.names n.behind so_far.is_before n.is_ahead in
    record {
      names = t ∷ so_far.names;
      rest = n.behind;
      are_ready = n.are_ready;
      is_before = adds so_far.names so_far.is_before;
      tells = so_far.tells ∙ ap (λ ps. tokens ++ tokens_from so_far.names ps) n.is ∙ ap (λ o. tokens ++ with_spanned o r.lexeme.span (tokens_from (with_token o so_far.names) n.behind)) (sym some)
          ∙ sym (ap (λ ts. ts ++ tokens_from (t ∷ so_far.names) n.behind) pushed ∙ append_assoc tokens (record { token = t; span = r.lexeme.span } ∷ []) (tokens_from (t ∷ so_far.names) n.behind));
    }
