-- Pieces with what stands behind each, read from the last one on.
use Rattle.std.proofs.Common.{◌≡◌, List, [], ◌∷◌, ◌++◌, reverse, refl, sym, ap, ◌∙◌, append_assoc, subst}
use Rattle.std.proofs.lemmas.List.{reverse-append}
use Rattle.vrl_token.specs.declared.ahead.Ahead.{Ahead}
use Rattle.vrl_token.specs.declared.ahead.Ready.{Ready}
use Rattle.vrl_token.specs.declared.piece.Lexeme.{Lexeme}
use Rattle.vrl_token.specs.Telling.{AreReady, IsAhead}

-- the pieces that are done, from the last one on
pub record IsReadied (all lexemes : List Lexeme) (ready : List Ready) (ahead : Ahead) : Type 0 where
  pub done : List Lexeme
  pub parts : all ≡ lexemes ++ done
  pub are_ready : AreReady (reverse ready) done
  pub is_ahead : IsAhead done ahead

pub reverse-snoc : {X : Type 0} (xs : List X) (x : X) → reverse (xs ++ x ∷ []) ≡ x ∷ reverse xs
reverse-snoc xs x = reverse-append xs (x ∷ [])

-- one more piece, in front of those that are done
pub readied_more : {all lexemes left : List Lexeme} {ready more : List Ready} {ahead next : Ahead} (p : Lexeme) → IsReadied all lexemes ready ahead → lexemes ≡ left ++ p ∷ []
    → more ≡ ready ++ record { lexeme = p; ahead = ahead } ∷ [] → ((behind : List Lexeme) → IsAhead behind ahead → IsAhead (p ∷ behind) next) → IsReadied all left more next
readied_more {all} {lexemes} {left} {ready} {more} {ahead} {next} p so_far popped pushed goes_on = record {
  done = p ∷ so_far.done;
  parts = so_far.parts ∙ ap (λ ps. ps ++ so_far.done) popped ∙ append_assoc left (p ∷ []) so_far.done;
  are_ready = subst (λ rs. AreReady rs (p ∷ so_far.done)) (sym (ap reverse pushed ∙ reverse-snoc ready (record { lexeme = p; ahead = ahead }))) (refl, so_far.is_ahead, so_far.are_ready);
  is_ahead = goes_on so_far.done so_far.is_ahead;
}
