-- A text with tokens is cut up, and what is cut up so has these tokens.
use Rattle.std.proofs.Common.{◌≡◌, refl, ap, ◌∙◌, ℕ, List, [], length}
use Rattle.vrl_token.specs.declared.token.Spanned.{Spanned}
use Rattle.vrl_token.specs.Brackets.{tokens_from}
use Rattle.vrl_token.specs.Division.{kept}
use Rattle.vrl_token.specs.Reading.{HasTokens}
use Rattle.vrl_format.specs.Comments.{comments_of}
use Rattle.vrl_format.specs.Pieces.{at_start, pieces_of}
use Rattle.vrl_format.proofs.Cuts.{AreSpelled, Cut, joined, led_is_cut, placed, spelled_leads}
use Rattle.vrl_format.proofs.Linked.{cut_pieces, linked}
use Rattle.vrl_format.proofs.LinkedComments.{cut_comments, linked_comments}

abbrev pub tokens_cut : List Cut → List Spanned
tokens_cut cs = tokens_from [] (kept (placed (length (joined cs)) cs))

-- the text is cut so, and has the tokens, the pieces and the comments of its cuts
pub record HasCuts (text : List ℕ) (tokens : List Spanned) : Type 0 where
  pub cuts : List Cut
  pub spelled : AreSpelled [] cuts
  pub text_is : text ≡ joined cuts
  pub tokens_are : tokens ≡ tokens_cut cuts
  pub pieces_are : pieces_of text tokens ≡ cut_pieces (length (joined cuts)) at_start [] cuts
  pub comments_are : comments_of text tokens ≡ cut_comments (length (joined cuts)) 0 [] cuts

pub has_cuts : (text : List ℕ) (tokens : List Spanned) → HasTokens text tokens → HasCuts text tokens
has_cuts text tokens has =
    let cut = led_is_cut (length text) [] text has.pieces has.division in
    let told : tokens ≡ tokens_cut cut.cuts =
    has.tells ∙ ap (λ ps. tokens_from [] (kept ps)) cut.lexemes_are
    ∙ ap (λ t. tokens_from [] (kept (placed (length t) cut.cuts))) cut.text_is in
    record {
      cuts = cut.cuts;
      spelled = cut.spelled;
      text_is = cut.text_is;
      tokens_are = told;
      pieces_are = (λ i. pieces_of (cut.text_is i) (told i)) ∙ linked cut.cuts cut.spelled;
      comments_are = (λ i. comments_of (cut.text_is i) (told i)) ∙ linked_comments cut.cuts cut.spelled;
    }

pub cuts_have : (cs : List Cut) → AreSpelled [] cs → HasTokens (joined cs) (tokens_cut cs)
cuts_have cs spelled = record {
  pieces = placed (length (joined cs)) cs;
  division = spelled_leads (length (joined cs)) [] cs spelled;
  tells = refl;
}
