-- The comments of a layout's elements are those of the elements.
use Rattle.std.proofs.Common.{◌≡◌, refl, ◌∙◌, ℕ, Bool, true, false, List, [], ◌∷◌, ◌++◌, Option, Some, None}
use Rattle.vrl_token.specs.declared.token.Token.{Token}
use Rattle.vrl_token.specs.declared.token.Token.TheVariants as token
use Rattle.vrl_format.specs.Comments.{counted}
use Rattle.vrl_format.specs.Layout.{Gap, nothing, space, break, gap}
use Rattle.vrl_format.specs.Pieces.{Between, newline, semicolon, Sort, comment, trimmed}
use Rattle.vrl_format.proofs.Elements.{Element, note, line, stop, word, element_comments, parts_here, with_parting}
use Rattle.vrl_format.proofs.Relaid.{gap_elements, laid_elements, lead_elements}
use Rattle.vrl_format.proofs.Resettled.{trimmed_twice}

gap_comments : (n : ℕ) (g : Gap) (q : Bool) (later : List Element)
    → element_comments n (gap_elements g q later) ≡ element_comments n later
gap_comments n nothing q later = refl
gap_comments n space q later = refl
gap_comments n (break false) q later = refl
gap_comments n (break true) q later = refl

lead_comments : (n : ℕ) (last : Option Sort) (between : List Between) (s : Sort) (q : Bool) (later : List Element)
    → element_comments n (lead_elements last between s q later) ≡ element_comments n later
lead_comments n None between s q later = refl
lead_comments n (Some a) between s q later = gap_comments n (gap a between s) q later

pub same_comments : (n : ℕ) (last : Option Sort) (between : List Between) (before : List Token) (es : List Element)
    → element_comments n (laid_elements last between before es) ≡ element_comments n es
same_comments n None between before [] = refl
same_comments n (Some a) between before [] = refl
same_comments n last between before (note x ∷ es) =
    lead_comments n last between comment (parts_here before es)
    (note (trimmed x) ∷ laid_elements (Some comment) [] before es)
    ∙ (λ i. record { tokens = n; text = trimmed_twice x i } ∷ same_comments n (Some comment) [] before es i)
same_comments n last between before (line q ∷ es) =
    same_comments n last (between ++ newline q ∷ []) (with_parting q before) es
same_comments n last between before (stop ∷ es) =
    same_comments n last (between ++ semicolon ∷ []) (token.Separator ∷ before) es
same_comments n last between before (word p t s x ∷ es) =
    lead_comments n last between s (parts_here before (word p t s x ∷ es))
    (word p t s x ∷ laid_elements (Some s) [] (t ∷ before) es)
    ∙ same_comments (counted t n) (Some s) [] (t ∷ before) es
