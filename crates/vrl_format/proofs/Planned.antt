-- What a layout writes for elements is the layout of their pieces.
use Rattle.std.proofs.Common.{◌≡◌, refl, sym, ap, ◌∙◌, ℕ, zero, suc, Bool, true, false, List, [], ◌∷◌, ◌++◌, Option, Some, None}
use Rattle.vrl_format.specs.Layout.{Gap, nothing, space, break, blocks_at, blocks_behind, gap, gap_text, indent, layout, layout_behind}
use Rattle.vrl_format.specs.Pieces.{Between, newline, semicolon, Piece, Sort, comment, trimmed}
use Rattle.vrl_format.proofs.Cuts.{joined}
use Rattle.vrl_format.proofs.Elements.{Element, note, line, stop, word, Plan, cuts_of, element_pieces, gap_plans, indent_plans, lead_plans, plans, parts_here, with_parting}
use Rattle.vrl_token.specs.declared.token.Token.{Token}
use Rattle.vrl_token.specs.declared.token.Token.TheVariants as token

abbrev spelled : List Plan → List ℕ
spelled ps = joined (cuts_of ps)

-- the layout of pieces behind a last one, if there is one
abbrev laid_behind : Option Sort → ℕ → List Piece → List ℕ
laid_behind None blocks [] = []
laid_behind None blocks (p ∷ ps) = p.spelling ++ layout_behind p.sort (blocks_behind p.sort blocks) ps
laid_behind (Some a) blocks ps = layout_behind a blocks ps

indented : (blocks : ℕ) (later : List Plan) → spelled (indent_plans blocks later) ≡ indent blocks ++ spelled later
indented zero later = refl
indented (suc blocks) later = refl

gap_spelled : (g : Gap) (blocks : ℕ) (q : Bool) (later : List Plan) → spelled (gap_plans g blocks q later) ≡ gap_text g blocks ++ spelled later
gap_spelled nothing blocks q later = refl
gap_spelled space blocks q later = refl
gap_spelled (break false) blocks q later = ap (λ t. 10 ∷ t) (indented blocks later)
gap_spelled (break true) blocks q later = ap (λ t. 10 ∷ 10 ∷ t) (indented blocks later)

-- a piece, with what stands before it
led : (last : Option Sort) (blocks : ℕ) (between : List Between) (s : Sort) (x : List ℕ) (q : Bool) (later : List Plan) (ps : List Piece)
    → spelled later ≡ x ++ layout_behind s (blocks_behind s blocks) ps
    → spelled (lead_plans last between s blocks q later)
    ≡ laid_behind last blocks (record { between = between; sort = s; spelling = x } ∷ ps)
led None blocks between s x q later ps is = is
led (Some a) blocks between s x q later ps is =
    gap_spelled (gap a between s) (blocks_at s blocks) q later ∙ ap (λ t. gap_text (gap a between s) (blocks_at s blocks) ++ t) is

pub laid_by_plans : (last : Option Sort) (blocks : ℕ) (between : List Between) (before : List Token) (es : List Element)
    → spelled (plans last blocks between before es) ≡ laid_behind last blocks (element_pieces between es)
laid_by_plans None blocks between before [] = refl
laid_by_plans (Some a) blocks between before [] = refl
laid_by_plans last blocks between before (note x ∷ es) =
    led last blocks between comment (trimmed x) (parts_here before es) _ (element_pieces [] es)
    (ap (λ t. trimmed x ++ t) (laid_by_plans (Some comment) (blocks_behind comment blocks) [] before es))
laid_by_plans last blocks between before (line q ∷ es) = laid_by_plans last blocks (between ++ newline q ∷ []) (with_parting q before) es
laid_by_plans last blocks between before (stop ∷ es) = laid_by_plans last blocks (between ++ semicolon ∷ []) (token.Separator ∷ before) es
laid_by_plans last blocks between before (word p t s x ∷ es) =
    led last blocks between s x (parts_here before (word p t s x ∷ es)) _ (element_pieces [] es)
    (ap (λ u. x ++ u) (laid_by_plans (Some s) (blocks_behind s blocks) [] (t ∷ before) es))

first_laid : (ps : List Piece) → layout ps ≡ laid_behind None 0 ps
first_laid [] = refl
first_laid (p ∷ ps) = refl

pub plans_are_layout : (es : List Element) → joined (cuts_of (plans None 0 [] [] es)) ≡ layout (element_pieces [] es)
plans_are_layout es = laid_by_plans None 0 [] [] es ∙ sym (first_laid (element_pieces [] es))
