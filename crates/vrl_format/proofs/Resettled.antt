-- The pieces of a layout's elements are settled.
use Rattle.std.proofs.Common.{◌≡◌, refl, sym, ap, subst, ◌∙◌, ℕ, Bool, true, false, ◌||◌, if◌then◌else◌, List, [], ◌∷◌, ◌++◌, Some, None, true≢false}
use Rattle.std.specs.List.{list_any}
use Rattle.vrl_token.specs.declared.token.Token.{Token}
use Rattle.vrl_token.specs.declared.token.Token.TheVariants as token
use Rattle.vrl_format.specs.Layout.{Gap, nothing, space, break, gap, parts}
use Rattle.vrl_format.proofs.Settled.{AreSettled, ArePieces, left_by}
use Rattle.vrl_format.specs.Pieces.{Between, newline, semicolon, Piece, Sort, comment, before_trimmed, braces_behind, is_blank, trimmed}
use Rattle.vrl_format.proofs.Elements.{Element, note, line, stop, word, AreTold, element_pieces, opens_bare_word, parts_here, with_parting}
use Rattle.vrl_format.proofs.Relaid.{gap_elements, laid_elements}

-- ---- blanks at the end

trimmed_last : (b : ℕ) (blank : Bool) → is_blank b ≡ blank
    → trimmed (if blank then [] else b ∷ []) ≡ (if blank then [] else b ∷ [])
trimmed_last b true is = refl
trimmed_last b false is = ap (λ t. let r : List ℕ = if t then [] else b ∷ [] in r) is

trimmed_front : (b : ℕ) (bs : List ℕ) → trimmed bs ≡ bs → trimmed (before_trimmed b bs) ≡ before_trimmed b bs
trimmed_front b [] is = trimmed_last b (is_blank b) refl
trimmed_front b (c ∷ cs) is = ap (before_trimmed b) is

pub trimmed_twice : (x : List ℕ) → trimmed (trimmed x) ≡ trimmed x
trimmed_twice [] = refl
trimmed_twice (b ∷ bs) = trimmed_front b (trimmed bs) (trimmed_twice bs)

-- ---- separators between two pieces

-- a newline parts items at the place, if a separator stands there
abbrev Parts : List Between → List Token → List Element → Type 0
Parts between before es = list_any parts between ≡ true → parts_here before es ≡ true

any_behind : (between : List Between) (b : Between)
    → list_any parts (between ++ b ∷ []) ≡ (list_any parts between || parts b)
any_behind [] (newline true) = refl
any_behind [] (newline false) = refl
any_behind [] semicolon = refl
any_behind (newline true ∷ between) b = refl
any_behind (newline false ∷ between) b = any_behind between b
any_behind (semicolon ∷ between) b = refl

either : (x y t : Bool) → (x ≡ true → t ≡ true) → (y ≡ true → t ≡ true) → (x || y) ≡ true → t ≡ true
either true y t left right is = left refl
either false y t left right is = right is

none_parts : (before : List Token) (es : List Element) → Parts [] before es
none_parts before es is = absurd (true≢false (sym is))

still_parts : (q : Bool) (before : List Token) (es : List Element)
    → parts_here (with_parting q before) es ≡ parts_here before es
still_parts true before es = refl
still_parts false before es = refl

line_parts : (between : List Between) (q : Bool) (before : List Token) (es : List Element) → q ≡ parts_here before es
    → Parts between before es → Parts (between ++ newline q ∷ []) (with_parting q before) es
line_parts between q before es is parted any =
    still_parts q before es
    ∙ either (list_any parts between) q (parts_here before es) parted (λ parting. sym is ∙ parting)
    (sym (any_behind between (newline q)) ∙ any)

-- ---- pieces

gap_pieces : (g : Gap) (q : Bool) (later : List Element)
    → element_pieces [] (gap_elements g q later) ≡ element_pieces (left_by g q) later
gap_pieces nothing q later = refl
gap_pieces space q later = refl
gap_pieces (break false) q later = refl
gap_pieces (break true) q later = refl

-- a piece behind its gap, and those behind it
settled_behind : (a : Sort) (p : Piece) (ps : List Piece) (q : Bool) (x : List ℕ) (later : List Element)
    (rs : List Piece)
    → ((between : List Between)
    → element_pieces between later ≡ record { between = between; sort = p.sort; spelling = x } ∷ rs)
    → (list_any parts p.between ≡ true → q ≡ true) → x ≡ p.spelling → AreSettled p.sort ps rs
    → AreSettled a (p ∷ ps) (element_pieces [] (gap_elements (gap a p.between p.sort) q later))
settled_behind a p ps q x later rs are parted same settled =
    subst (AreSettled a (p ∷ ps))
    (sym (gap_pieces (gap a p.between p.sort) q later ∙ are (left_by (gap a p.between p.sort) q)))
    (record { parting = q; between = refl; parts_still = parted; same_sort = refl; same_spelling = same }, settled)

pub all_settled : (braces : List Bool) (bare : Bool) (a : Sort) (between : List Between) (before : List Token)
    (es : List Element) → Parts between before es → AreTold braces bare before es
    → AreSettled a (element_pieces between es) (element_pieces [] (laid_elements (Some a) between before es))
all_settled braces bare a between before [] parted told = tt
all_settled braces bare a between before (note x ∷ es) parted (ends, told) =
    settled_behind a (record { between = between; sort = comment; spelling = trimmed x }) (element_pieces [] es)
    (parts_here before es) (trimmed (trimmed x)) (note (trimmed x) ∷ laid_elements (Some comment) [] before es)
    (element_pieces [] (laid_elements (Some comment) [] before es)) (λ b. refl) parted (trimmed_twice x)
    (all_settled braces bare comment [] before es (none_parts before es) told)
all_settled braces bare a between before (line q ∷ es) parted (is, told) =
    all_settled braces bare a (between ++ newline q ∷ []) (with_parting q before) es
    (line_parts between q before es is parted) told
all_settled braces bare a between before (stop ∷ es) parted (is, told) =
    all_settled braces bare a (between ++ semicolon ∷ []) (token.Separator ∷ before) es (λ any. is) told
all_settled braces bare a between before (word p t s x ∷ es) parted (is, sort, follows, told) =
    settled_behind a (record { between = between; sort = s; spelling = x }) (element_pieces [] es)
    (parts_here before (word p t s x ∷ es)) x (word p t s x ∷ laid_elements (Some s) [] (t ∷ before) es)
    (element_pieces [] (laid_elements (Some s) [] (t ∷ before) es)) (λ b. refl) parted refl
    (all_settled (braces_behind t braces) (opens_bare_word t es) s [] (t ∷ before) es (none_parts (t ∷ before) es)
    told)

-- before the first piece
first_settled : (braces : List Bool) (bare : Bool) (between : List Between) (before : List Token) (es : List Element)
    → AreTold braces bare before es
    → ArePieces (element_pieces between es) (element_pieces [] (laid_elements None between before es))
first_settled braces bare between before [] told = tt
first_settled braces bare between before (note x ∷ es) (ends, told) =
    (refl, trimmed_twice x, all_settled braces bare comment [] before es (none_parts before es) told)
first_settled braces bare between before (line q ∷ es) (is, told) =
    first_settled braces bare (between ++ newline q ∷ []) (with_parting q before) es told
first_settled braces bare between before (stop ∷ es) (is, told) =
    first_settled braces bare (between ++ semicolon ∷ []) (token.Separator ∷ before) es told
first_settled braces bare between before (word p t s x ∷ es) (is, sort, follows, told) = (
  refl,
  refl,
  all_settled (braces_behind t braces) (opens_bare_word t es) s [] (t ∷ before) es (none_parts (t ∷ before) es)
      told,
)

-- the pieces of the layout are those of the elements, settled
pub pieces_settled : (braces : List Bool) (bare : Bool) (es : List Element) → AreTold braces bare [] es
    → ArePieces (element_pieces [] es) (element_pieces [] (laid_elements None [] [] es))
pieces_settled braces bare es told = first_settled braces bare [] [] es told
