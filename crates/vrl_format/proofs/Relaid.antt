-- What is told of the cuts that a layout writes: the elements of the layout.
use Rattle.std.proofs.Common.{◌≡◌, refl, sym, ap, ◌∙◌, ℕ, zero, suc, Bool, true, false, if◌then◌else◌, List, [], ◌∷◌, ◌++◌, Option, Some, None}
use Rattle.vrl_diag.specs.declared.diagnostic.Span.{Span}
use Rattle.vrl_token.specs.declared.piece.Lexeme.{Lexeme}
use Rattle.vrl_token.specs.declared.piece.Piece.{Piece}
use Rattle.vrl_token.specs.declared.piece.Piece.TheVariants.{Blank, Comment, Newline, Brace, Bar, Word}
use Rattle.vrl_token.specs.declared.token.Spanned.{Spanned}
use Rattle.vrl_token.specs.declared.token.Token.{Token}
use Rattle.vrl_token.specs.declared.token.Token.TheVariants as token
use Rattle.vrl_token.specs.Brackets.{token_of, tokens_from, with_spanned, with_token}
use Rattle.vrl_token.specs.Division.{kept, span_between}
use Rattle.vrl_format.specs.Layout.{Gap, nothing, space, break, blocks_at, blocks_behind, gap}
use Rattle.vrl_format.specs.Pieces.{Between, newline, semicolon, Sort, comment, braces_behind, closes_next, opens_bare, sort_of, trimmed}
use Rattle.vrl_format.proofs.Cuts.{joined, placed}
use Rattle.vrl_format.proofs.Elements.{Element, note, line, stop, word, AreTold, ArePlanned, Behind, IsTold, Plan, closes_next_word, cuts_of, element_at, elements, gap_plans, indent_plans, lead_plans, line_element, line_plan, opens_bare_word, parting_token, parts_here, plans, stop_element, with_parting, word_element}

-- ---- the elements of a layout

abbrev pub gap_elements : Gap → Bool → List Element → List Element
gap_elements nothing q later = later
gap_elements space q later = later
gap_elements (break false) q later = line q ∷ later
gap_elements (break true) q later = line q ∷ line q ∷ later

-- before the first piece nothing stands
abbrev pub lead_elements : Option Sort → List Between → Sort → Bool → List Element → List Element
lead_elements None between s q later = later
lead_elements (Some a) between s q later = gap_elements (gap a between s) q later

-- behind the last piece a newline stands
abbrev pub end_elements : Option Sort → List Token → List Element
end_elements None before = []
end_elements (Some a) before = line (parts_here before []) ∷ []

-- behind the last piece of this sort, where this stands between it and the place, and these tokens stand
-- before
abbrev pub laid_elements : Option Sort → List Between → List Token → List Element → List Element
laid_elements last between before [] = end_elements last before
laid_elements last between before (note x ∷ es) =
    lead_elements last between comment (parts_here before es)
    (note (trimmed x) ∷ laid_elements (Some comment) [] before es)
laid_elements last between before (line q ∷ es) =
    laid_elements last (between ++ newline q ∷ []) (with_parting q before) es
laid_elements last between before (stop ∷ es) =
    laid_elements last (between ++ semicolon ∷ []) (token.Separator ∷ before) es
laid_elements last between before (word p t s x ∷ es) =
    lead_elements last between s (parts_here before (word p t s x ∷ es))
    (word p t s x ∷ laid_elements (Some s) [] (t ∷ before) es)

-- ---- whether what stands behind closes a brace

-- a token that is planned, before what a test says of those behind
abbrev closes_option : Option Token → Bool → Bool
closes_option None later = later
closes_option (Some token.Separator) later = later
closes_option (Some token.CloseBrace) later = true
closes_option (Some t) later = false

abbrev closes_planned : List Plan → Bool
closes_planned [] = false
closes_planned (p ∷ ps) = closes_option p.token (closes_planned ps)

first_kept : (after : List Token) (p : Piece) (span : Span) (ls : List Lexeme)
    → tokens_from after (kept (record { piece = p; span = span } ∷ ls))
    ≡ with_spanned (token_of after p (kept ls)) span
    (tokens_from (with_token (token_of after p (kept ls)) after) (kept ls))
first_kept after Blank span ls = refl
first_kept after Comment span ls = refl
first_kept after p span ls = refl

closes_first : (o : Option Token) (span : Span) (ts : List Spanned)
    → closes_next (with_spanned o span ts) ≡ closes_option o (closes_next ts)
closes_first None span ts = refl
closes_first (Some token.Separator) span ts = refl
closes_first (Some token.CloseBrace) span ts = refl
closes_first (Some t) span ts = refl

closes_as_planned : (total : ℕ) (after : List Token) (ps : List Plan) → ArePlanned total after ps
    → closes_next (tokens_from after (kept (placed total (cuts_of ps)))) ≡ closes_planned ps
closes_as_planned total after [] planned = refl
closes_as_planned total after (p ∷ ps) (first, planned) =
    let behind = placed total (cuts_of ps) in
    let span = span_between total (p.cut.spelling ++ joined (cuts_of ps)) (joined (cuts_of ps)) in
    ap closes_next (first_kept after p.cut.piece span behind)
    ∙ (λ i. closes_next (with_spanned (first i) span (tokens_from (with_token (first i) after) (kept behind))))
    ∙ closes_first p.token span (tokens_from (with_token p.token after) (kept behind))
    ∙ ap (closes_option p.token) (closes_as_planned total (with_token p.token after) ps planned)

closes_line : (q : Bool) (later : List Plan) → closes_planned (line_plan q ∷ later) ≡ closes_planned later
closes_line true later = refl
closes_line false later = refl

closes_indented : (blocks : ℕ) (later : List Plan) → closes_planned (indent_plans blocks later) ≡ closes_planned later
closes_indented zero later = refl
closes_indented (suc blocks) later = refl

closes_gap : (g : Gap) (blocks : ℕ) (q : Bool) (later : List Plan)
    → closes_planned (gap_plans g blocks q later) ≡ closes_planned later
closes_gap nothing blocks q later = refl
closes_gap space blocks q later = refl
closes_gap (break false) blocks q later = closes_line q (indent_plans blocks later) ∙ closes_indented blocks later
closes_gap (break true) blocks q later =
    closes_line q (line_plan q ∷ indent_plans blocks later) ∙ closes_line q (indent_plans blocks later)
    ∙ closes_indented blocks later

closes_lead : (last : Option Sort) (between : List Between) (s : Sort) (blocks : ℕ) (q : Bool) (later : List Plan)
    → closes_planned (lead_plans last between s blocks q later) ≡ closes_planned later
closes_lead None between s blocks q later = refl
closes_lead (Some a) between s blocks q later = closes_gap (gap a between s) (blocks_at s blocks) q later

closes_brace : (b : Bool) (later : Bool)
    → closes_option (Some (if b then token.OpenObject else token.OpenBlock)) later ≡ false
closes_brace true later = refl
closes_brace false later = refl

closes_bar : (arrow bars later : Bool)
    → closes_option (Some (if arrow then token.OpenBars else if bars then token.CloseBars else token.Merge)) later
    ≡ false
closes_bar true bars later = refl
closes_bar false true later = refl
closes_bar false false later = refl

closes_word : (bare : Bool) (before : List Token) (p : Piece) (t : Token) (s : Sort) (x : List ℕ)
    (es : List Element) (later : Bool) → IsTold bare before p t es → later ≡ closes_next_word es
    → closes_option (Some t) later ≡ closes_next_word (word p t s x ∷ es)
closes_word bare before Blank t s x es later told is = elim told [ ]
closes_word bare before Comment t s x es later told is = elim told [ ]
closes_word bare before Newline t s x es later told is = elim told [ ]
closes_word bare before Brace t s x es later told is =
    ap (λ u. closes_option (Some u) later) told ∙ closes_brace _ later
closes_word bare before Bar t s x es later told is =
    ap (λ u. closes_option (Some u) later) told ∙ closes_bar _ _ later
closes_word bare before (Word token.Separator) t s x es later (told, flag, parts) is =
    ap (λ u. closes_option (Some u) later) told ∙ is
closes_word bare before (Word token.CloseBrace) t s x es later told is = ap (λ u. closes_option (Some u) later) told
closes_word bare before (Word u) t s x es later told is = ap (λ v. closes_option (Some v) later) told

closes_plans : (last : Option Sort) (blocks : ℕ) (between : List Between) (before : List Token) (es : List Element)
    (braces : List Bool) (bare : Bool) → AreTold braces bare before es
    → closes_planned (plans last blocks between before es) ≡ closes_next_word es
closes_plans None blocks between before [] braces bare told = refl
closes_plans (Some a) blocks between before [] braces bare told = closes_line (parts_here before []) []
closes_plans last blocks between before (note x ∷ es) braces bare (ends, told) =
    closes_lead last between comment blocks (parts_here before es) _
    ∙ closes_plans (Some comment) (blocks_behind comment blocks) [] before es braces bare told
closes_plans last blocks between before (line q ∷ es) braces bare (is, told) =
    closes_plans last blocks (between ++ newline q ∷ []) (with_parting q before) es braces bare told
closes_plans last blocks between before (stop ∷ es) braces bare (is, told) =
    closes_plans last blocks (between ++ semicolon ∷ []) (token.Separator ∷ before) es braces bare told
closes_plans last blocks between before (word p t s x ∷ es) braces bare (is, sort, follows, told) =
    closes_lead last between s blocks (parts_here before (word p t s x ∷ es)) _
    ∙ closes_word bare before p t s x es _ is
    (closes_plans (Some s) (blocks_behind s blocks) [] (t ∷ before) es (braces_behind t braces)
    (opens_bare_word t es) told)

opens_alike : (t : Token) (behind : List Spanned) (es : List Element) → closes_next behind ≡ closes_next_word es
    → opens_bare t behind ≡ opens_bare_word t es
opens_alike token.OpenBlock behind es is = is
opens_alike t behind es is = refl

-- ---- what is told of the cuts

-- behind any tokens these plans tell so
abbrev Tells : ℕ → List Bool → Bool → List Plan → List Element → Type 0
Tells total braces bare later laid = (after : List Token) → ArePlanned total after later
    → elements total braces bare after (cuts_of later) ≡ laid

line_told : (braces : List Bool) (bare : Bool) (after : List Token) (q : Bool) (go : Behind) (laid : List Element)
    → go braces bare (with_token (parting_token q) after) ≡ laid
    → line_element braces bare after go (parting_token q) ≡ line q ∷ laid
line_told braces bare after true go laid is = ap (λ es. line true ∷ es) is
line_told braces bare after false go laid is = ap (λ es. line false ∷ es) is

line_tells : (total : ℕ) (braces : List Bool) (bare : Bool) (q : Bool) (later : List Plan) (laid : List Element)
    → Tells total braces bare later laid → Tells total braces bare (line_plan q ∷ later) (line q ∷ laid)
line_tells total braces bare q later laid tells after (first, planned) =
    let go : Behind = λ bs b ts. elements total bs b ts (cuts_of later) in
    ap (line_element braces bare after go) first
    ∙ line_told braces bare after q go laid (tells (with_token (parting_token q) after) planned)

indent_tells : (total : ℕ) (braces : List Bool) (bare : Bool) (blocks : ℕ) (later : List Plan) (laid : List Element)
    → Tells total braces bare later laid → Tells total braces bare (indent_plans blocks later) laid
indent_tells total braces bare zero later laid tells after planned = tells after planned
indent_tells total braces bare (suc blocks) later laid tells after (first, planned) = tells after planned

gap_tells : (total : ℕ) (braces : List Bool) (bare : Bool) (g : Gap) (blocks : ℕ) (q : Bool) (later : List Plan)
    (laid : List Element) → Tells total braces bare later laid
    → Tells total braces bare (gap_plans g blocks q later) (gap_elements g q laid)
gap_tells total braces bare nothing blocks q later laid tells = tells
gap_tells total braces bare space blocks q later laid tells = λ after (blank, planned). tells after planned
gap_tells total braces bare (break false) blocks q later laid tells =
    line_tells total braces bare q (indent_plans blocks later) laid
    (indent_tells total braces bare blocks later laid tells)
gap_tells total braces bare (break true) blocks q later laid tells =
    line_tells total braces bare q (line_plan q ∷ indent_plans blocks later) (line q ∷ laid)
    (line_tells total braces bare q (indent_plans blocks later) laid
    (indent_tells total braces bare blocks later laid tells))

lead_tells : (total : ℕ) (braces : List Bool) (bare : Bool) (last : Option Sort) (between : List Between) (s : Sort)
    (blocks : ℕ) (q : Bool) (later : List Plan) (laid : List Element) → Tells total braces bare later laid
    → Tells total braces bare (lead_plans last between s blocks q later) (lead_elements last between s q laid)
lead_tells total braces bare None between s blocks q later laid tells = tells
lead_tells total braces bare (Some a) between s blocks q later laid tells =
    gap_tells total braces bare (gap a between s) (blocks_at s blocks) q later laid tells

-- a word, from what is told behind it
word_of : (braces : List Bool) (bare : Bool) (after : List Token) (p : Piece) (x : List ℕ) (behind : List Lexeme)
    (go : Behind) (o : Option Token) (t : Token) (s : Sort) (laid : List Element) → o ≡ Some t → s ≡ sort_of braces t
    → go (braces_behind t braces) (opens_bare t (tokens_from (t ∷ after) behind)) (t ∷ after) ≡ laid
    → word_element braces bare after p x behind go o ≡ word p t s x ∷ laid
word_of braces bare after p x behind go o t s laid is sort later =
    ap (word_element braces bare after p x behind go) is ∙ (λ i. word p t (sym sort i) x ∷ later i)

word_told : (braces : List Bool) (bare : Bool) (before after : List Token) (p : Piece) (x : List ℕ)
    (behind : List Lexeme) (go : Behind) (t : Token) (s : Sort) (es laid : List Element) → IsTold bare before p t es
    → token_of after p behind ≡ Some t → s ≡ sort_of braces t
    → go (braces_behind t braces) (opens_bare t (tokens_from (t ∷ after) behind)) (t ∷ after) ≡ laid
    → element_at braces bare after x behind go p ≡ word p t s x ∷ laid
word_told braces bare before after Blank x behind go t s es laid told is sort later = elim told [ ]
word_told braces bare before after Comment x behind go t s es laid told is sort later = elim told [ ]
word_told braces bare before after Newline x behind go t s es laid told is sort later = elim told [ ]
word_told braces bare before after Brace x behind go t s es laid told is sort later =
    word_of braces bare after Brace x behind go _ t s laid is sort later
word_told braces bare before after Bar x behind go t s es laid told is sort later =
    word_of braces bare after Bar x behind go _ t s laid is sort later
word_told braces bare before after (Word token.Separator) x behind go t s es laid (told, flag, parts) is sort later =
    ap (stop_element braces after x behind go) flag
    ∙ word_of braces true after (Word token.Separator) x behind go _ t s laid is sort later
word_told braces bare before after (Word u) x behind go t s es laid told is sort later =
    word_of braces bare after (Word u) x behind go _ t s laid is sort later

-- what is told behind a word, whether the next semicolon is a piece by the planned tokens
word_behind : (total : ℕ) (braces : List Bool) (after : List Token) (blocks : ℕ) (before : List Token) (t : Token)
    (s : Sort) (es : List Element)
    → ArePlanned total (t ∷ after) (plans (Some s) (blocks_behind s blocks) [] (t ∷ before) es)
    → AreTold (braces_behind t braces) (opens_bare_word t es) (t ∷ before) es
    → elements total (braces_behind t braces) (opens_bare_word t es) (t ∷ after)
    (cuts_of (plans (Some s) (blocks_behind s blocks) [] (t ∷ before) es))
    ≡ laid_elements (Some s) [] (t ∷ before) es
    → elements total (braces_behind t braces)
    (opens_bare t (tokens_from (t ∷ after)
    (kept (placed total (cuts_of (plans (Some s) (blocks_behind s blocks) [] (t ∷ before) es))))))
    (t ∷ after) (cuts_of (plans (Some s) (blocks_behind s blocks) [] (t ∷ before) es))
    ≡ laid_elements (Some s) [] (t ∷ before) es
word_behind total braces after blocks before t s es planned told is =
    let later = plans (Some s) (blocks_behind s blocks) [] (t ∷ before) es in
    let closes = closes_as_planned total (t ∷ after) later planned
    ∙ closes_plans (Some s) (blocks_behind s blocks) [] (t ∷ before) es _ _ told in
    ap (λ flag. elements total (braces_behind t braces) flag (t ∷ after) (cuts_of later)) (opens_alike t _ es closes)
    ∙ is

-- the layout of elements that were told of a script has these elements
pub relaid : (total : ℕ) (braces : List Bool) (bare : Bool) (after : List Token) (last : Option Sort) (blocks : ℕ)
    (between : List Between) (before : List Token) (es : List Element)
    → ArePlanned total after (plans last blocks between before es) → AreTold braces bare before es
    → elements total braces bare after (cuts_of (plans last blocks between before es))
    ≡ laid_elements last between before es
relaid total braces bare after None blocks between before [] planned told = refl
relaid total braces bare after (Some a) blocks between before [] planned told =
    line_tells total braces bare (parts_here before []) [] [] (λ ts none. refl) after planned
relaid total braces bare after last blocks between before (note x ∷ es) planned (ends, told) =
    lead_tells total braces bare last between comment blocks (parts_here before es) _ _
    (λ ts (first, behind). ap (λ laid. note (trimmed x) ∷ laid)
    (relaid total braces bare ts (Some comment) (blocks_behind comment blocks) [] before es behind told))
    after planned
relaid total braces bare after last blocks between before (line q ∷ es) planned (is, told) =
    relaid total braces bare after last blocks (between ++ newline q ∷ []) (with_parting q before) es planned told
relaid total braces bare after last blocks between before (stop ∷ es) planned (is, told) =
    relaid total braces bare after last blocks (between ++ semicolon ∷ []) (token.Separator ∷ before) es planned told
relaid total braces bare after last blocks between before (word p t s x ∷ es) planned (is, sort, follows, told) =
    lead_tells total braces bare last between s blocks (parts_here before (word p t s x ∷ es)) _ _
    (λ ts (first, behind). word_told braces bare before ts p x
    (kept (placed total (cuts_of (plans (Some s) (blocks_behind s blocks) [] (t ∷ before) es))))
    (λ bs b us. elements total bs b us (cuts_of (plans (Some s) (blocks_behind s blocks) [] (t ∷ before) es)))
    t s es (laid_elements (Some s) [] (t ∷ before) es) is first sort
    (word_behind total braces ts blocks before t s es behind told
    (relaid total (braces_behind t braces) (opens_bare_word t es) (t ∷ ts) (Some s) (blocks_behind s blocks)
    [] (t ∷ before) es behind told)))
    after planned
