-- A layout has the tokens of its text, with the same separators but where the grammar sees none.
use Rattle.std.proofs.Common.{◌≡◌, refl, sym, ap, ◌∙◌, ℕ, zero, suc, Bool, true, false, ◌&&◌, not, List, [], ◌∷◌, ◌++◌, Option, Some, None, map}
use Rattle.vrl_diag.specs.declared.diagnostic.Span.{Span}
use Rattle.vrl_token.specs.declared.piece.Piece.{Piece}
use Rattle.vrl_token.specs.declared.piece.Piece.TheVariants.{Blank, Comment, Newline, Brace, Bar, Word}
use Rattle.vrl_token.specs.declared.token.Spanned.{Spanned}
use Rattle.vrl_token.specs.declared.token.Token.{Token}
use Rattle.vrl_token.specs.declared.token.Token.TheVariants as token
use Rattle.vrl_token.specs.Brackets.{token_of, tokens_from, with_spanned, with_token}
use Rattle.vrl_token.specs.Division.{kept, span_between}
use Rattle.vrl_format.specs.Apart.{apart, apart_from, ends_block}
use Rattle.vrl_format.specs.Layout.{Gap, nothing, space, break, blocks_at, blocks_behind, gap, is_end}
use Rattle.vrl_format.specs.Pieces.{Between, newline, semicolon, Sort, comment, braces_behind, sort_of, trimmed}
use Rattle.vrl_format.proofs.Alike.{Alike, alike_line, alike_note, alike_stop, gap_tokens, is_edge, last_other, lead_tokens, led_alike, seen}
use Rattle.vrl_format.proofs.AlikeWords.{alike_word, led}
use Rattle.vrl_format.proofs.Cuts.{Cut, joined, placed}
use Rattle.vrl_format.proofs.Elements.{ArePlanned, AreTold, Element, Plan, cuts_of, element_tokens, end_plans, gap_plans, indent_plans, lead_plans, line, line_plan, note, note_plan, opens_bare_word, parts_here, plans, stop, word, word_plan}

-- ---- the tokens of a layout

-- the tokens that are planned
abbrev pub plan_tokens : List Plan → List Token
plan_tokens [] = []
plan_tokens (p ∷ ps) = with_token p.token (plan_tokens ps)

abbrev pub bare_tokens : List Spanned → List Token
bare_tokens ts = map (λ t. t.token) ts

with_spanned_token : (o : Option Token) (span : Span) (ts : List Spanned) → bare_tokens (with_spanned o span ts) ≡ with_token o (bare_tokens ts)
with_spanned_token None span ts = refl
with_spanned_token (Some t) span ts = refl

-- a piece that is kept
kept_token : (o planned : Option Token) (span : Span) (before : List Token) (go : List Token → List Spanned) (ps : List Token)
    → o ≡ planned → bare_tokens (go (with_token planned before)) ≡ ps → bare_tokens (with_spanned o span (go (with_token o before))) ≡ with_token planned ps
kept_token o planned span before go ps is later =
    (λ i. bare_tokens (with_spanned (is i) span (go (with_token (is i) before))))
    ∙ with_spanned_token planned span (go (with_token planned before)) ∙ ap (with_token planned) later

none_is : {A : Type 0} {t : Token} → None ≡ Some t → A
none_is wrong = cc

-- the tokens of a cut and of those behind it
token_first : (total : ℕ) (before : List Token) (c : Cut) (cs : List Cut) (planned : Option Token) (ps : List Token)
    → token_of before c.piece (kept (placed total cs)) ≡ planned
    → bare_tokens (tokens_from (with_token planned before) (kept (placed total cs))) ≡ ps
    → bare_tokens (tokens_from before (kept (placed total (c ∷ cs)))) ≡ with_token planned ps
token_first total before c cs planned ps is behind = by c.piece planned is behind
  where
    by : (piece : Piece) (o : Option Token) → token_of before piece (kept (placed total cs)) ≡ o
        → bare_tokens (tokens_from (with_token o before) (kept (placed total cs))) ≡ ps
        → bare_tokens (tokens_from before (kept (placed total (record { piece = piece; spelling = c.spelling } ∷ cs)))) ≡ with_token o ps
    by Blank None same later = later
    by Blank (Some t) same later = none_is same
    by Comment None same later = later
    by Comment (Some t) same later = none_is same
    by Newline o same later = kept_token (token_of before Newline (kept (placed total cs))) o (span_between total (c.spelling ++ joined cs) (joined cs)) before (λ ts. tokens_from ts (kept (placed total cs))) ps same later
    by Brace o same later = kept_token (token_of before Brace (kept (placed total cs))) o (span_between total (c.spelling ++ joined cs) (joined cs)) before (λ ts. tokens_from ts (kept (placed total cs))) ps same later
    by Bar o same later = kept_token (token_of before Bar (kept (placed total cs))) o (span_between total (c.spelling ++ joined cs) (joined cs)) before (λ ts. tokens_from ts (kept (placed total cs))) ps same later
    by (Word t) o same later = kept_token (Some t) o (span_between total (c.spelling ++ joined cs) (joined cs)) before (λ ts. tokens_from ts (kept (placed total cs))) ps same later

pub planned_tokens : (total : ℕ) (before : List Token) (ps : List Plan) → ArePlanned total before ps
    → bare_tokens (tokens_from before (kept (placed total (cuts_of ps)))) ≡ plan_tokens ps
planned_tokens total before [] planned = refl
planned_tokens total before (p ∷ ps) (is, later) =
    token_first total before p.cut (cuts_of ps) p.token (plan_tokens ps) is (planned_tokens total (with_token p.token before) ps later)

-- ---- separators

indent_tokens : (blocks : ℕ) (later : List Plan) → plan_tokens (indent_plans blocks later) ≡ plan_tokens later
indent_tokens zero later = refl
indent_tokens (suc blocks) later = refl

-- the newlines of a gap count as one separator, or as none
gap_apart : (braces : List Bool) (e : Bool) (g : Gap) (blocks : ℕ) (q : Bool) (after : List Token) (later : List Plan)
    → apart_from braces e (seen after) (plan_tokens (gap_plans g blocks q later)) ≡ apart_from braces e (seen (gap_tokens g q after)) (plan_tokens later)
gap_apart braces e nothing blocks q after later = refl
gap_apart braces e space blocks q after later = refl
gap_apart braces e (break false) blocks true after later = ap (apart_from braces e true) (indent_tokens blocks later)
gap_apart braces e (break false) blocks false after later = ap (apart_from braces e (seen after)) (indent_tokens blocks later)
gap_apart braces e (break true) blocks true after later = ap (apart_from braces e true) (indent_tokens blocks later)
gap_apart braces e (break true) blocks false after later = ap (apart_from braces e (seen after)) (indent_tokens blocks later)

lead_apart : (braces : List Bool) (e : Bool) (last : Option Sort) (between : List Between) (s : Sort) (blocks : ℕ) (q : Bool) (after : List Token) (later : List Plan)
    → apart_from braces e (seen after) (plan_tokens (lead_plans last between s blocks q later))
    ≡ apart_from braces e (seen (lead_tokens last between s q after)) (plan_tokens later)
lead_apart braces e None between s blocks q after later = refl
lead_apart braces e (Some a) between s blocks q after later = gap_apart braces e (gap a between s) (blocks_at s blocks) q after later

same_flag : (a b edge ends : Bool) → (edge ≡ false → ends ≡ false → a ≡ b) → (a && (not edge && not ends)) ≡ (b && (not edge && not ends))
same_flag a b true ends same = nothing_there a ∙ sym (nothing_there b)
  where
    nothing_there : (x : Bool) → (x && false) ≡ false
    nothing_there true = refl
    nothing_there false = refl
same_flag a b false true same = nothing_there a ∙ sym (nothing_there b)
  where
    nothing_there : (x : Bool) → (x && false) ≡ false
    nothing_there true = refl
    nothing_there false = refl
same_flag a b false false same = ap (λ x. x && true) (same refl refl)

word_apart : (braces : List Bool) (before now : List Token) (t : Token) (ts us : List Token)
    → (is_edge (last_other before) ≡ false → ends_block braces t ≡ false → seen before ≡ seen now)
    → apart_from (braces_behind t braces) (is_edge (last_other (t ∷ before))) (seen (t ∷ before)) ts
    ≡ apart_from (braces_behind t braces) (is_edge (last_other (t ∷ before))) (seen (t ∷ now)) us
    → apart_from braces (is_edge (last_other before)) (seen before) (t ∷ ts) ≡ apart_from braces (is_edge (last_other before)) (seen now) (t ∷ us)
word_apart braces before now token.Separator ts us same later = later
word_apart braces before now t ts us same later =
    λ i. record { apart = same_flag (seen before) (seen now) (is_edge (last_other before)) (ends_block braces t) same i; token = t } ∷ later i

end_of_block : (braces : List Bool) (t : Token) → is_end (sort_of braces t) ≡ ends_block braces t
end_of_block [] token.CloseBrace = refl
end_of_block (true ∷ braces) token.CloseBrace = refl
end_of_block (false ∷ braces) token.CloseBrace = refl
end_of_block braces t = refl

end_apart : (braces : List Bool) (e sn : Bool) (last : Option Sort) (before : List Token) → apart_from braces e sn (plan_tokens (end_plans last before)) ≡ []
end_apart braces e sn None before = refl
end_apart braces e sn (Some a) before = by (parts_here before [])
  where
    by : (q : Bool) → apart_from braces e sn (plan_tokens (line_plan q ∷ [])) ≡ []
    by true = refl
    by false = refl

pub same_apart : (last : Option Sort) (blocks : ℕ) (between : List Between) (braces : List Bool) (bare : Bool)
    (before after : List Token) (es : List Element) → AreTold braces bare before es → Alike last between before after es
    → apart_from braces (is_edge (last_other before)) (seen before) (element_tokens es)
    ≡ apart_from braces (is_edge (last_other before)) (seen after) (plan_tokens (plans last blocks between before es))
same_apart last blocks between braces bare before after [] told a = sym (end_apart braces _ (seen after) last before)
same_apart last blocks between braces bare before after (note x ∷ es) told a =
    same_apart (Some comment) (blocks_behind comment blocks) [] braces bare before _ es told.1 (alike_note x told.0 a)
    ∙ sym (lead_apart braces (is_edge (last_other before)) last between comment blocks (parts_here before es) after (note_plan (trimmed x) ∷ plans (Some comment) (blocks_behind comment blocks) [] before es))
same_apart last blocks between braces bare before after (line true ∷ es) told a =
    same_apart last blocks (between ++ newline true ∷ []) braces bare (token.Separator ∷ before) after es told.1 (alike_line true told.0 a)
same_apart last blocks between braces bare before after (line false ∷ es) told a =
    same_apart last blocks (between ++ newline false ∷ []) braces bare before after es told.1 (alike_line false told.0 a)
same_apart last blocks between braces bare before after (stop ∷ es) told a =
    same_apart last blocks (between ++ semicolon ∷ []) braces bare (token.Separator ∷ before) after es told.1 (alike_stop told.0 a)
same_apart last blocks between braces bare before after (word p t s x ∷ es) told a =
    let now = led last between before after p t s x es in
    word_apart braces before now t (element_tokens es) (plan_tokens (plans (Some s) (blocks_behind s blocks) [] (t ∷ before) es))
    (λ inner ends. led_alike last between before after (word p t s x ∷ es) s a (λ none. elim none [ ]) inner (ap is_end told.1 ∙ end_of_block braces t ∙ ends))
    (same_apart (Some s) (blocks_behind s blocks) [] (braces_behind t braces) (opens_bare_word t es) (t ∷ before) (t ∷ now) es told.3
    (alike_word braces bare p t s x told.0 told.1 a))
    ∙ sym (lead_apart braces (is_edge (last_other before)) last between s blocks (parts_here before (word p t s x ∷ es)) after (word_plan p t x ∷ plans (Some s) (blocks_behind s blocks) [] (t ∷ before) es))

pub same_at_start : (es : List Element) → AreTold [] false [] es → Alike None [] [] [] es → apart (plan_tokens (plans None 0 [] [] es)) ≡ apart (element_tokens es)
same_at_start es told a = sym (same_apart None 0 [] [] false [] [] es told a)
