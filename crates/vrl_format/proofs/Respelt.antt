-- What a layout writes for the elements of a text is spelled so.
use Rattle.std.proofs.Common.{◌≡◌, refl, sym, ap, ◌∙◌, subst, ℕ, Bool, true, false, ◌&&◌, ◌||◌, not, if◌then◌else◌, List, [], ◌∷◌, ◌++◌, Option, Some, None, arith}
use Rattle.std.specs.List.{list_any}
use Rattle.vrl_token.specs.declared.piece.Piece.{Piece}
use Rattle.vrl_token.specs.declared.piece.Piece.TheVariants.{Comment, Newline, Word}
use Rattle.vrl_token.specs.declared.token.Token.{Token}
use Rattle.vrl_token.specs.declared.token.Token.TheVariants as token
use Rattle.vrl_token.specs.Context.{closes_before, closes_operand, ends_operand, operand_before, regexes_before}
use Rattle.vrl_token.specs.Lexical.{BeginsInside, BeginsOutside, IsBlank}
use Rattle.vrl_token.specs.Respelling.{EndsLine, KeepsContext, RespellingLaws, StartsPiece}
use Rattle.vrl_format.proofs.Joining.{is_behind, may_follow, none_fails}
use Rattle.vrl_format.specs.Layout.{nothing, space, break, blocks_at, blocks_behind, has_break, is_at_edge, is_closer, is_comment, is_end, is_opener, is_start, parts}
use Rattle.vrl_format.specs.Pieces.{Between, newline, semicolon, Sort, comment, opener, closer, plain, braces_behind, sort_of, trimmed}
use Rattle.vrl_format.proofs.Cuts.{AreSpelled, joined}
use Rattle.vrl_format.proofs.Elements.{AreClear, AreTold, Element, note, line, stop, word, IsClear, IsTold, Plan, cuts_of, gap_plans, is_suffix, lead_plans, note_plan, opens_bare_word, parts_here, plans, touches, with_parting, with_regex, word_plan}
use Rattle.vrl_format.proofs.Continuing.{goes_on_so, no_parts, none_of_both}
use Rattle.vrl_format.proofs.FirstBytes.{no_blank_from, no_blank_in_remark}
use Rattle.vrl_format.proofs.GapsSpelled.{gap_behind, indent_closes, indent_operand, lead_behind, lead_regexes, lead_spelled}
use Rattle.vrl_format.proofs.Tellings.{by_told, fits_here, no_false, no_true, token_counts}
use Rattle.vrl_format.proofs.Trimming.{is_trimmed}

-- ---- what stands before a gap

-- From the sort of the last piece, if there is one, and what stands behind it; from the tokens and the
-- pieces before the place, and from whether a suffix may stand directly behind.
abbrev pub Stands : Option Sort → List Between → List Token → List Piece → Bool → Type 0
Stands None between before after touch = (after ≡ []) × (touch ≡ false)
Stands (Some a) between before after touch =
    (operand_before after ≡ true → list_any parts between ≡ false → is_comment a ≡ false
    → is_behind ends_operand before ≡ true)
    × (closes_before after ≡ true → is_opener a ≡ false)
    × (touch ≡ true → (closes_before after ≡ true) × (between ≡ []) × (a ≡ closer))

line_stands : (last : Option Sort) (between : List Between) (before : List Token) (after : List Piece) (touch q : Bool)
    → Stands last between before after touch
    → Stands last (between ++ newline q ∷ []) (with_parting q before) after false
line_stands None between before after touch q stands = (stands.0, refl)
line_stands (Some a) between before after touch true stands = (
  λ operand none other. no_true (none_of_both parts between (newline true) none).1,
  stands.1,
  λ wrong. no_false wrong,
)
line_stands (Some a) between before after touch false stands = (
  λ operand none other. stands.0 operand (none_of_both parts between (newline false) none).0 other,
  stands.1,
  λ wrong. no_false wrong,
)

stop_stands : (last : Option Sort) (between : List Between) (before : List Token) (after : List Piece) (touch : Bool)
    → Stands last between before after touch
    → Stands last (between ++ semicolon ∷ []) (token.Separator ∷ before) after false
stop_stands None between before after touch stands = (stands.0, refl)
stop_stands (Some a) between before after touch stands =
    (λ operand none other. no_true (none_of_both parts between semicolon none).1, stands.1, λ wrong. no_false wrong)

note_stands : (before : List Token) (after : List Piece) → Stands (Some comment) [] before (Comment ∷ after) false
note_stands before after = (λ operand none other. no_true other, λ closes. no_false closes, λ wrong. no_false wrong)

closes_no_opener : (braces : List Bool) (u : Token) → closes_operand u ≡ true → is_opener (sort_of braces u) ≡ false
closes_no_opener braces token.CloseParenthesis closes = refl
closes_no_opener braces token.CloseBracket closes = refl
closes_no_opener braces u closes = no_false closes

closes_closer : (braces : List Bool) (u : Token) → closes_operand u ≡ true → sort_of braces u ≡ closer
closes_closer braces token.CloseParenthesis closes = refl
closes_closer braces token.CloseBracket closes = refl
closes_closer braces u closes = no_false closes

word_stands : (braces : List Bool) (bare : Bool) (before : List Token) (after : List Piece) (p : Piece) (t : Token)
    (es : List Element) → IsTold bare before p t es
    → Stands (Some (sort_of braces t)) [] (t ∷ before) (p ∷ after) (touches p)
word_stands braces bare before after p t es told =
    by_told (λ p t. Stands (Some (sort_of braces t)) [] (t ∷ before) (p ∷ after) (touches p)) (record {
      object = (λ operand none other. no_false operand, λ closes. no_false closes, λ wrong. no_false wrong);
      block = (λ operand none other. no_false operand, λ closes. no_false closes, λ wrong. no_false wrong);
      opening = (λ operand none other. no_false operand, λ closes. no_false closes, λ wrong. no_false wrong);
      closing = (λ operand none other. no_false operand, λ closes. no_false closes, λ wrong. no_false wrong);
      merge = (λ operand none other. no_false operand, λ closes. no_false closes, λ wrong. no_false wrong);
      token = λ u. (
        λ operand none other. operand,
        closes_no_opener braces u,
        λ closes. (closes, refl, closes_closer braces u closes),
      );
    }) bare before p t es told

-- ---- what a piece asks of the pieces before it

is_false : (b : Bool) → (b ≡ true → ⊥) → b ≡ false
is_false true fails = absurd (fails refl)
is_false false fails = refl

no_comment : (edge behind others : Bool) → edge || (behind || others) ≡ false → behind ≡ false
no_comment true behind others none = no_true none
no_comment false true others none = no_true none
no_comment false false others none = refl

no_operand : (before : List Token) → is_behind ends_operand before ≡ true
    → none_fails (λ t. not (ends_operand t)) before ≡ true → ⊥
no_operand [] operand none = no_false operand
no_operand (t ∷ ts) operand none = no_true (sym none ∙ ap not operand)

operand_gap : (start broken before tight empty : Bool) (blocks : ℕ) (after : List Piece)
    → (broken ≡ false → operand_before after ≡ false)
    → operand_before (gap_behind (if start && false then nothing else if broken then break empty
    else if before then space else if tight then nothing else space) blocks after) ≡ false
operand_gap true true before tight true blocks after direct = indent_operand blocks (Newline ∷ after)
operand_gap true true before tight false blocks after direct = indent_operand blocks after
operand_gap false true before tight true blocks after direct = indent_operand blocks (Newline ∷ after)
operand_gap false true before tight false blocks after direct = indent_operand blocks after
operand_gap true false true tight empty blocks after direct = direct refl
operand_gap true false false true empty blocks after direct = direct refl
operand_gap true false false false empty blocks after direct = direct refl
operand_gap false false true tight empty blocks after direct = direct refl
operand_gap false false false true empty blocks after direct = direct refl
operand_gap false false false false empty blocks after direct = direct refl

no_operand_here : (last : Option Sort) (between : List Between) (before : List Token) (after : List Piece)
    (touch : Bool) (blocks : ℕ) → Stands last between before after touch
    → none_fails (λ t. not (ends_operand t)) before ≡ true
    → operand_before (lead_behind last between plain blocks after) ≡ false
no_operand_here None between before after touch blocks stands none = ap operand_before stands.0
no_operand_here (Some a) between before after touch blocks stands none =
    operand_gap (is_start a) (has_break a between plain) false (is_opener a || false) _ blocks after
    (λ whole. is_false (operand_before after) (λ operand.
    let none_parts = no_parts (is_at_edge a plain) (is_comment a) (list_any parts between) _ whole in
    let no_note = no_comment (is_at_edge a plain) (is_comment a) _ whole in
    no_operand before (stands.0 operand none_parts no_note) none))

closes_gap : (start broken before tight empty : Bool) (blocks : ℕ) (after : List Piece)
    → (tight ≡ true → closes_before after ≡ false)
    → closes_before (gap_behind (if start && false then nothing else if broken then break empty
    else if before then space else if tight || false then nothing else space) blocks after) ≡ false
closes_gap true true before tight true blocks after direct = indent_closes blocks (Newline ∷ after)
closes_gap true true before tight false blocks after direct = indent_closes blocks after
closes_gap false true before tight true blocks after direct = indent_closes blocks (Newline ∷ after)
closes_gap false true before tight false blocks after direct = indent_closes blocks after
closes_gap true false true tight empty blocks after direct = refl
closes_gap true false false true empty blocks after direct = direct refl
closes_gap true false false false empty blocks after direct = refl
closes_gap false false true tight empty blocks after direct = refl
closes_gap false false false true empty blocks after direct = direct refl
closes_gap false false false false empty blocks after direct = refl

closes_behind_opener : (a : Sort) (after : List Piece) → (closes_before after ≡ true → is_opener a ≡ false)
    → is_opener a ≡ true → closes_before after ≡ false
closes_behind_opener a after other opens = is_false (closes_before after) (λ closes. no_true (sym opens ∙ other closes))

-- before a path of the event, and before `[`
no_closing_plain : (last : Option Sort) (between : List Between) (before : List Token) (after : List Piece)
    (touch : Bool) (blocks : ℕ) → Stands last between before after touch
    → closes_before (lead_behind last between plain blocks after) ≡ false
no_closing_plain None between before after touch blocks stands = ap closes_before stands.0
no_closing_plain (Some a) between before after touch blocks stands =
    closes_gap (is_start a) (has_break a between plain) false (is_opener a) _ blocks after
    (closes_behind_opener a after stands.1)

no_closing_opener : (last : Option Sort) (between : List Between) (before : List Token) (after : List Piece)
    (touch : Bool) (blocks : ℕ) → Stands last between before after touch
    → closes_before (lead_behind last between opener blocks after) ≡ false
no_closing_opener None between before after touch blocks stands = ap closes_before stands.0
no_closing_opener (Some a) between before after touch blocks stands =
    closes_gap (is_start a) (has_break a between opener) false (is_opener a) _ blocks after
    (closes_behind_opener a after stands.1)

closing_here : (last : Option Sort) (between : List Between) (before : List Token) (after : List Piece) (touch : Bool)
    (blocks : ℕ) → Stands last between before after touch
    → touch ≡ true → closes_before (lead_behind last between closer blocks after) ≡ true
closing_here None between before after touch blocks stands touching = no_true (sym touching ∙ stands.1)
closing_here (Some a) between before after touch blocks stands touching =
    let now = stands.2 touching in
    (λ i. closes_before (lead_behind (Some (now.2 i)) (now.1 i) closer blocks after)) ∙ now.0

token_keeps : (last : Option Sort) (between : List Between) (before : List Token) (after : List Piece) (touch : Bool)
    (blocks n : ℕ) (braces : List Bool) (old : List Piece)
    → Stands last between before after touch → regexes_before old ≡ n → regexes_before after ≡ n
    → (u : Token) → may_follow before u ≡ true → (is_suffix (Word u) ≡ true → touch ≡ true)
    → KeepsContext (Word u) old (lead_behind last between (sort_of braces u) blocks after)
token_keeps last between before after touch blocks n braces old stands few now (token.Number number) may suffix =
    λ none. no_operand_here last between before after touch blocks stands (fits_here before (token.Number number) may)
token_keeps last between before after touch blocks n braces old stands few now (token.Regex source) may suffix =
    let same = lead_regexes last between plain blocks after in omega (arith, same, few, now)
token_keeps last between before after touch blocks n braces old stands few now (token.EventPath path) may suffix =
    no_closing_plain last between before after touch blocks stands
token_keeps last between before after touch blocks n braces old stands few now token.OpenBracket may suffix =
    no_closing_opener last between before after touch blocks stands
token_keeps last between before after touch blocks n braces old stands few now (token.Suffix path) may suffix =
    closing_here last between before after touch blocks stands (suffix refl)
token_keeps last between before after touch blocks n braces old stands few now u may suffix = tt

word_keeps : (last : Option Sort) (between : List Between) (before : List Token) (after : List Piece) (touch : Bool)
    (blocks n : ℕ) (braces : List Bool) (old : List Piece)
    → Stands last between before after touch → regexes_before old ≡ n → regexes_before after ≡ n
    → (bare : Bool) (p : Piece) (t : Token) (es : List Element) → IsTold bare before p t es → may_follow before t ≡ true
    → (is_suffix p ≡ true → touch ≡ true)
    → KeepsContext p old (lead_behind last between (sort_of braces t) blocks after)
word_keeps last between before after touch blocks n braces old stands few now bare p t es told =
    by_told (λ p t. may_follow before t ≡ true → (is_suffix p ≡ true → touch ≡ true)
    → KeepsContext p old (lead_behind last between (sort_of braces t) blocks after)) (record {
      object = λ may suffix. tt;
      block = λ may suffix. tt;
      opening = λ may suffix. tt;
      closing = λ may suffix. tt;
      merge = λ may suffix. tt;
      token = token_keeps last between before after touch blocks n braces old stands few now;
    }) bare before p t es told

word_counts : (after : List Piece) (n : ℕ) → regexes_before after ≡ n
    → (bare : Bool) (before : List Token) (p : Piece) (t : Token) (es : List Element)
    → IsTold bare before p t es → regexes_before (p ∷ after) ≡ with_regex p n
word_counts after n is bare before p t es told = by_told (λ p t. regexes_before (p ∷ after) ≡ with_regex p n) (record {
  object = is;
  block = is;
  opening = is;
  closing = is;
  merge = is;
  token = token_counts after n is;
}) bare before p t es told

-- ---- how the spellings begin

word_apart : (x more : List ℕ) (bare : Bool) (before : List Token) (p : Piece) (t : Token) (es : List Element)
    → IsTold bare before p t es
    → BeginsInside (StartsPiece p) x → BeginsOutside IsBlank (x ++ more)
word_apart x more bare before p t es told =
    by_told (λ p t. BeginsInside (StartsPiece p) x → BeginsOutside IsBlank (x ++ more)) (record {
      object = no_blank_from x more;
      block = no_blank_from x more;
      opening = no_blank_from x more;
      closing = no_blank_from x more;
      merge = no_blank_from x more;
      token = λ u. no_blank_from x more;
    }) bare before p t es told

-- ---- behind a comment

comment_gap : (edge before tight empty : Bool) (blocks : ℕ) (q : Bool) (later : List Plan)
    → EndsLine (joined (cuts_of (gap_plans (if edge || true then break empty
    else if before then space else if tight then nothing else space) blocks q later)))
comment_gap true before tight true blocks q later = refl
comment_gap true before tight false blocks q later = refl
comment_gap false before tight true blocks q later = refl
comment_gap false before tight false blocks q later = refl

line_ends : (blocks : ℕ) (between : List Between) (before : List Token) (es : List Element)
    → EndsLine (joined (cuts_of (plans (Some comment) blocks between before es)))
line_ends blocks between before [] = refl
line_ends blocks between before (note x ∷ es) = comment_gap (is_end comment) true (is_closer comment) _ blocks _ _
line_ends blocks between before (line q ∷ es) = line_ends blocks (between ++ newline q ∷ []) (with_parting q before) es
line_ends blocks between before (stop ∷ es) = line_ends blocks (between ++ semicolon ∷ []) (token.Separator ∷ before) es
line_ends blocks between before (word p t s x ∷ es) =
    comment_gap (is_end s) (is_comment s) (is_closer s) _ (blocks_at s blocks) _ _

-- ---- elements

note_spelled : (laws : RespellingLaws) (last : Option Sort) (blocks : ℕ) (between : List Between) (before : List Token)
    (n : ℕ) (after : List Piece) (x : List ℕ) (q : Bool) (es : List Element)
    → IsClear n Comment x
    → AreSpelled (Comment ∷ lead_behind last between comment blocks after)
    (cuts_of (plans (Some comment) blocks [] before es))
    → AreSpelled after (cuts_of (lead_plans last between comment blocks q
    (note_plan (trimmed x) ∷ plans (Some comment) blocks [] before es)))
note_spelled laws last blocks between before n after x q es clear behind =
    let cut = is_trimmed x in
    let other = joined (cuts_of (plans (Some comment) blocks [] before es)) in
    let begins = laws.comments clear.before (lead_behind last between comment blocks after) x (trimmed x) cut.blanks
    clear.rest other cut.parts cut.all clear.begins (line_ends blocks [] before es) in
    lead_spelled last between comment blocks q after _ (no_blank_in_remark (trimmed x ++ other) other begins)
    (begins, behind)

word_spelled : (laws : RespellingLaws) (last : Option Sort) (blocks : ℕ) (braces : List Bool) (bare : Bool)
    (between : List Between) (before : List Token) (touch : Bool) (n : ℕ)
    (after : List Piece) (p : Piece) (t : Token) (s : Sort) (x : List ℕ) (q : Bool) (es : List Element)
    → AreTold braces bare before (word p t s x ∷ es) → AreClear touch n (word p t s x ∷ es)
    → Stands last between before after touch → regexes_before after ≡ n
    → AreSpelled (p ∷ lead_behind last between (sort_of braces t) blocks after)
    (cuts_of (plans (Some (sort_of braces t)) (blocks_behind (sort_of braces t) blocks) [] (t ∷ before) es))
    → AreSpelled after (cuts_of (lead_plans last between (sort_of braces t) blocks q
    (word_plan p t x
    ∷ plans (Some (sort_of braces t)) (blocks_behind (sort_of braces t) blocks) [] (t ∷ before) es)))
word_spelled laws last blocks braces bare between before touch n after p t s x q es told clear stands few behind =
    let is = clear.0 in
    let within = blocks_behind (sort_of braces t) blocks in
    let other = joined (cuts_of (plans (Some (sort_of braces t)) within [] (t ∷ before) es)) in
    let keeps = word_keeps last between before after touch blocks n braces is.before stands is.regexes_are few
    bare p t es told.0 told.2 clear.1 in
    let may = goes_on_so laws n x braces bare before within (braces_behind t braces) (opens_bare_word t es)
    (touches p) (with_regex p n) p t es told.0 is told.3 clear.3 clear.2 in
    let begins = laws.pieces p is.before (lead_behind last between (sort_of braces t) blocks after) x is.rest other
    is.begins keeps may in
    lead_spelled last between (sort_of braces t) blocks q after _
    (word_apart x other bare before p t es told.0 (laws.spellings p is.before x is.rest is.begins)) (begins, behind)

pub plans_spelled : (laws : RespellingLaws) (last : Option Sort) (blocks : ℕ) (braces : List Bool) (bare : Bool)
    (between : List Between) (before : List Token) (touch : Bool) (n : ℕ)
    (after : List Piece) (es : List Element)
    → AreTold braces bare before es → AreClear touch n es → Stands last between before after touch
    → regexes_before after ≡ n → AreSpelled after (cuts_of (plans last blocks between before es))
plans_spelled laws None blocks braces bare between before touch n after [] told clear stands few = tt
plans_spelled laws (Some a) blocks braces bare between before touch n after [] told clear stands few = (refl, tt)
plans_spelled laws last blocks braces bare between before touch n after (note x ∷ es) told clear stands few =
    note_spelled laws last blocks between before n after x (parts_here before es) es clear.0
    (plans_spelled laws (Some comment) blocks braces bare [] before false n
    (Comment ∷ lead_behind last between comment blocks after) es told.1 clear.1
    (note_stands before (lead_behind last between comment blocks after))
    (lead_regexes last between comment blocks after ∙ few))
plans_spelled laws last blocks braces bare between before touch n after (line q ∷ es) told clear stands few =
    plans_spelled laws last blocks braces bare (between ++ newline q ∷ []) (with_parting q before) false n after es
    told.1 clear (line_stands last between before after touch q stands) few
plans_spelled laws last blocks braces bare between before touch n after (stop ∷ es) told clear stands few =
    plans_spelled laws last blocks braces bare (between ++ semicolon ∷ []) (token.Separator ∷ before) false n after es
    told.1 clear (stop_stands last between before after touch stands) few
plans_spelled laws last blocks braces bare between before touch n after (word p t s x ∷ es) told clear stands few =
    subst (λ c. AreSpelled after (cuts_of (lead_plans last between c blocks (parts_here before (word p t s x ∷ es))
    (word_plan p t x ∷ plans (Some c) (blocks_behind c blocks) [] (t ∷ before) es)))) (sym told.1)
    (word_spelled laws last blocks braces bare between before touch n after p t s x
    (parts_here before (word p t s x ∷ es)) es told clear stands few
    (plans_spelled laws (Some (sort_of braces t)) (blocks_behind (sort_of braces t) blocks)
    (braces_behind t braces) (opens_bare_word t es) [] (t ∷ before) (touches p) (with_regex p n)
    (p ∷ lead_behind last between (sort_of braces t) blocks after) es told.3 clear.3
    (word_stands braces bare before (lead_behind last between (sort_of braces t) blocks after) p t es
    told.0)
    (word_counts (lead_behind last between (sort_of braces t) blocks after) n
    (lead_regexes last between (sort_of braces t) blocks after ∙ few) bare before p t es told.0)))

-- the cuts of a layout are spelled so
pub layout_is_spelled : (laws : RespellingLaws) (es : List Element) → AreTold [] false [] es → AreClear false 0 es
    → AreSpelled [] (cuts_of (plans None 0 [] [] es))
layout_is_spelled laws es told clear =
    plans_spelled laws None 0 [] false [] [] false 0 [] es told clear (refl, refl) refl
