-- How a layout goes on behind a word: the word ends there where its spelling ends.
use Rattle.std.proofs.Common.{◌≡◌, ◌≢◌, refl, sym, ◌∙◌, subst, ℕ, Bool, true, false, ◌&&◌, ◌||◌, if◌then◌else◌, List, [], ◌∷◌, ◌++◌, Some, inl, inr, arith}
use Rattle.std.specs.Prelude.{◌⊎◌}
use Rattle.std.specs.List.{list_any}
use Rattle.vrl_token.specs.declared.piece.Piece.{Piece}
use Rattle.vrl_token.specs.declared.piece.Piece.TheVariants.{Brace, Bar, Word}
use Rattle.vrl_token.specs.declared.token.Token.{Token}
use Rattle.vrl_token.specs.declared.token.Token.TheVariants as token
use Rattle.vrl_token.specs.Context.{closes_operand}
use Rattle.vrl_token.specs.Lexical.{BeginsInside}
use Rattle.vrl_token.specs.Words.{BeginsWith, BeginsWithout}
use Rattle.vrl_token.specs.Respelling.{IsStop, MayStandBefore, RespellingLaws, StartsPiece, Stops, lengthens}
use Rattle.vrl_format.proofs.Joining.{is_behind, is_name, is_open_parenthesis, may_follow}
use Rattle.vrl_format.specs.Layout.{nothing, space, break, blocks_at, blocks_behind, has_break, is_at_edge, is_closer, is_comment, is_end, is_opener, is_start, parts}
use Rattle.vrl_format.specs.Pieces.{Between, newline, semicolon, Sort, comment, opener, closer, plain, brace_sort, sort_of}
use Rattle.vrl_format.proofs.Cuts.{joined}
use Rattle.vrl_format.proofs.Elements.{AreClear, AreTold, Element, note, line, stop, word, IsClear, IsTold, Plan, begins_with_word, calls, cuts_of, gap_plans, lead_plans, parts_here, plans, with_parting, word_plan}
use Rattle.vrl_format.proofs.FirstBytes.{first_byte, no_sign_from, stops, without}
use Rattle.vrl_format.proofs.Tellings.{by_told, fits_here, no_false, no_true, wanted_here}

-- a newline, or a space
abbrev IsSpace : ℕ → Type 0
IsSpace b = (b ≡ 10) ⊎ (b ≡ 32)

space_stops : (b : ℕ) → IsSpace b → IsStop b
space_stops b (inl is) = inr (inl is)
space_stops b (inr is) = inl (inl is)

space_apart : (b : ℕ) → IsSpace b → (b ≢ 61) × (b ≢ 124)
space_apart b (inl is) = (λ other. omega (arith, is, other), λ other. omega (arith, is, other))
space_apart b (inr is) = (λ other. omega (arith, is, other), λ other. omega (arith, is, other))

-- ---- the spelling of a word

begins_at : (laws : RespellingLaws) (P : ℕ → Type 0) {n : ℕ} (p : Piece) (x behind more : List ℕ) (b : ℕ)
    → (is : IsClear n p x) → x ++ is.rest ≡ b ∷ behind → P b → BeginsInside P (x ++ more)
begins_at laws P p x behind more b is at holds =
    first_byte P (StartsPiece p) x is.rest behind more b (laws.spellings p is.before x is.rest is.begins) at holds

stop_at : (laws : RespellingLaws) {n : ℕ} (p : Piece) (x behind more : List ℕ) (b : ℕ) → (is : IsClear n p x)
    → x ++ is.rest ≡ b ∷ behind → IsStop b → Stops (x ++ more)
stop_at laws p x behind more b is at holds = stops (x ++ more) (begins_at laws IsStop p x behind more b is at holds)

no_sign : (laws : RespellingLaws) {n : ℕ} (p : Piece) (x more : List ℕ) → (is : IsClear n p x) → lengthens p ≡ false
    → BeginsWithout 61 (x ++ more) × BeginsWithout 124 (x ++ more)
no_sign laws p x more is other = no_sign_from x more (laws.signs p is.before x is.rest is.begins other)

-- ---- a closer stops

stop_here : (laws : RespellingLaws) {n : ℕ} (ts : List Token) (x more : List ℕ) (braces : List Bool) (u : Token)
    → is_closer (sort_of braces u) ≡ true → may_follow ts u ≡ true → is_behind closes_operand ts ≡ false
    → IsClear n (Word u) x
    → Stops (x ++ more)
stop_here laws ts x more braces token.CloseParenthesis closes may other is =
    stop_at laws (Word token.CloseParenthesis) x is.rest more 41 is is.begins (inr (inr (inl refl)))
stop_here laws ts x more braces token.CloseBracket closes may other is =
    stop_at laws (Word token.CloseBracket) x is.rest more 93 is is.begins (inr (inr (inr (inl refl))))
stop_here laws ts x more braces token.Comma closes may other is =
    stop_at laws (Word token.Comma) x is.rest more 44 is is.begins (inr (inr (inr (inr (inl refl)))))
stop_here laws ts x more braces token.Colon closes may other is =
    stop_at laws (Word token.Colon) x is.rest more 58 is is.begins (inr (inr (inr (inr (inr (inl refl))))))
stop_here laws ts x more braces token.CloseBrace closes may other is =
    stop_at laws (Word token.CloseBrace) x is.rest more 125 is is.begins (inr (inr (inr (inr (inr (inr (inl refl)))))))
stop_here laws ts x more braces token.CloseBars closes may other is = elim is.begins [ ]
stop_here laws ts x more braces (token.Suffix path) closes may other is =
    no_true (sym (fits_here ts (token.Suffix path) may) ∙ other)
stop_here laws ts x more braces u closes may other is = no_false closes

closer_stops : (laws : RespellingLaws) {n : ℕ} (ts : List Token) (x more : List ℕ) (braces : List Bool) (bare : Bool)
    (p : Piece) (t : Token) (es : List Element)
    → IsTold bare ts p t es → is_closer (sort_of braces t) ≡ true → may_follow ts t ≡ true
    → is_behind closes_operand ts ≡ false → IsClear n p x
    → Stops (x ++ more)
closer_stops laws {n} ts x more braces bare p t es told =
    by_told (λ p t. is_closer (sort_of braces t) ≡ true → may_follow ts t ≡ true → is_behind closes_operand ts ≡ false
    → IsClear n p x → Stops (x ++ more)) (record {
      object = λ closes may other is. no_false closes;
      block = λ closes may other is. no_false closes;
      opening = λ closes may other is. no_false closes;
      closing = λ closes may other is. stop_at laws Bar x is.rest more 124 is is.begins.0
          (inr (inr (inr (inr (inr (inr (inr refl)))))));
      merge = λ closes may other is. no_false closes;
      token = stop_here laws ts x more braces;
    }) bare ts p t es told

-- ---- behind a bar

name_apart : (u : Token) → is_name u ≡ true → lengthens (Word u) ≡ false
name_apart token.Assign is = no_false is
name_apart token.MergeAssign is = no_false is
name_apart token.Or is = no_false is
name_apart token.Equal is = no_false is
name_apart u is = refl

name_told : (bare : Bool) (ts : List Token) (p : Piece) (t : Token) (es : List Element) → IsTold bare ts p t es
    → is_name t ≡ true → lengthens p ≡ false
name_told bare ts p t es told = by_told (λ p t. is_name t ≡ true → lengthens p ≡ false) (record {
  object = λ is. no_false is;
  block = λ is. no_false is;
  opening = λ is. no_false is;
  closing = λ is. no_false is;
  merge = λ is. no_false is;
  token = name_apart;
}) bare ts p t es told

closer_apart : (braces : List Bool) (u : Token) → is_closer (sort_of braces u) ≡ true → lengthens (Word u) ≡ false
closer_apart braces token.Assign is = no_false is
closer_apart braces token.MergeAssign is = no_false is
closer_apart braces token.Or is = no_false is
closer_apart braces token.Equal is = no_false is
closer_apart braces u is = refl

closer_told : (braces : List Bool) (bare : Bool) (ts : List Token) (p : Piece) (t : Token) (es : List Element)
    → IsTold bare ts p t es
    → is_closer (sort_of braces t) ≡ true → may_follow ts t ≡ true → is_behind is_name ts ≡ false → lengthens p ≡ false
closer_told braces bare ts p t es told =
    by_told (λ p t. is_closer (sort_of braces t) ≡ true → may_follow ts t ≡ true → is_behind is_name ts ≡ false
    → lengthens p ≡ false) (record {
      object = λ is may other. no_false is;
      block = λ is may other. no_false is;
      opening = λ is may other. no_false is;
      closing = λ is may other. no_true (sym (fits_here ts token.CloseBars may) ∙ other);
      merge = λ is may other. no_false is;
      token = λ u is may other. closer_apart braces u is;
    }) bare ts p t es told

-- ---- behind `!`

not_assigned : (laws : RespellingLaws) {n : ℕ} (ts : List Token) (x more : List ℕ) (u : Token)
    → may_follow (token.Not ∷ ts) u ≡ true
    → IsClear n (Word u) x → BeginsWithout 61 (x ++ more)
not_assigned laws ts x more token.Assign may is = no_false may
not_assigned laws ts x more token.Equal may is = no_false may
not_assigned laws ts x more token.MergeAssign may is =
    without 61 (x ++ more) (begins_at laws (λ b. b ≢ 61) (Word token.MergeAssign) x (61 ∷ is.rest) more 124 is is.begins
    (λ other. omega (arith, other)))
not_assigned laws ts x more token.Or may is =
    without 61 (x ++ more) (begins_at laws (λ b. b ≢ 61) (Word token.Or) x (124 ∷ is.rest) more 124 is is.begins
    (λ other. omega (arith, other)))
not_assigned laws ts x more u may is = (no_sign laws (Word u) x more is refl).0

bar_apart : (laws : RespellingLaws) {n : ℕ} (x more : List ℕ) → IsClear n Bar x → BeginsWithout 61 (x ++ more)
bar_apart laws x more is =
    without 61 (x ++ more) (begins_at laws (λ b. b ≢ 61) Bar x is.rest more 124 is is.begins.0
    (λ other. omega (arith, other)))

not_told : (laws : RespellingLaws) {n : ℕ} (ts : List Token) (x more : List ℕ) (bare : Bool) (p : Piece) (t : Token)
    (es : List Element)
    → IsTold bare (token.Not ∷ ts) p t es → may_follow (token.Not ∷ ts) t ≡ true → IsClear n p x
    → BeginsWithout 61 (x ++ more)
not_told laws {n} ts x more bare p t es told =
    by_told (λ p t. may_follow (token.Not ∷ ts) t ≡ true → IsClear n p x → BeginsWithout 61 (x ++ more)) (record {
      object = λ may is. (no_sign laws Brace x more is refl).0;
      block = λ may is. (no_sign laws Brace x more is refl).0;
      opening = λ may is. bar_apart laws x more is;
      closing = λ may is. bar_apart laws x more is;
      merge = λ may is. bar_apart laws x more is;
      token = not_assigned laws ts x more;
    }) bare (token.Not ∷ ts) p t es told

-- ---- what a layout writes behind a piece

-- A text begins with a newline or a space, or with a word directly behind the last one.
record Ways (P : List ℕ → Type 0) (a : Sort) (ts : List Token) : Type 0 where
  pub space : (b : ℕ) (text : List ℕ) → IsSpace b → P (b ∷ text)
  pub word : (braces : List Bool) (bare : Bool) (n : ℕ) (p : Piece) (t : Token) (x more : List ℕ) (es : List Element)
      → IsTold bare ts p t es → may_follow ts t ≡ true → IsClear n p x
      → is_opener a || is_closer (sort_of braces t) ≡ true → P (x ++ more)

gap_begins : (P : List ℕ → Type 0) → ((b : ℕ) (text : List ℕ) → IsSpace b → P (b ∷ text))
    → (start edge broken before tight empty : Bool) (blocks : ℕ) (q : Bool) (later : List Plan) → start ≡ false
    → (broken ≡ false → before ≡ false → tight ≡ true → P (joined (cuts_of later)))
    → P (joined (cuts_of (gap_plans (if start && edge then nothing else if broken then break empty
    else if before then space else if tight then nothing else space) blocks q later)))
gap_begins P apart true edge broken before tight empty blocks q later no_start direct = no_true no_start
gap_begins P apart false edge true before tight true blocks q later no_start direct = apart 10 _ (inl refl)
gap_begins P apart false edge true before tight false blocks q later no_start direct = apart 10 _ (inl refl)
gap_begins P apart false edge false true tight empty blocks q later no_start direct = apart 32 _ (inr refl)
gap_begins P apart false edge false false true empty blocks q later no_start direct = direct refl refl refl
gap_begins P apart false edge false false false empty blocks q later no_start direct = apart 32 _ (inr refl)

pub no_parts : (edge behind parted others : Bool) → edge || (behind || (parted || others)) ≡ false → parted ≡ false
no_parts true behind parted others no_break = no_true no_break
no_parts false true parted others no_break = no_true no_break
no_parts false false true others no_break = no_true no_break
no_parts false false false others no_break = refl

-- of what stands between, and one more
pub none_of_both : (f : Between → Bool) (bs : List Between) (b : Between) → list_any f (bs ++ b ∷ []) ≡ false
    → (list_any f bs ≡ false) × (f b ≡ false)
none_of_both f [] b none = (refl, first (f b) none)
  where
    first : (q : Bool) → q || false ≡ false → q ≡ false
    first true none = none
    first false none = none
none_of_both f (c ∷ cs) b none = more (f c) none (none_of_both f cs b)
  where
    more : (q : Bool) → q || list_any f (cs ++ b ∷ []) ≡ false
        → (list_any f (cs ++ b ∷ []) ≡ false → (list_any f cs ≡ false) × (f b ≡ false))
        → (q || list_any f cs ≡ false) × (f b ≡ false)
    more true none behind = no_true none
    more false none behind = behind none

still_before : (ts before : List Token) (between : List Between) (q : Bool)
    → (list_any parts between ≡ false → before ≡ ts)
    → list_any parts (between ++ newline q ∷ []) ≡ false → with_parting q before ≡ ts
still_before ts before between true still none = no_true (none_of_both parts between (newline true) none).1
still_before ts before between false still none = still (none_of_both parts between (newline false) none).0

begins : (P : List ℕ → Type 0) (a : Sort) (ts : List Token) → Ways P a ts → is_start a ≡ false
    → (blocks : ℕ) (braces : List Bool) (bare : Bool) (between : List Between) (before : List Token) (touch : Bool)
    (n : ℕ) (es : List Element)
    → AreTold braces bare before es → AreClear touch n es → (list_any parts between ≡ false → before ≡ ts)
    → P (joined (cuts_of (plans (Some a) blocks between before es)))
begins P a ts ways no_start blocks braces bare between before touch n [] told clear still = ways.space 10 [] (inl refl)
begins P a ts ways no_start blocks braces bare between before touch n (note x ∷ es) told clear still =
    gap_begins P ways.space (is_start a) (is_end comment) (has_break a between comment) true
    (is_opener a || is_closer comment) _ blocks _ _ no_start (λ whole spaced tight. no_true spaced)
begins P a ts ways no_start blocks braces bare between before touch n (line q ∷ es) told clear still =
    begins P a ts ways no_start blocks braces bare (between ++ newline q ∷ []) (with_parting q before) false n es told.1
    clear (still_before ts before between q still)
begins P a ts ways no_start blocks braces bare between before touch n (stop ∷ es) told clear still =
    begins P a ts ways no_start blocks braces bare (between ++ semicolon ∷ []) (token.Separator ∷ before) false n es
    told.1 clear (λ none. no_true (none_of_both parts between semicolon none).1)
begins P a ts ways no_start blocks braces bare between before touch n (word p t s x ∷ es) told clear still =
    gap_begins P ways.space (is_start a) (is_end s) (has_break a between s) (is_comment s) (is_opener a || is_closer s)
    _ (blocks_at s blocks) _ _ no_start
    (λ whole spaced tight.
    let same = still (no_parts (is_at_edge a s) (is_comment a) (list_any parts between) _ whole) in
    ways.word braces bare n p t x _ es
    (subst (λ u. IsTold bare u p t es) same told.0)
    (subst (λ u. may_follow u t ≡ true) same told.2) clear.0
    (subst (λ c. is_opener a || is_closer c ≡ true) told.1 tight))

-- ---- directly behind a function's name

parenthesis : (laws : RespellingLaws) (n blocks : ℕ) (braces : List Bool) (x : List ℕ) (q : Bool) (rest : List Plan)
    (u : Token) → is_open_parenthesis u ≡ true
    → IsClear n (Word u) x
    → BeginsWith 40 (joined (cuts_of (lead_plans (Some opener) [] (sort_of braces u) blocks q
    (word_plan (Word u) u x ∷ rest))))
parenthesis laws n blocks braces x q rest token.OpenParenthesis opens is =
    begins_at laws (λ b. b ≡ 40) (Word token.OpenParenthesis) x is.rest (joined (cuts_of rest)) 40 is is.begins refl
parenthesis laws n blocks braces x q rest u opens is = no_false opens

called : (laws : RespellingLaws) (n blocks : ℕ) (braces : List Bool) (bare : Bool) (ts : List Token) (x : List ℕ)
    (q : Bool) (rest : List Plan) (p : Piece) (t : Token)
    (es : List Element) → IsTold bare ts p t es → is_open_parenthesis t ≡ true → IsClear n p x
    → BeginsWith 40 (joined (cuts_of (lead_plans (Some opener) [] (sort_of braces t) blocks q
    (word_plan p t x ∷ rest))))
called laws n blocks braces bare ts x q rest p t es told =
    by_told (λ p t. is_open_parenthesis t ≡ true → IsClear n p x
    → BeginsWith 40 (joined (cuts_of (lead_plans (Some opener) [] (sort_of braces t) blocks q
    (word_plan p t x ∷ rest))))) (record {
      object = λ opens is. no_false opens;
      block = λ opens is. no_false opens;
      opening = λ opens is. no_false opens;
      closing = λ opens is. no_false opens;
      merge = λ opens is. no_false opens;
      token = parenthesis laws n blocks braces x q rest;
    }) bare ts p t es told

call_goes_on : (laws : RespellingLaws) (n blocks : ℕ) (braces : List Bool) (bare touch : Bool) (ts : List Token)
    (es : List Element)
    → ((t : Token) → may_follow ts t ≡ true → is_open_parenthesis t ≡ true)
    → AreTold braces bare ts es → AreClear touch n es → begins_with_word es ≡ true
    → BeginsWith 40 (joined (cuts_of (plans (Some opener) blocks [] ts es)))
call_goes_on laws n blocks braces bare touch ts [] wants told clear some = no_false some
call_goes_on laws n blocks braces bare touch ts (note x ∷ es) wants told clear some = no_false some
call_goes_on laws n blocks braces bare touch ts (line q ∷ es) wants told clear some = no_false some
call_goes_on laws n blocks braces bare touch ts (stop ∷ es) wants told clear some = no_false some
call_goes_on laws n blocks braces bare touch ts (word p t s x ∷ es) wants told clear some =
    subst (λ c. BeginsWith 40 (joined (cuts_of (lead_plans (Some opener) [] c blocks (parts_here ts (word p t s x ∷ es))
    (word_plan p t x ∷ plans (Some c) (blocks_behind c blocks) [] (t ∷ ts) es))))) (sym told.1)
    (called laws n blocks braces bare ts x _ _ p t es told.0 (wants t told.2) clear.0)

-- ---- what may stand behind a word

stopped : (laws : RespellingLaws) (a : Sort) (t : Token) (before : List Token) → is_start a ≡ false
    → is_opener a ≡ false → closes_operand t ≡ false
    → (blocks : ℕ) (braces : List Bool) (bare touch : Bool) (n : ℕ) (es : List Element)
    → AreTold braces bare (t ∷ before) es → AreClear touch n es
    → Stops (joined (cuts_of (plans (Some a) blocks [] (t ∷ before) es)))
stopped laws a t before no_start no_opener other blocks braces bare touch n es told clear =
    begins Stops a (t ∷ before) (record {
      space = λ b text is. space_stops b is;
      word = λ braces bare n p u x more es told may is tight.
          closer_stops laws (t ∷ before) x more braces bare p u es told
          (subst (λ opens. opens || is_closer (sort_of braces u) ≡ true) no_opener tight) may other is;
    }) no_start blocks braces bare [] (t ∷ before) touch n es told clear (λ none. refl)

abbrev BehindBar : List ℕ → Type 0
BehindBar text = BeginsWithout 61 text × BeginsWithout 124 text

bar_closed : (laws : RespellingLaws) (a : Sort) (t : Token) (before : List Token) → is_start a ≡ false
    → is_opener a ≡ false → is_name t ≡ false
    → (blocks : ℕ) (braces : List Bool) (bare touch : Bool) (n : ℕ) (es : List Element)
    → AreTold braces bare (t ∷ before) es → AreClear touch n es
    → BehindBar (joined (cuts_of (plans (Some a) blocks [] (t ∷ before) es)))
bar_closed laws a t before no_start no_opener other blocks braces bare touch n es told clear =
    begins BehindBar a (t ∷ before) (record {
      space = λ b text is. space_apart b is;
      word = λ braces bare n p u x more es told may is tight.
          no_sign laws p x more is (closer_told braces bare (t ∷ before) p u es told
          (subst (λ opens. opens || is_closer (sort_of braces u) ≡ true) no_opener tight) may other);
    }) no_start blocks braces bare [] (t ∷ before) touch n es told clear (λ none. refl)

bar_opened : (laws : RespellingLaws) (before : List Token)
    → (blocks : ℕ) (braces : List Bool) (bare touch : Bool) (n : ℕ) (es : List Element)
    → AreTold braces bare (token.OpenBars ∷ before) es → AreClear touch n es
    → BehindBar (joined (cuts_of (plans (Some opener) blocks [] (token.OpenBars ∷ before) es)))
bar_opened laws before blocks braces bare touch n es told clear =
    begins BehindBar opener (token.OpenBars ∷ before) (record {
      space = λ b text is. space_apart b is;
      word = λ braces bare n p u x more es told may is tight.
          no_sign laws p x more is (name_told bare (token.OpenBars ∷ before) p u es told
          (wanted_here (token.OpenBars ∷ before) u may));
    }) refl blocks braces bare [] (token.OpenBars ∷ before) touch n es told clear (λ none. refl)

negated : (laws : RespellingLaws) (before : List Token)
    → (blocks : ℕ) (braces : List Bool) (bare touch : Bool) (n : ℕ) (es : List Element)
    → AreTold braces bare (token.Not ∷ before) es → AreClear touch n es
    → BeginsWithout 61 (joined (cuts_of (plans (Some opener) blocks [] (token.Not ∷ before) es)))
negated laws before blocks braces bare touch n es told clear =
    begins (BeginsWithout 61) opener (token.Not ∷ before) (record {
      space = λ b text is. (space_apart b is).0;
      word = λ braces bare n p u x more es told may is tight. not_told laws before x more bare p u es told may is;
    }) refl blocks braces bare [] (token.Not ∷ before) touch n es told clear (λ none. refl)

no_brace_opens : (braces : List Bool) → is_opener (brace_sort braces) ≡ false
no_brace_opens [] = refl
no_brace_opens (true ∷ braces) = refl
no_brace_opens (false ∷ braces) = refl

no_brace_starts : (braces : List Bool) → is_start (brace_sort braces) ≡ false
no_brace_starts [] = refl
no_brace_starts (true ∷ braces) = refl
no_brace_starts (false ∷ braces) = refl

word_may : (laws : RespellingLaws) {k : ℕ} (x : List ℕ) (around : List Bool) (before : List Token) (blocks : ℕ)
    (braces : List Bool) (bare touch : Bool) (n : ℕ) (es : List Element) (u : Token)
    → IsClear k (Word u) x → AreTold braces bare (u ∷ before) es → AreClear touch n es
    → (calls (Word u) ≡ true → begins_with_word es ≡ true)
    → MayStandBefore (Word u) (joined (cuts_of (plans (Some (sort_of around u)) blocks [] (u ∷ before) es)))
word_may laws x around before blocks braces bare touch n es (token.Function name) is told clear directly =
    call_goes_on laws n blocks braces bare touch (token.Function name ∷ before) es
    (λ t may. wanted_here (token.Function name ∷ before) t may) told clear (directly refl)
word_may laws x around before blocks braces bare touch n es (token.BangFunction name) is told clear directly =
    call_goes_on laws n blocks braces bare touch (token.BangFunction name ∷ before) es
    (λ t may. wanted_here (token.BangFunction name ∷ before) t may) told clear (directly refl)
word_may laws x around before blocks braces bare touch n es token.Not is told clear directly =
    negated laws before blocks braces bare touch n es told clear
word_may laws x around before blocks braces bare touch n es token.OpenParenthesis is told clear directly = tt
word_may laws x around before blocks braces bare touch n es token.OpenBracket is told clear directly = tt
word_may laws x around before blocks braces bare touch n es token.CloseParenthesis is told clear directly = tt
word_may laws x around before blocks braces bare touch n es token.CloseBracket is told clear directly = tt
word_may laws x around before blocks braces bare touch n es token.OpenBlock is told clear directly = elim is.begins [ ]
word_may laws x around before blocks braces bare touch n es token.OpenObject is told clear directly = elim is.begins [ ]
word_may laws x around before blocks braces bare touch n es token.OpenBars is told clear directly = elim is.begins [ ]
word_may laws x around before blocks braces bare touch n es token.CloseBrace is told clear directly =
    stopped laws (brace_sort around) token.CloseBrace before (no_brace_starts around) (no_brace_opens around) refl
    blocks braces bare touch n es told clear
word_may laws x around before blocks braces bare touch n es u is told clear directly =
    stopped laws (sort_of around u) u before refl refl refl blocks braces bare touch n es told clear

-- behind a word stands what may stand there
pub goes_on_so : (laws : RespellingLaws) (k : ℕ) (x : List ℕ) (around : List Bool) (told_bare : Bool)
    (before : List Token) (blocks : ℕ) (braces : List Bool) (bare touch : Bool) (n : ℕ) (p : Piece) (t : Token)
    (es : List Element)
    → IsTold told_bare before p t es → IsClear k p x → AreTold braces bare (t ∷ before) es → AreClear touch n es
    → (calls p ≡ true → begins_with_word es ≡ true)
    → MayStandBefore p (joined (cuts_of (plans (Some (sort_of around t)) blocks [] (t ∷ before) es)))
goes_on_so laws k x around told_bare before blocks braces bare touch n p t es told =
    by_told (λ p t. IsClear k p x → AreTold braces bare (t ∷ before) es → AreClear touch n es
    → (calls p ≡ true → begins_with_word es ≡ true)
    → MayStandBefore p (joined (cuts_of (plans (Some (sort_of around t)) blocks [] (t ∷ before) es)))) (record {
      object = λ is behind clear directly. tt;
      block = λ is behind clear directly. tt;
      opening = λ is behind clear directly. bar_opened laws before blocks braces bare touch n es behind clear;
      closing = λ is behind clear directly.
          bar_closed laws closer token.CloseBars before refl refl refl blocks braces bare touch n es behind clear;
      merge = λ is behind clear directly.
          bar_closed laws plain token.Merge before refl refl refl blocks braces bare touch n es behind clear;
      token = word_may laws x around before blocks braces bare touch n es;
    }) told_bare before p t es told
