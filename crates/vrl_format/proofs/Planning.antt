-- What a layout writes has the tokens that it is to have.
use Rattle.std.proofs.Common.{◌≡◌, refl, sym, ap, ◌∙◌, subst, ℕ, zero, suc, Bool, true, false, ◌&&◌, ◌||◌, not, ◌⊎◌, inl, inr, if◌then◌else◌, List, [], ◌∷◌, ◌++◌, Option, Some, None}
use Rattle.std.specs.List.{list_any}
use Rattle.vrl_token.specs.declared.piece.Piece.{Piece}
use Rattle.vrl_token.specs.declared.piece.Piece.TheVariants.{Blank, Comment, Newline, Brace, Bar, Word}
use Rattle.vrl_token.specs.declared.token.Token.{Token}
use Rattle.vrl_token.specs.declared.token.Token.TheVariants as token
use Rattle.vrl_token.specs.Brackets.{arrow_before, behind_first, block_follows, encloses, first_is, goes_on_behind, is_bars, is_close_brace, is_colon, is_text, joins_piece, next_pieces, open_behind, token_of, with_token}
use Rattle.vrl_token.specs.Division.{kept}
use Rattle.vrl_format.specs.Layout.{Gap, nothing, space, break, blocks_at, blocks_behind, gap, is_end}
use Rattle.vrl_format.specs.Pieces.{Between, newline, semicolon, Sort, comment, braces_behind, sort_of, trimmed}
use Rattle.vrl_format.proofs.Alike.{Alike, gap_alike, alike_line, alike_note, alike_stop, gap_tokens, lead_tokens, parting_ends, same_goes}
use Rattle.vrl_format.proofs.AlikeWords.{alike_word, bar_ends_none, brace_ends_none, led, led_arrow, led_follows}
use Rattle.vrl_format.proofs.Cuts.{Cut, placed}
use Rattle.vrl_format.proofs.Elements.{ArePlanned, AreTold, Element, IsTold, Plan, cuts_of, end_plans, first_word, gap_plans, goes_on_last, indent_plans, lead_plans, line, line_plan, note, note_plan, object_follows, opens_bare_word, parting_token, parts_here, plans, second_word, stop, with_parting, word, word_plan}

-- ---- what stands next among cuts

-- the first piece that is no blank, no comment and no newline passes a test
abbrev pub first_cut : (Piece → Bool) → List Cut → Bool
first_cut test [] = false
first_cut test (c ∷ cs) = at c.piece (first_cut test cs)
  where
    at : Piece → Bool → Bool
    at Blank later = later
    at Comment later = later
    at Newline later = later
    at p later = test p

-- the one behind it does
abbrev pub second_cut : (Piece → Bool) → List Cut → Bool
second_cut test [] = false
second_cut test (c ∷ cs) = at c.piece (first_cut test cs) (second_cut test cs)
  where
    at : Piece → Bool → Bool → Bool
    at Blank here later = later
    at Comment here later = later
    at Newline here later = later
    at p here later = here

pub first_kept : (total : ℕ) (test : Piece → Bool) (cs : List Cut)
    → first_is test (next_pieces (kept (placed total cs))) ≡ first_cut test cs
first_kept total test [] = refl
first_kept total test (c ∷ cs) = by c.piece (first_kept total test cs)
  where
    by : (p : Piece) → first_is test (next_pieces (kept (placed total cs))) ≡ first_cut test cs
        → first_is test (next_pieces (kept (placed total (record { piece = p; spelling = c.spelling } ∷ cs))))
        ≡ first_cut test (record { piece = p; spelling = c.spelling } ∷ cs)
    by Blank later = later
    by Comment later = later
    by Newline later = later
    by Brace later = refl
    by Bar later = refl
    by (Word t) later = refl

pub second_kept : (total : ℕ) (test : Piece → Bool) (cs : List Cut)
    → first_is test (next_pieces (behind_first (next_pieces (kept (placed total cs))))) ≡ second_cut test cs
second_kept total test [] = refl
second_kept total test (c ∷ cs) = by c.piece (second_kept total test cs)
  where
    by : (p : Piece) → first_is test (next_pieces (behind_first (next_pieces (kept (placed total cs))))) ≡ second_cut test cs
        → first_is test (next_pieces (behind_first (next_pieces (kept (placed total (record { piece = p; spelling = c.spelling } ∷ cs))))))
        ≡ second_cut test (record { piece = p; spelling = c.spelling } ∷ cs)
    by Blank later = later
    by Comment later = later
    by Newline later = later
    by Brace later = first_kept total test cs
    by Bar later = first_kept total test cs
    by (Word t) later = first_kept total test cs

-- ---- what stands next in a layout

first_indent : (test : Piece → Bool) (blocks : ℕ) (later : List Plan) → first_cut test (cuts_of (indent_plans blocks later)) ≡ first_cut test (cuts_of later)
first_indent test zero later = refl
first_indent test (suc blocks) later = refl

first_gap : (test : Piece → Bool) (g : Gap) (blocks : ℕ) (q : Bool) (later : List Plan) → first_cut test (cuts_of (gap_plans g blocks q later)) ≡ first_cut test (cuts_of later)
first_gap test nothing blocks q later = refl
first_gap test space blocks q later = refl
first_gap test (break false) blocks q later = first_indent test blocks later
first_gap test (break true) blocks q later = first_indent test blocks later

first_lead : (test : Piece → Bool) (last : Option Sort) (between : List Between) (s : Sort) (blocks : ℕ) (q : Bool) (later : List Plan)
    → first_cut test (cuts_of (lead_plans last between s blocks q later)) ≡ first_cut test (cuts_of later)
first_lead test None between s blocks q later = refl
first_lead test (Some a) between s blocks q later = first_gap test (gap a between s) (blocks_at s blocks) q later

second_indent : (test : Piece → Bool) (blocks : ℕ) (later : List Plan) → second_cut test (cuts_of (indent_plans blocks later)) ≡ second_cut test (cuts_of later)
second_indent test zero later = refl
second_indent test (suc blocks) later = refl

second_gap : (test : Piece → Bool) (g : Gap) (blocks : ℕ) (q : Bool) (later : List Plan) → second_cut test (cuts_of (gap_plans g blocks q later)) ≡ second_cut test (cuts_of later)
second_gap test nothing blocks q later = refl
second_gap test space blocks q later = refl
second_gap test (break false) blocks q later = second_indent test blocks later
second_gap test (break true) blocks q later = second_indent test blocks later

second_lead : (test : Piece → Bool) (last : Option Sort) (between : List Between) (s : Sort) (blocks : ℕ) (q : Bool) (later : List Plan)
    → second_cut test (cuts_of (lead_plans last between s blocks q later)) ≡ second_cut test (cuts_of later)
second_lead test None between s blocks q later = refl
second_lead test (Some a) between s blocks q later = second_gap test (gap a between s) (blocks_at s blocks) q later

first_told : (test : Piece → Bool) (bare : Bool) (before : List Token) (p : Piece) (t : Token) (es : List Element) (x : List ℕ) (later : List Plan)
    → IsTold bare before p t es → first_cut test (cuts_of (word_plan p t x ∷ later)) ≡ test p
first_told test bare before Blank t es x later told = elim told [ ]
first_told test bare before Comment t es x later told = elim told [ ]
first_told test bare before Newline t es x later told = elim told [ ]
first_told test bare before Brace t es x later told = refl
first_told test bare before Bar t es x later told = refl
first_told test bare before (Word u) t es x later told = refl

second_told : (test : Piece → Bool) (bare : Bool) (before : List Token) (p : Piece) (t : Token) (es : List Element) (x : List ℕ) (later : List Plan)
    → IsTold bare before p t es → second_cut test (cuts_of (word_plan p t x ∷ later)) ≡ first_cut test (cuts_of later)
second_told test bare before Blank t es x later told = elim told [ ]
second_told test bare before Comment t es x later told = elim told [ ]
second_told test bare before Newline t es x later told = elim told [ ]
second_told test bare before Brace t es x later told = refl
second_told test bare before Bar t es x later told = refl
second_told test bare before (Word u) t es x later told = refl

pub first_plan : (test : Piece → Bool) (last : Option Sort) (blocks : ℕ) (between : List Between) (braces : List Bool) (bare : Bool)
    (before : List Token) (es : List Element) → AreTold braces bare before es
    → first_cut test (cuts_of (plans last blocks between before es)) ≡ first_word test es
first_plan test None blocks between braces bare before [] told = refl
first_plan test (Some a) blocks between braces bare before [] told = refl
first_plan test last blocks between braces bare before (note x ∷ es) told =
    first_lead test last between comment blocks (parts_here before es) (note_plan (trimmed x) ∷ plans (Some comment) (blocks_behind comment blocks) [] before es)
    ∙ first_plan test (Some comment) (blocks_behind comment blocks) [] braces bare before es told.1
first_plan test last blocks between braces bare before (line q ∷ es) told =
    first_plan test last blocks (between ++ newline q ∷ []) braces bare (with_parting q before) es told.1
first_plan test last blocks between braces bare before (stop ∷ es) told =
    first_plan test last blocks (between ++ semicolon ∷ []) braces bare (token.Separator ∷ before) es told.1
first_plan test last blocks between braces bare before (word p t s x ∷ es) told =
    first_lead test last between s blocks (parts_here before (word p t s x ∷ es)) (word_plan p t x ∷ plans (Some s) (blocks_behind s blocks) [] (t ∷ before) es)
    ∙ first_told test bare before p t es x (plans (Some s) (blocks_behind s blocks) [] (t ∷ before) es) told.0

pub second_plan : (test : Piece → Bool) (last : Option Sort) (blocks : ℕ) (between : List Between) (braces : List Bool) (bare : Bool)
    (before : List Token) (es : List Element) → AreTold braces bare before es
    → second_cut test (cuts_of (plans last blocks between before es)) ≡ second_word test es
second_plan test None blocks between braces bare before [] told = refl
second_plan test (Some a) blocks between braces bare before [] told = refl
second_plan test last blocks between braces bare before (note x ∷ es) told =
    second_lead test last between comment blocks (parts_here before es) (note_plan (trimmed x) ∷ plans (Some comment) (blocks_behind comment blocks) [] before es)
    ∙ second_plan test (Some comment) (blocks_behind comment blocks) [] braces bare before es told.1
second_plan test last blocks between braces bare before (line q ∷ es) told =
    second_plan test last blocks (between ++ newline q ∷ []) braces bare (with_parting q before) es told.1
second_plan test last blocks between braces bare before (stop ∷ es) told =
    second_plan test last blocks (between ++ semicolon ∷ []) braces bare (token.Separator ∷ before) es told.1
second_plan test last blocks between braces bare before (word p t s x ∷ es) told =
    second_lead test last between s blocks (parts_here before (word p t s x ∷ es)) (word_plan p t x ∷ plans (Some s) (blocks_behind s blocks) [] (t ∷ before) es)
    ∙ second_told test bare before p t es x (plans (Some s) (blocks_behind s blocks) [] (t ∷ before) es) told.0
    ∙ first_plan test (Some s) (blocks_behind s blocks) [] (braces_behind t braces) (opens_bare_word t es) (t ∷ before) es told.3

-- ---- newlines

-- a newline is told the same behind both
pub record Agrees (before after : List Token) : Type 0 where
  pub brackets : open_behind after ≡ open_behind before
  pub other : goes_on_last after ≡ goes_on_last before
  pub ends : goes_on_behind after ≡ goes_on_last after

as_parting : (q : Bool) → (let r : Option Token = if q then Some token.Separator else None in r) ≡ parting_token q
as_parting true = refl
as_parting false = refl

newline_told : (total : ℕ) (before after : List Token) (es : List Element) (later : List Plan) → Agrees before after
    → first_cut joins_piece (cuts_of later) ≡ first_word joins_piece es
    → token_of after Newline (kept (placed total (cuts_of later))) ≡ parting_token (parts_here before es)
newline_told total before after es later agrees first =
    (let goes : goes_on_behind after ≡ goes_on_last before = agrees.ends ∙ agrees.other in
    let next : first_is joins_piece (next_pieces (kept (placed total (cuts_of later)))) ≡ first_word joins_piece es = first_kept total joins_piece (cuts_of later) ∙ first in
    λ i. let r : Option Token = if not (encloses (agrees.brackets i)) && (not (goes i) && not (next i)) then Some token.Separator else None in r)
    ∙ as_parting (parts_here before es)

agrees_on : (before after : List Token) (es : List Element) → Agrees before after
    → Agrees before (with_token (parting_token (parts_here before es)) after)
agrees_on before after es agrees = by (parts_here before es) refl
  where
    by : (q : Bool) → parts_here before es ≡ q → Agrees before (with_token (parting_token q) after)
    by true parting = record { brackets = agrees.brackets; other = agrees.other; ends = sym (agrees.other ∙ parting_ends before es parting) }
    by false parting = agrees

planned_indent : (total : ℕ) (after : List Token) (blocks : ℕ) (later : List Plan) → ArePlanned total after later → ArePlanned total after (indent_plans blocks later)
planned_indent total after zero later planned = planned
planned_indent total after (suc blocks) later planned = (refl, planned)

planned_gap : (total : ℕ) (g : Gap) (blocks : ℕ) (before after : List Token) (es : List Element) (later : List Plan) → Agrees before after
    → first_cut joins_piece (cuts_of later) ≡ first_word joins_piece es
    → ArePlanned total (gap_tokens g (parts_here before es) after) later → ArePlanned total after (gap_plans g blocks (parts_here before es) later)
planned_gap total nothing blocks before after es later agrees first planned = planned
planned_gap total space blocks before after es later agrees first planned = (refl, planned)
planned_gap total (break false) blocks before after es later agrees first planned = (
  newline_told total before after es (indent_plans blocks later) agrees (first_indent joins_piece blocks later ∙ first),
  planned_indent total _ blocks later planned,
)
planned_gap total (break true) blocks before after es later agrees first planned = (
  newline_told total before after es (line_plan (parts_here before es) ∷ indent_plans blocks later) agrees (first_indent joins_piece blocks later ∙ first),
  (
    newline_told total before (with_token (parting_token (parts_here before es)) after) es (indent_plans blocks later) (agrees_on before after es agrees) (first_indent joins_piece blocks later ∙ first),
    planned_indent total _ blocks later planned,
  ),
)

planned_lead : (total : ℕ) (last : Option Sort) (between : List Between) (s : Sort) (blocks : ℕ) (before after : List Token) (es : List Element) (later : List Plan)
    → Agrees before after → first_cut joins_piece (cuts_of later) ≡ first_word joins_piece es
    → ArePlanned total (lead_tokens last between s (parts_here before es) after) later
    → ArePlanned total after (lead_plans last between s blocks (parts_here before es) later)
planned_lead total None between s blocks before after es later agrees first planned = planned
planned_lead total (Some a) between s blocks before after es later agrees first planned =
    planned_gap total (gap a between s) (blocks_at s blocks) before after es later agrees first planned

alike_agrees : {last : Option Sort} {between : List Between} {before after : List Token} {es : List Element} → Alike last between before after es → Agrees before after
alike_agrees {last} {between} {before} {after} {es} a = record { brackets = a.brackets; other = same_goes before after a.other; ends = a.ends }

-- ---- words

-- what is told by the tokens before a word, where they differ in separators at edges
pub record Reads (before now : List Token) : Type 0 where
  pub brackets : open_behind now ≡ open_behind before
  pub follows : block_follows now ≡ block_follows before
  pub arrow : arrow_before now ≡ arrow_before before

word_told : (total : ℕ) (bare : Bool) (before now : List Token) (p : Piece) (t : Token) (es : List Element) (later : List Plan) → IsTold bare before p t es
    → ((p ≡ Brace) ⊎ (p ≡ Bar) → Reads before now)
    → ((test : Piece → Bool) → first_cut test (cuts_of later) ≡ first_word test es)
    → ((test : Piece → Bool) → second_cut test (cuts_of later) ≡ second_word test es)
    → token_of now p (kept (placed total (cuts_of later))) ≡ Some t
word_told total bare before now Blank t es later told reads first second = elim told [ ]
word_told total bare before now Comment t es later told reads first second = elim told [ ]
word_told total bare before now Newline t es later told reads first second = elim told [ ]
word_told total bare before now Brace t es later told reads first second =
    (let same = reads (inl refl) in
    let closing : first_is is_close_brace (next_pieces (kept (placed total (cuts_of later)))) ≡ first_word is_close_brace es = first_kept total is_close_brace (cuts_of later) ∙ first is_close_brace in
    let texts : first_is is_text (next_pieces (kept (placed total (cuts_of later)))) ≡ first_word is_text es = first_kept total is_text (cuts_of later) ∙ first is_text in
    let colons : first_is is_colon (next_pieces (behind_first (next_pieces (kept (placed total (cuts_of later)))))) ≡ second_word is_colon es = second_kept total is_colon (cuts_of later) ∙ second is_colon in
    λ i. let r : Option Token = Some (if not (same.follows i) && (closing i || (texts i && colons i)) then token.OpenObject else token.OpenBlock) in r)
    ∙ ap (λ u. Some u) (sym told)
word_told total bare before now Bar t es later told reads first second =
    (let same = reads (inr refl) in
    λ i. let r : Option Token = Some (if same.arrow i then token.OpenBars else if list_any is_bars (same.brackets i) then token.CloseBars else token.Merge) in r)
    ∙ ap (λ u. Some u) (sym told)
word_told total bare before now (Word token.Separator) t es later told reads first second = ap (λ u. Some u) (sym told.0)
word_told total bare before now (Word u) t es later told reads first second = ap (λ v. Some v) (sym told)

-- the sort of a brace or a bar that isn't `}` ends no block
sign_ends_none : (bare : Bool) (braces : List Bool) (before : List Token) (p : Piece) (t : Token) (es : List Element) → IsTold bare before p t es
    → (p ≡ Brace) ⊎ (p ≡ Bar) → is_end (sort_of braces t) ≡ false
sign_ends_none bare braces before p t es told (inl is) =
    let here : IsTold bare before Brace t es = subst (λ r. IsTold bare before r t es) is told in
    ap (λ u. is_end (sort_of braces u)) here ∙ brace_ends_none braces (not (block_follows before) && object_follows es)
sign_ends_none bare braces before p t es told (inr is) =
    let here : IsTold bare before Bar t es = subst (λ r. IsTold bare before r t es) is told in
    ap (λ u. is_end (sort_of braces u)) here ∙ bar_ends_none braces (arrow_before before) (list_any is_bars (open_behind before))

-- ---- a layout

end_planned : (total : ℕ) (last : Option Sort) (before after : List Token) → Agrees before after → ArePlanned total after (end_plans last before)
end_planned total None before after agrees = tt
end_planned total (Some a) before after agrees = (newline_told total before after [] [] agrees refl, tt)

pub all_planned : (total : ℕ) (last : Option Sort) (blocks : ℕ) (between : List Between) (braces : List Bool) (bare : Bool)
    (before after : List Token) (es : List Element) → AreTold braces bare before es → Alike last between before after es
    → ArePlanned total after (plans last blocks between before es)
all_planned total last blocks between braces bare before after [] told a = end_planned total last before after (alike_agrees a)
all_planned total last blocks between braces bare before after (note x ∷ es) told a =
    planned_lead total last between comment blocks before after es (note_plan (trimmed x) ∷ plans (Some comment) (blocks_behind comment blocks) [] before es)
    (alike_agrees a) (first_plan joins_piece (Some comment) (blocks_behind comment blocks) [] braces bare before es told.1)
    (refl, all_planned total (Some comment) (blocks_behind comment blocks) [] braces bare before _ es told.1 (alike_note x told.0 a))
all_planned total last blocks between braces bare before after (line q ∷ es) told a =
    all_planned total last blocks (between ++ newline q ∷ []) braces bare (with_parting q before) after es told.1 (alike_line q told.0 a)
all_planned total last blocks between braces bare before after (stop ∷ es) told a =
    all_planned total last blocks (between ++ semicolon ∷ []) braces bare (token.Separator ∷ before) after es told.1 (alike_stop told.0 a)
all_planned total last blocks between braces bare before after (word p t s x ∷ es) told a =
    let later = plans (Some s) (blocks_behind s blocks) [] (t ∷ before) es in
    let now = led last between before after p t s x es in
    let behind = alike_word braces bare p t s x told.0 told.1 a in
    planned_lead total last between s blocks before after (word p t s x ∷ es) (word_plan p t x ∷ later)
    (alike_agrees a) (first_told joins_piece bare before p t es x later told.0) (
      word_told total bare before now p t es later told.0 (λ sign.
          let end : is_end s ≡ false = ap is_end told.1 ∙ sign_ends_none bare braces before p t es told.0 sign in
          record { brackets = gap_brackets_of last between before after p t s x es a; follows = led_follows a end; arrow = led_arrow a end })
          (λ test. first_plan test (Some s) (blocks_behind s blocks) [] (braces_behind t braces) (opens_bare_word t es) (t ∷ before) es told.3)
          (λ test. second_plan test (Some s) (blocks_behind s blocks) [] (braces_behind t braces) (opens_bare_word t es) (t ∷ before) es told.3),
      all_planned total (Some s) (blocks_behind s blocks) [] (braces_behind t braces) (opens_bare_word t es) (t ∷ before) (t ∷ now) es told.3 behind,
    )
  where
    gap_brackets_of : (last : Option Sort) (between : List Between) (before after : List Token) (p : Piece) (t : Token) (s : Sort) (x : List ℕ) (es : List Element)
        → Alike last between before after (word p t s x ∷ es) → open_behind (led last between before after p t s x es) ≡ open_behind before
    gap_brackets_of last between before after p t s x es a = (gap_alike last between before after (word p t s x ∷ es) s a).0
