-- What the tokens before a place of a text and of its layout have in common, behind a word.
use Rattle.std.proofs.Common.{◌≡◌, refl, sym, ap, ◌∙◌, ℕ, Bool, true, false, ◌&&◌, ◌||◌, not, if◌then◌else◌, List, [], ◌∷◌, Option, Some, None}
use Rattle.std.proofs.lemmas.Bool.{true≢false}
use Rattle.std.specs.List.{list_any}
use Rattle.vrl_token.specs.declared.piece.Piece.{Piece}
use Rattle.vrl_token.specs.declared.piece.Piece.TheVariants.{Blank, Comment, Newline, Brace, Bar, Word}
use Rattle.vrl_token.specs.declared.token.Token.{Token}
use Rattle.vrl_token.specs.declared.token.Token.TheVariants as token
use Rattle.vrl_token.specs.Brackets.{arrow_before, block_behind, block_follows, closes, goes_on_behind, is_bars, open_behind, opened, with_bracket}
use Rattle.vrl_format.specs.Layout.{is_comment, is_end, is_start}
use Rattle.vrl_format.specs.Pieces.{Between, Sort, sort_of}
use Rattle.vrl_format.proofs.Alike.{Alike, gap_alike, is_edge, last_other, lead_tokens, led_alike, none_lines, none_parts, parting_ends, same_goes, seen}
use Rattle.vrl_format.proofs.Linked.{bar_told, brace_told}
use Rattle.vrl_format.proofs.Marks.{is_separator}
use Rattle.vrl_format.proofs.Elements.{Element, IsTold, goes_on_last, object_follows, parts_here, word}

-- ---- what is told by the token directly before

abbrev head_of : Bool → Option Token → List Token
head_of true last = token.Separator ∷ []
head_of false None = []
head_of false (Some t) = t ∷ []

abbrev pub IsOfHead : {R : Type 0} → (List Token → R) → Type 0
IsOfHead f = (ts : List Token) → f ts ≡ f (head_of (seen ts) (last_other ts))

at_edge : {R : Type 0} (f : List Token → R) → f [] ≡ f (token.Separator ∷ []) → f (token.OpenBlock ∷ []) ≡ f (token.Separator ∷ [])
    → (last : Option Token) (a : Bool) → is_edge last ≡ true → f (head_of a last) ≡ f (token.Separator ∷ [])
at_edge f none block last true is = refl
at_edge f none block None false is = none
at_edge f none block (Some token.OpenBlock) false is = block
at_edge f none block (Some t) false is = absurd (true≢false (sym is))

pub same_at_head : {R : Type 0} (f : List Token → R) → IsOfHead f → f [] ≡ f (token.Separator ∷ [])
    → f (token.OpenBlock ∷ []) ≡ f (token.Separator ∷ []) → (before after : List Token) → last_other after ≡ last_other before
    → (is_edge (last_other before) ≡ false → seen before ≡ seen after) → f after ≡ f before
same_at_head {R} f of none block before after other inner = by (is_edge (last_other before)) refl
  where
    by : (e : Bool) → is_edge (last_other before) ≡ e → f after ≡ f before
    by true edge = of after ∙ at_edge f none block (last_other after) (seen after) (ap is_edge other ∙ edge)
        ∙ sym (of before ∙ at_edge f none block (last_other before) (seen before) edge)
    by false edge = of after ∙ (let same : seen after ≡ seen before = sym (inner edge) in λ i. f (head_of (same i) (other i))) ∙ sym (of before)

follows_of_head : IsOfHead block_follows
follows_of_head [] = refl
follows_of_head (token.Separator ∷ ts) = refl
follows_of_head (token.Else ∷ ts) = refl
follows_of_head (token.CloseBars ∷ ts) = refl
follows_of_head (t ∷ ts) = refl

behind_of_head : IsOfHead block_behind
behind_of_head [] = refl
behind_of_head (token.Separator ∷ ts) = refl
behind_of_head (token.CloseBars ∷ ts) = refl
behind_of_head (t ∷ ts) = refl

arrow_of_head : IsOfHead arrow_before
arrow_of_head [] = refl
arrow_of_head (token.Separator ∷ ts) = refl
arrow_of_head (token.Arrow ∷ ts) = refl
arrow_of_head (t ∷ ts) = refl

-- ---- sorts of tokens

pub start_is_edge : (braces : List Bool) (t : Token) (before : List Token) → is_start (sort_of braces t) ≡ true
    → is_edge (last_other (t ∷ before)) ≡ true
start_is_edge braces token.OpenBlock before is = refl
start_is_edge [] token.CloseBrace before is = absurd (true≢false (sym is))
start_is_edge (true ∷ braces) token.CloseBrace before is = absurd (true≢false (sym is))
start_is_edge (false ∷ braces) token.CloseBrace before is = absurd (true≢false (sym is))
start_is_edge braces token.Separator before is = absurd (true≢false (sym is))
start_is_edge braces t before is = absurd (true≢false (sym is))

pub no_comment : (braces : List Bool) (t : Token) → is_comment (sort_of braces t) ≡ false
no_comment [] token.CloseBrace = refl
no_comment (true ∷ braces) token.CloseBrace = refl
no_comment (false ∷ braces) token.CloseBrace = refl
no_comment braces t = refl

abbrev pub brace_of : Bool → Token
brace_of c = if c then token.OpenObject else token.OpenBlock

abbrev pub bar_of : Bool → Bool → Token
bar_of a b = if a then token.OpenBars else if b then token.CloseBars else token.Merge

pub brace_ends_none : (braces : List Bool) (c : Bool) → is_end (sort_of braces (brace_of c)) ≡ false
brace_ends_none braces true = refl
brace_ends_none braces false = refl

pub bar_ends_none : (braces : List Bool) (a b : Bool) → is_end (sort_of braces (bar_of a b)) ≡ false
bar_ends_none braces true b = refl
bar_ends_none braces false true = refl
bar_ends_none braces false false = refl

-- ---- separators that are pieces

-- a separator that is a piece stands where the item has ended
told_separator : (bare : Bool) (before : List Token) (p : Piece) (t : Token) (es : List Element) → IsTold bare before p t es
    → is_separator t ≡ true → parts_here before es ≡ true
told_separator bare before Blank t es told is = elim told [ ]
told_separator bare before Comment t es told is = elim told [ ]
told_separator bare before Newline t es told is = elim told [ ]
told_separator bare before Brace t es told is =
    absurd (true≢false (sym is ∙ ap is_separator told ∙ brace_told (not (block_follows before) && object_follows es)))
told_separator bare before Bar t es told is =
    absurd (true≢false (sym is ∙ ap is_separator told ∙ bar_told (arrow_before before) (list_any is_bars (open_behind before))))
told_separator bare before (Word token.Separator) t es told is = told.2
told_separator bare before (Word u) t es told is = absurd (true≢false (sym is ∙ ap is_separator told))

word_ends : (t : Token) (ts : List Token) → (is_separator t ≡ true → goes_on_last ts ≡ false) → goes_on_behind (t ∷ ts) ≡ goes_on_last (t ∷ ts)
word_ends token.Separator ts ended = sym (ended refl)
word_ends t ts ended = refl

word_other : (t : Token) (before after : List Token) → last_other after ≡ last_other before → last_other (t ∷ after) ≡ last_other (t ∷ before)
word_other token.Separator before after same = same
word_other t before after same = refl

word_seen : (t : Token) (before after : List Token) → seen (t ∷ before) ≡ (seen (t ∷ after) || false)
word_seen token.Separator before after = refl
word_seen t before after = refl

-- ---- brackets

abbrev is_block_token : Token → Bool
is_block_token token.OpenBlock = true
is_block_token t = false

same_opened : (t : Token) (before after : List Token) → (is_block_token t ≡ true → block_behind after ≡ block_behind before)
    → opened t after ≡ opened t before
same_opened token.OpenBlock before after same = ap (λ b. Some b) (same refl)
same_opened t before after same = refl

block_ends_none : (braces : List Bool) (t : Token) → is_block_token t ≡ true → is_end (sort_of braces t) ≡ false
block_ends_none braces token.OpenBlock is = refl
block_ends_none braces t is = absurd (true≢false (sym is))

-- ---- a word

-- the tokens behind the gap before a word
abbrev pub led : Option Sort → List Between → List Token → List Token → Piece → Token → Sort → List ℕ → List Element → List Token
led last between before after p t s x es = lead_tokens last between s (parts_here before (word p t s x ∷ es)) after

-- what is told by the token directly before is the same, but before a block's end
pub led_head : {R : Type 0} (f : List Token → R) → IsOfHead f → f [] ≡ f (token.Separator ∷ [])
    → f (token.OpenBlock ∷ []) ≡ f (token.Separator ∷ []) → {last : Option Sort} {between : List Between} {before after : List Token}
    → {p : Piece} {t : Token} {s : Sort} {x : List ℕ} {es : List Element} → Alike last between before after (word p t s x ∷ es)
    → is_end s ≡ false → f (led last between before after p t s x es) ≡ f before
led_head f of none block {last} {between} {before} {after} {p} {t} {s} {x} {es} a end =
    same_at_head f of none block before (led last between before after p t s x es)
    (gap_alike last between before after (word p t s x ∷ es) s a).1
    (λ inner. led_alike last between before after (word p t s x ∷ es) s a (λ ends. elim ends [ ]) inner end)

pub led_follows : {last : Option Sort} {between : List Between} {before after : List Token}
    → {p : Piece} {t : Token} {s : Sort} {x : List ℕ} {es : List Element} → Alike last between before after (word p t s x ∷ es)
    → is_end s ≡ false → block_follows (led last between before after p t s x es) ≡ block_follows before
led_follows a end = led_head block_follows follows_of_head refl refl a end

pub led_arrow : {last : Option Sort} {between : List Between} {before after : List Token}
    → {p : Piece} {t : Token} {s : Sort} {x : List ℕ} {es : List Element} → Alike last between before after (word p t s x ∷ es)
    → is_end s ≡ false → arrow_before (led last between before after p t s x es) ≡ arrow_before before
led_arrow a end = led_head arrow_before arrow_of_head refl refl a end

pub alike_word : {last : Option Sort} {between : List Between} {before after : List Token} {es : List Element} (braces : List Bool)
    (bare : Bool) (p : Piece) (t : Token) (s : Sort) (x : List ℕ) → IsTold bare before p t es → s ≡ sort_of braces t
    → Alike last between before after (word p t s x ∷ es)
    → Alike (Some s) [] (t ∷ before) (t ∷ led last between before after p t s x es) es
alike_word {last} {between} {before} {after} {es} braces bare p t s x told sort a =
    let now = led last between before after p t s x es in
    let all = gap_alike last between before after (word p t s x ∷ es) s a in
    record {
      brackets = (λ i. with_bracket (same_opened t before now (λ block. led_head block_behind behind_of_head refl refl a (ap is_end sort ∙ block_ends_none braces t block)) i) (closes t) (all.0 i));
      other = word_other t before now all.1;
      ends = word_ends t now (λ parting. same_goes before now all.1 ∙ parting_ends before es (told_separator bare before p t es told parting));
      separators = λ inner. word_seen t before now;
      parted = λ some. none_parts some;
      lines = λ some here. none_lines some;
      edge = λ start. start_is_edge braces t before (sym (ap is_start sort) ∙ start);
      noted = λ behind. absurd (true≢false (sym behind ∙ ap is_comment sort ∙ no_comment braces t));
    }
