-- The words of a script but its separators, each with whether the grammar sees one before it.
use Rattle.std.proofs.Common.{arith, ◌≡◌, ℕ, ◌+◌, Bool, true, false, ◌&&◌, not, List, [], ◌∷◌, ◌++◌, length, refl, sym, ap, ◌∙◌, true≢false}
use Rattle.vrl_token.specs.declared.token.Spanned.{Spanned}
use Rattle.vrl_token.specs.declared.token.Token.{Token}
use Rattle.vrl_token.specs.declared.token.Token.TheVariants as token
use Rattle.vrl_word.specs.Words.{Word, regex_of, words_from}
use Rattle.vrl_parse.specs.Reading.{sources_of}
use Rattle.vrl_format.specs.Apart.{Parted, apart, apart_at, apart_from, ends_block, is_edge_behind}
use Rattle.vrl_format.specs.Formatting.{tokens_in}
use Rattle.vrl_format.specs.Pieces.{braces_behind}

pub record Mark : Type 0 where
  pub apart : Bool
  pub token : Token
  pub number : ℕ

-- what stands before a word: an edge, no separator, or one that is seen
pub data Front : Type 0 where
  edge inner behind_separator : Front

abbrev pub after_separator : Front → Front
after_separator edge = edge
after_separator inner = behind_separator
after_separator behind_separator = behind_separator

abbrev pub after_token : Token → Front
after_token token.OpenBlock = edge
after_token t = inner

-- a separator is seen before the word, which ends a block or not
abbrev pub is_apart : Front → Bool → Bool
is_apart edge ends = false
is_apart inner ends = false
is_apart behind_separator ends = not ends

abbrev pub mark_at : List Bool → Front → (List Bool → Front → List Mark) → Token → ℕ → List Mark
mark_at braces f go token.Separator n = go braces (after_separator f)
mark_at braces f go t n =
    record { apart = is_apart f (ends_block braces t); token = t; number = n } ∷ go (braces_behind t braces) (after_token t)

abbrev pub marks : List Bool → Front → List Word → List Mark
marks braces f [] = []
marks braces f (w ∷ ws) = mark_at braces f (λ b g. marks b g ws) w.token w.number

-- ---- single tokens

abbrev pub is_separator : Token → Bool
is_separator token.Separator = true
is_separator t = false

pub separator_is : (t : Token) → is_separator t ≡ true → t ≡ token.Separator
separator_is token.Separator is = refl
separator_is t is = absurd (true≢false (sym is))

-- a token that is no separator has a mark
pub mark_is : (braces : List Bool) (f : Front) (go : List Bool → Front → List Mark) (t : Token) (n : ℕ) → is_separator t ≡ false
    → mark_at braces f go t n
    ≡ record { apart = is_apart f (ends_block braces t); token = t; number = n } ∷ go (braces_behind t braces) (after_token t)
mark_is braces f go token.Separator n other = absurd (true≢false other)
mark_is braces f go t n other = refl

-- and a separator none
pub mark_none : (braces : List Bool) (f : Front) (go : List Bool → Front → List Mark) (t : Token) (n : ℕ) → is_separator t ≡ true
    → mark_at braces f go t n ≡ go braces (after_separator f)
mark_none braces f go t n is = ap (λ u. mark_at braces f go u n) (separator_is t is)

-- ---- lists

pub first_is : {A : Type 0} {x y : A} {xs ys : List A} → x ∷ xs ≡ y ∷ ys → x ≡ y
first_is is = cc

pub rest_is : {A : Type 0} {x y : A} {xs ys : List A} → x ∷ xs ≡ y ∷ ys → xs ≡ ys
rest_is is = cc

pub none_is_some : {A : Type 0} {x : A} {xs : List A} → [] ≡ x ∷ xs → ⊥
none_is_some is = cc

-- ---- what stands before the first word

-- the marks, with no separator seen before the first word
abbrev pub hide : List Mark → List Mark
hide [] = []
hide (m ∷ ms) = record { apart = false; token = m.token; number = m.number } ∷ ms

hidden_at : (braces : List Bool) (f : Front) (go : List Bool → Front → List Mark) (t : Token) (n : ℕ)
    → go braces edge ≡ hide (go braces (after_separator f)) → mark_at braces edge go t n ≡ hide (mark_at braces f go t n)
hidden_at braces f go token.Separator n behind = behind
hidden_at braces f go t n behind = refl

pub hidden : (braces : List Bool) (f : Front) (ws : List Word) → marks braces edge ws ≡ hide (marks braces f ws)
hidden braces f [] = refl
hidden braces f (w ∷ ws) = hidden_at braces f (λ b g. marks b g ws) w.token w.number (hidden braces (after_separator f) ws)

-- lists that are alike behind anything are alike behind an edge
pub alike_at_edge : (braces : List Bool) (f g : Front) (us vs : List Word) → marks braces f us ≡ marks braces g vs
    → marks braces edge us ≡ marks braces edge vs
alike_at_edge braces f g us vs is = hidden braces f us ∙ ap hide is ∙ sym (hidden braces g vs)

-- the first word behind a separator is apart, but where it ends a block
pub first_apart : (braces : List Bool) (ws : List Word) (m : Mark) (ms : List Mark) → marks braces behind_separator ws ≡ m ∷ ms
    → m.apart ≡ not (ends_block braces m.token)
first_apart braces [] m ms is = absurd (none_is_some is)
first_apart braces (w ∷ ws) m ms is = at w.token w.number (λ b g. marks b g ws) is (first_apart braces ws m ms)
  where
    at : (t : Token) (n : ℕ) (go : List Bool → Front → List Mark) → mark_at braces behind_separator go t n ≡ m ∷ ms
        → (go braces behind_separator ≡ m ∷ ms → m.apart ≡ not (ends_block braces m.token)) → m.apart ≡ not (ends_block braces m.token)
    at token.Separator n go is behind = behind is
    at t n go is behind = let same = sym (first_is is) in ap (λ x. x.apart) same ∙ sym (ap (λ x. not (ends_block braces x.token)) same)

-- ---- from tokens that are the same

-- the marks of tokens with so many regex literals before them
abbrev numbered : ℕ → List Parted → List Mark
numbered n [] = []
numbered n (p ∷ ps) = record { apart = p.apart; token = p.token; number = n } ∷ numbered (length (regex_of p.token) + n) ps

abbrev front_of : Bool → Bool → Front
front_of true seen = edge
front_of false true = behind_separator
front_of false false = inner

same_flag : (at_edge seen ends : Bool) → is_apart (front_of at_edge seen) ends ≡ (seen && (not at_edge && not ends))
same_flag true true ends = refl
same_flag true false ends = refl
same_flag false true ends = refl
same_flag false false ends = refl

next_front : (at_edge seen : Bool) → after_separator (front_of at_edge seen) ≡ front_of at_edge true
next_front true seen = refl
next_front false true = refl
next_front false false = refl

token_front : (t : Token) → after_token t ≡ front_of (is_edge_behind t) false
token_front token.OpenBlock = refl
token_front t = refl

marks_numbered : (braces : List Bool) (at_edge seen : Bool) (n : ℕ) (ts : List Spanned)
    → marks braces (front_of at_edge seen) (words_from n ts) ≡ numbered n (apart_from braces at_edge seen (tokens_in ts))
marks_numbered braces at_edge seen n [] = refl
marks_numbered braces at_edge seen n (t ∷ ts) =
    at t.token (λ b g k. marks b g (words_from k ts)) (λ b e s. apart_from b e s (tokens_in ts)) (λ b e s k. marks_numbered b e s k ts)
  where
    at : (u : Token) (go : List Bool → Front → ℕ → List Mark) (on : List Bool → Bool → Bool → List Parted)
        → ((b : List Bool) (e s : Bool) (k : ℕ) → go b (front_of e s) k ≡ numbered k (on b e s))
        → mark_at braces (front_of at_edge seen) (λ b g. go b g (length (regex_of u) + n)) u n ≡ numbered n (apart_at braces at_edge seen on u)
    at token.Separator go on is =
        let none : length (regex_of token.Separator) + n ≡ n = omega arith in
        (λ i. go braces (next_front at_edge seen i) (none i)) ∙ is braces at_edge true n
    at u go on is =
        (λ i. record { apart = same_flag at_edge seen (ends_block braces u) i; token = u; number = n }
        ∷ go (braces_behind u braces) (token_front u i) (length (regex_of u) + n))
        ∙ ap (λ ms. record { apart = seen && (not at_edge && not (ends_block braces u)); token = u; number = n } ∷ ms)
        (is (braces_behind u braces) (is_edge_behind u) false (length (regex_of u) + n))

pub same_marks : (ts us : List Spanned) → apart (tokens_in us) ≡ apart (tokens_in ts)
    → marks [] edge (words_from 0 us) ≡ marks [] edge (words_from 0 ts)
same_marks ts us is = marks_numbered [] true false 0 us ∙ ap (numbered 0) is ∙ sym (marks_numbered [] true false 0 ts)

-- ---- regex literals

abbrev sources_in : List Parted → List (List ℕ)
sources_in [] = []
sources_in (p ∷ ps) = regex_of p.token ++ sources_in ps

sources_are : (braces : List Bool) (at_edge seen : Bool) (ts : List Spanned)
    → sources_of ts ≡ sources_in (apart_from braces at_edge seen (tokens_in ts))
sources_are braces at_edge seen [] = refl
sources_are braces at_edge seen (t ∷ ts) =
    at t.token (λ b e s. apart_from b e s (tokens_in ts)) (λ b e s. sources_are b e s ts)
  where
    at : (u : Token) (on : List Bool → Bool → Bool → List Parted) → ((b : List Bool) (e s : Bool) → sources_of ts ≡ sources_in (on b e s))
        → regex_of u ++ sources_of ts ≡ sources_in (apart_at braces at_edge seen on u)
    at token.Separator on is = is braces at_edge true
    at u on is = ap (λ x. regex_of u ++ x) (is (braces_behind u braces) (is_edge_behind u) false)

pub same_sources : (ts us : List Spanned) → apart (tokens_in us) ≡ apart (tokens_in ts) → sources_of us ≡ sources_of ts
same_sources ts us is = sources_are [] true false us ∙ ap sources_in is ∙ sym (sources_are [] true false ts)
