-- Where tokens that are no script go wrong.
use Rattle.std.proofs.Common.{◌≡◌, ◌+◌, ℕ, true, List, [], ◌∷◌, ◌++◌, length, refl, sym, ap, ◌∙◌, subst}
use Rattle.std.proofs.lemmas.List.{append-nil, append_assoc, append_cancel_right}
use Rattle.vrl_syntax.specs.Tree.{Exprs}
use Rattle.vrl_token.specs.TokenList.{TokenList}
use Rattle.vrl_token.specs.declared.token.Spanned.{Spanned}
use Rattle.vrl_token.specs.declared.token.Token.{Token}
use Rattle.vrl_token.specs.declared.token.Token.TheVariants as token
use Rattle.vrl_word.specs.Words.{Word, regex_of, words_from}
use Rattle.vrl_parse.specs.Grammar.{IsScript}
use Rattle.vrl_parse.specs.Descent.{script, program_of, Ending, took, refused, Runs}
use Rattle.vrl_parse.specs.FirstWords.{place_at}
use Rattle.vrl_parse.specs.Reading.{BeginsScript, ErrorPlacesAreDetermined, IsErrorPlace, Reads, at_end, at_token, sources_of}
use Rattle.vrl_parse.proofs.Ahead.{BeginsNone, alike, left, script_goes_no_further}
use Rattle.vrl_parse.proofs.Completions.{ArePlain, CanEnd, is_plain, no_place, script_is_completed, words_at}
use Rattle.vrl_parse.proofs.Spelled.{Front, script_is_spelled}
use Rattle.vrl_parse.proofs.Steps.{word_of, words-behind}

-- ---- words and tokens

-- how many regex literals there are with these tokens, given how many there are before them
abbrev count : ℕ → List Spanned → ℕ
count n [] = n
count n (t ∷ ts) = count (length (regex_of t.token) + n) ts

words_of_both : (n : ℕ) (ts us : List Spanned) → words_from n (ts ++ us) ≡ words_from n ts ++ words_from (count n ts) us
words_of_both n [] us = refl
words_of_both n (t ∷ ts) us = ap (λ ws. word_of t n ∷ ws) (words_of_both (length (regex_of t.token) + n) ts us)

-- tokens that stand nowhere
abbrev unplaced : List Token → List Spanned
unplaced [] = []
unplaced (t ∷ ts) = record { token = t; span = no_place } ∷ unplaced ts

plain_no_regex : (t : Token) → is_plain t ≡ true → regex_of t ≡ []
plain_no_regex (token.Regex s) plain = cc
plain_no_regex t plain = refl

words_unplaced : (n : ℕ) (ts : List Token) → ArePlain ts → words_from n (unplaced ts) ≡ words_at n ts
words_unplaced n [] plain = refl
words_unplaced n (t ∷ ts) plain =
    ap (λ ws. word_of (record { token = t; span = no_place }) n ∷ ws) (words-behind t n (unplaced ts) (plain_no_regex t plain.0) ∙ words_unplaced n ts plain.1)

-- the tokens of the first words, and those of the others
record Parted (n : ℕ) (ts : List Spanned) (us vs : List Word) : Type 0 where
  pub front : List Spanned
  pub behind : List Spanned
  pub parts : ts ≡ front ++ behind
  pub first : words_from n front ≡ us
  pub second : words_from (count n front) behind ≡ vs

parted_behind : (n : ℕ) (t : Spanned) (ts : List Spanned) (u : Word) (us vs : List Word) → word_of t n ≡ u → Parted (length (regex_of t.token) + n) ts us vs → Parted n (t ∷ ts) (u ∷ us) vs
parted_behind n t ts u us vs heads rest = record {
  front = t ∷ rest.front;
  behind = rest.behind;
  parts = ap (λ l. t ∷ l) rest.parts;
  first = ap (λ w. w ∷ words_from (length (regex_of t.token) + n) rest.front) heads ∙ ap (λ l. u ∷ l) rest.first;
  second = rest.second;
}

parted : (n : ℕ) (ts : List Spanned) (us vs : List Word) → words_from n ts ≡ us ++ vs → Parted n ts us vs
parted n ts [] vs same = record { front = []; behind = ts; parts = refl; first = refl; second = same }
parted n [] (u ∷ us) vs same = let nothing : ⊥ = cc in absurd nothing
parted n (t ∷ ts) (u ∷ us) vs same =
    let heads : word_of t n ≡ u = cc in
    let tails : words_from (length (regex_of t.token) + n) ts ≡ us ++ vs = cc in
    parted_behind n t ts u us vs heads (parted (length (regex_of t.token) + n) ts us vs tails)

-- ---- beginnings

-- words that can be completed are those of tokens with which a script begins
begun : (ts : List Spanned) (us : List Word) → words_from 0 ts ≡ us → CanEnd IsScript us → BeginsScript ts
begun ts us same can =
    let end = can (count 0 ts) in
    let more : List Spanned = unplaced end.more in
    let words : words_from 0 (ts ++ more) ≡ us ++ words_at (count 0 ts) end.more =
    words_of_both 0 ts more ∙ ap (λ ws. ws ++ words_from (count 0 ts) more) same ∙ ap (λ ws. us ++ ws) (words_unplaced (count 0 ts) end.more end.plain) in
    record {
      more = more;
      script = record { items = end.answer; patterns = sources_of (ts ++ more) };
      reads = record { items = subst (λ ws. IsScript ws end.answer) (sym words) end.told; patterns = refl };
    }

-- with the next word none begins
not_begun : (ts : List Spanned) (t : Spanned) (us vs : List Word) → words_from 0 ts ≡ us → BeginsNone (word_of t (count 0 ts) ∷ vs) us → ¬ BeginsScript (ts ++ t ∷ [])
not_begun ts t us vs same none begins =
    let n = count 0 ts in
    let behind : List Word = words_from (length (regex_of t.token) + n) begins.more in
    let words : words_from 0 ((ts ++ t ∷ []) ++ begins.more) ≡ us ++ word_of t n ∷ behind =
    ap (words_from 0) (append_assoc ts (t ∷ []) begins.more) ∙ words_of_both 0 ts (t ∷ begins.more) ∙ ap (λ ws. ws ++ word_of t n ∷ behind) same in
    none (word_of t n ∷ behind) begins.script.items alike (subst (λ ws. IsScript ws begins.script.items) words begins.reads.items)

-- ---- the place

placed : (tokens : TokenList) (us vs : List Word) (front behind : List Spanned) → tokens.tokens ≡ front ++ behind → words_from 0 front ≡ us → words_from (count 0 front) behind ≡ vs → CanEnd IsScript us → BeginsNone vs us → IsErrorPlace tokens (place_at vs tokens.«end»)
placed tokens us [] front [] parts first second can none = at_end (begun tokens.tokens us (ap (words_from 0) (parts ∙ append-nil front) ∙ first) can) refl
placed tokens us (w ∷ vs) front [] parts first second can none = let nothing : ⊥ = cc in absurd nothing
placed tokens us [] front (t ∷ behind) parts first second can none = let nothing : ⊥ = cc in absurd nothing
placed tokens us (w ∷ vs) front (t ∷ behind) parts first second can none =
    let word : word_of t (count 0 front) ≡ w = cc in
    at_token front behind t parts (begun front us first can) (not_begun front t us vs first (subst (λ v. BeginsNone (v ∷ vs) us) (sym word) none)) (ap (λ v. v.span) (sym word))

-- what a script took, whether it then ends there or is refused
can_end : {ws : List Word} (o : Ending Exprs) → Runs script (program_of script) ws o → Front ws (left o) (CanEnd IsScript)
can_end (took es vs) run =
    let front = script_is_spelled run in
    record { words = front.words; parts = front.parts; told = λ n. record { more = []; plain = tt; answer = es; told = rw append-nil front.told } }
can_end (refused vs) run = script_is_completed run

pub error_place : (tokens : TokenList) (o : Ending Exprs) → Runs script (program_of script) (words_from 0 tokens.tokens) o → IsErrorPlace tokens (place_at (left o) tokens.«end»)
error_place tokens o run =
    let first = can_end o run in
    let second = script_goes_no_further o run in
    let same : second.words ≡ first.words = append_cancel_right second.words first.words (left o) (sym second.parts ∙ first.parts) in
    let split = parted 0 tokens.tokens first.words (left o) first.parts in
    placed tokens first.words (left o) split.front split.behind split.parts split.first split.second first.told (subst (BeginsNone (left o)) same second.told)

-- ---- there is one

begins_less : (ts us : List Spanned) → BeginsScript (ts ++ us) → BeginsScript ts
begins_less ts us begins =
    record { more = us ++ begins.more; script = begins.script; reads = subst (λ l. Reads l begins.script) (append_assoc ts us begins.more) begins.reads }

-- lists that are divided where a property ends are divided at one element
one_first : (P : List Spanned → Type 0) → ((ts us : List Spanned) → P (ts ++ us) → P ts) → (as_ bs us vs : List Spanned) {s t : Spanned} → as_ ++ s ∷ us ≡ bs ++ t ∷ vs → P as_ → ¬ P (as_ ++ s ∷ []) → P bs → ¬ P (bs ++ t ∷ []) → s ≡ t
one_first P less [] [] us vs same p other q another = cc
one_first P less [] (b ∷ bs) us vs {s = s} same p other q another =
    let heads : b ≡ s = cc in
    absurd (other (subst (λ x. P (x ∷ [])) heads (less (b ∷ []) bs q)))
one_first P less (a ∷ as_) [] us vs {t = t} same p other q another =
    let heads : a ≡ t = cc in
    absurd (another (subst (λ x. P (x ∷ [])) heads (less (a ∷ []) as_ p)))
one_first P less (a ∷ as_) (b ∷ bs) us vs {s = s} {t = t} same p other q another =
    let heads : b ≡ a = cc in
    let tails : as_ ++ s ∷ us ≡ bs ++ t ∷ vs = cc in
    one_first (λ l. P (a ∷ l)) (λ ts ws. less (a ∷ ts) ws) as_ bs us vs tails p other (subst (λ x. P (x ∷ bs)) heads q) (subst (λ x. ¬ P (x ∷ bs ++ t ∷ [])) heads another)

pub one_place : ErrorPlacesAreDetermined
one_place tokens s t (at_token as_ us a parts begins none is) (at_token bs vs b too begins_too none_too also) =
    is ∙ ap (λ x. x.span) (one_first BeginsScript begins_less as_ bs us vs (sym parts ∙ too) begins none begins_too none_too) ∙ sym also
one_place tokens s t (at_token as_ us a parts begins none is) (at_end all also) =
    absurd (none (begins_less (as_ ++ a ∷ []) us (subst BeginsScript (parts ∙ sym (append_assoc as_ (a ∷ []) us)) all)))
one_place tokens s t (at_end all is) (at_token bs us b too begins none also) =
    absurd (none (begins_less (bs ++ b ∷ []) us (subst BeginsScript (too ∙ sym (append_assoc bs (b ∷ []) us)) all)))
one_place tokens s t (at_end all is) (at_end all_too also) = is ∙ sym also
