-- From tokens to what single words say.
use Rattle.std.proofs.Common.{◌≡◌, ◌+◌, ℕ, Bool, IsTrue, List, [], ◌∷◌, Some, length, refl, sym, subst, ap, ◌∙◌, zero-add}
use Rattle.vrl_value.specs.Tree.{Tree, string}
use Rattle.vrl_diag.specs.declared.diagnostic.Span.{Span}
use Rattle.vrl_path.specs.declared.path.Step.{Step}
use Rattle.vrl_syntax.specs.Tree.{Expr}
use Rattle.vrl_syntax.specs.declared.root.Op.{Op}
use Rattle.vrl_syntax.specs.declared.root.Root.{Root}
use Rattle.vrl_syntax.specs.declared.root.Target.{Target}
use Rattle.vrl_token.specs.declared.token.Spanned.{Spanned}
use Rattle.vrl_token.specs.declared.token.Token.{Token}
use Rattle.vrl_token.specs.declared.token.Token.TheVariants as token
use Rattle.vrl_word.specs.declared.sign.Sign.{Sign}
use Rattle.vrl_word.specs.declared.sign.Sign.TheVariants as sign
use Rattle.vrl_parse.specs.Descent.{Piece, Said, Says, Takes, takes}
use Rattle.vrl_parse.specs.FirstWords.{Holds}
use Rattle.vrl_word.specs.Signs.{token_of}
use Rattle.vrl_word.specs.Words.{Word, function_of, is_copied, literal_at, operator_of, path_of, regex_of, target_at, template_at, words_from}

-- the word of a token that has so many regex literals before it
abbrev pub word_of : Spanned → ℕ → Word
word_of t n = record { token = t.token; span = t.span; number = n }

pub words-behind : (t : Token) (n : ℕ) (ts : List Spanned) → regex_of t ≡ [] → words_from (length (regex_of t) + n) ts ≡ words_from n ts
words-behind t n ts none = ap (λ k. words_from k ts) (ap (λ s. length s + n) none ∙ zero-add n)

-- the first token says so, and no regex literal is taken
pub takes_first : {all ts : List Spanned} {t : Spanned} (n : ℕ) (k : Piece) (v : Said k)
    → all ≡ t ∷ ts → regex_of t.token ≡ [] → Says k (word_of t n) v → Takes k (words_from n all) v t.span (words_from n ts)
takes_first {all} {ts} {t} n k v split none says =
    subst (λ l. Takes k (words_from n l) v t.span (words_from n ts)) (sym split)
    (subst (λ ws. Takes k (word_of t n ∷ words_from (length (regex_of t.token) + n) ts) v t.span ws) (words-behind t.token n ts none) (takes v says))

-- the same of a word that may be a regex literal
pub takes_counted : {all ts : List Spanned} {t : Spanned} (n : ℕ) {m : ℕ} (k : Piece) (v : Said k)
    → all ≡ t ∷ ts → m ≡ length (regex_of t.token) + n → Says k (word_of t n) v → Takes k (words_from n all) v t.span (words_from m ts)
takes_counted {all} {ts} {t} n {m} k v split count says =
    subst (λ l. Takes k (words_from n l) v t.span (words_from m ts)) (sym split)
    (subst (λ i. Takes k (words_from n (t ∷ ts)) v t.span (words_from i ts)) (sym count) (takes v says))

-- the first token says so
pub holds_first : {all ts : List Spanned} {t : Spanned} (n : ℕ) (k : Piece) (v : Said k) → all ≡ t ∷ ts → Says k (word_of t n) v → Holds k (words_from n all)
holds_first n k v split says = subst (λ l. Holds k (words_from n l)) (sym split) (v, says)

-- a literal that is copied says its text
pub copied_says : (t : Token) (n : ℕ) → IsTrue (is_copied t) → (v : Tree) × (literal_at t n ≡ Some v)
copied_says (token.Text s) n copied = (string s, refl)
copied_says (token.RawText s) n copied = (string s, refl)
copied_says t n copied = let wrong : ⊥ = cc in absurd wrong

-- ---- words that are no regex literals

pub regex_of-operator : (t : Token) {x : ℕ × Op} → operator_of t ≡ Some x → regex_of t ≡ []
regex_of-operator (token.Regex s) says = cc
regex_of-operator t says = refl

pub regex_of-function : (t : Token) {x : List ℕ × Bool} → function_of t ≡ Some x → regex_of t ≡ []
regex_of-function (token.Regex s) says = cc
regex_of-function t says = refl

pub regex_of-path : (t : Token) {x : Root × List Step} → path_of t ≡ Some x → regex_of t ≡ []
regex_of-path (token.Regex s) says = cc
regex_of-path t says = refl

pub regex_of-target : (t : Token) (s : Span) {x : Target} → target_at t s ≡ Some x → regex_of t ≡ []
regex_of-target (token.Regex s) span says = cc
regex_of-target t span says = refl

pub regex_of-template : (t : Token) (s : Span) {e : Expr} → template_at t s ≡ Some e → regex_of t ≡ []
regex_of-template (token.Regex s) span says = cc
regex_of-template t span says = refl

-- ---- signs

pub regex_of-sign : (s : Sign) → regex_of (token_of s) ≡ []
regex_of-sign sign.If = refl
regex_of-sign sign.Else = refl
regex_of-sign sign.Abort = refl
regex_of-sign sign.Return = refl
regex_of-sign sign.Assign = refl
regex_of-sign sign.MergeAssign = refl
regex_of-sign sign.Not = refl
regex_of-sign sign.OpenParenthesis = refl
regex_of-sign sign.CloseParenthesis = refl
regex_of-sign sign.OpenBracket = refl
regex_of-sign sign.CloseBracket = refl
regex_of-sign sign.OpenBlock = refl
regex_of-sign sign.OpenObject = refl
regex_of-sign sign.CloseBrace = refl
regex_of-sign sign.OpenBars = refl
regex_of-sign sign.CloseBars = refl
regex_of-sign sign.Comma = refl
regex_of-sign sign.Colon = refl
regex_of-sign sign.Arrow = refl
regex_of-sign sign.Separator = refl
