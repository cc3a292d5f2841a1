-- The malformed regex literals of a text, by their numbers.
use Rattle.std.proofs.Common.{◌≡◌, ◌≢◌, ℕ, suc, ◌+◌, ◌≤◌, Bool, true, false, List, [], ◌∷◌, ◌++◌, length, if◌then◌else◌, refl, sym, ap, ◌∙◌, arith}
use Rattle.vrl_diag.specs.declared.diagnostic.Diagnostic.{Diagnostic}
use Rattle.vrl_diag.specs.declared.diagnostic.Span.{Span}
use Rattle.vrl_token.specs.declared.token.Spanned.{Spanned}
use Rattle.vrl_token.specs.declared.token.Token.{Token}
use Rattle.vrl_token.specs.declared.token.Token.TheVariants as tokens
use Rattle.vrl_parse.specs.Reading.{sources_of}
use Rattle.vrl_word.specs.Words.{regex_of}
use Rattle.vrl_pattern.specs.Malformed.{is_malformed, malformed_from, IsFaultOf}
use Rattle.vrl_pattern.specs.declared.fault.BuildFault.TheVariants.{Malformed}
use Rattle.vrl_compile.specs.Answer.{malformed_at, malformed_literals}

-- each number is at least that of the first source
first_number : (n m : ℕ) (told : Bool) (later rest : List ℕ) → (if told then n ∷ later else later) ≡ m ∷ rest → (later ≡ m ∷ rest → suc n ≤ m) → n ≤ m
first_number n m true later rest is behind = let same : n ≡ m = cc in omega (arith, same)
first_number n m false later rest is behind = let above = behind is in omega (arith, above)

numbers_from : (n m : ℕ) (sources : List (List ℕ)) (rest : List ℕ) → malformed_from n sources ≡ m ∷ rest → n ≤ m
numbers_from n m [] rest is = cc
numbers_from n m (s ∷ ss) rest is = first_number n m (is_malformed s) (malformed_from (suc n) ss) rest is (numbers_from (suc n) m ss rest)

-- a source by itself, and those behind it
pub record IsNext (number : ℕ) (source : List ℕ) (sources : List (List ℕ)) (left : List ℕ) (told : Bool) : Type 0 where
  pub left_is : left ≡ malformed_from (suc number) sources
  pub malformed_is : is_malformed source ≡ told

-- its number comes first: it is malformed
pub next_is : (number first : ℕ) (behind : List ℕ) (source : List ℕ) (sources : List (List ℕ)) → first ∷ behind ≡ malformed_from number (source ∷ sources) → first ≡ number → IsNext number source sources behind true
next_is number first behind source sources is same = by_form (is_malformed source) refl is where
  by_form : (b : Bool) → is_malformed source ≡ b → first ∷ behind ≡ (if b then number ∷ malformed_from (suc number) sources else malformed_from (suc number) sources) → IsNext number source sources behind true
  by_form true told is = record { left_is = cc; malformed_is = told }
  by_form false told is = let later = numbers_from (suc number) first sources behind (sym is) in absurd (omega (arith, later, same))

-- another number comes first, or none: it is well formed
pub other_is : (number : ℕ) (numbers : List ℕ) (source : List ℕ) (sources : List (List ℕ)) → numbers ≡ malformed_from number (source ∷ sources) → ((first : ℕ) (behind : List ℕ) → numbers ≡ first ∷ behind → first ≢ number) → IsNext number source sources numbers false
other_is number numbers source sources is other = by_form (is_malformed source) refl is where
  by_form : (b : Bool) → is_malformed source ≡ b → numbers ≡ (if b then number ∷ malformed_from (suc number) sources else malformed_from (suc number) sources) → IsNext number source sources numbers false
  by_form true told is = absurd (other number _ is refl)
  by_form false told is = record { left_is = is; malformed_is = told }

-- the numbers that are left are those of the literals that are left, and what was found stands before what is told of these
pub record IsToldTo (tokens rest : List Spanned) (number : ℕ) (left : List ℕ) (found : List Diagnostic) : Type 0 where
  pub left_is : left ≡ malformed_from number (sources_of rest)
  pub found_is : found ++ malformed_literals rest ≡ malformed_literals tokens
  pub within : number + length rest ≤ length tokens

-- ---- no number is told where nothing is told of the literals, and nothing of them where no number is

formed_by_numbers : (d : Diagnostic) (n : ℕ) (told : Bool) (later : List ℕ) (ds : List Diagnostic) → (if told then n ∷ later else later) ≡ [] → (later ≡ [] → ds ≡ []) → (if told then d ∷ [] else []) ++ ds ≡ []
formed_by_numbers d n true later ds none behind = cc
formed_by_numbers d n false later ds none behind = behind none

token_by_numbers : (token : Token) (span : Span) (n : ℕ) (ts : List Spanned) → ((m : ℕ) → malformed_from m (sources_of ts) ≡ [] → malformed_literals ts ≡ []) → malformed_from n (regex_of token ++ sources_of ts) ≡ [] → malformed_at span (regex_of token) ++ malformed_literals ts ≡ []
token_by_numbers (tokens.Regex source) span n ts behind none = formed_by_numbers (record { code = 101; span = span }) n (is_malformed source) (malformed_from (suc n) (sources_of ts)) (malformed_literals ts) none (behind (suc n))
token_by_numbers token span n ts behind none = behind n none

literals_by_numbers : (n : ℕ) (ts : List Spanned) → malformed_from n (sources_of ts) ≡ [] → malformed_literals ts ≡ []
literals_by_numbers n [] none = refl
literals_by_numbers n (t ∷ ts) none = token_by_numbers t.token t.span n ts (λ m. literals_by_numbers m ts) none

numbers_by_told : (d : Diagnostic) (n : ℕ) (told : Bool) (later : List ℕ) (ds : List Diagnostic) → (if told then d ∷ [] else []) ++ ds ≡ [] → (ds ≡ [] → later ≡ []) → (if told then n ∷ later else later) ≡ []
numbers_by_told d n true later ds none behind = cc
numbers_by_told d n false later ds none behind = behind none

numbers_by_token : (token : Token) (span : Span) (n : ℕ) (ts : List Spanned) → ((m : ℕ) → malformed_literals ts ≡ [] → malformed_from m (sources_of ts) ≡ []) → malformed_at span (regex_of token) ++ malformed_literals ts ≡ [] → malformed_from n (regex_of token ++ sources_of ts) ≡ []
numbers_by_token (tokens.Regex source) span n ts behind none = numbers_by_told (record { code = 101; span = span }) n (is_malformed source) (malformed_from (suc n) (sources_of ts)) (malformed_literals ts) none (behind (suc n))
numbers_by_token token span n ts behind none = behind n none

numbers_by_literals : (n : ℕ) (ts : List Spanned) → malformed_literals ts ≡ [] → malformed_from n (sources_of ts) ≡ []
numbers_by_literals n [] none = refl
numbers_by_literals n (t ∷ ts) none = numbers_by_token t.token t.span n ts (λ m. numbers_by_literals m ts) none

-- where the sources are well formed nothing is told of the literals
pub all_formed : (ts : List Spanned) (sources : List (List ℕ)) → sources ≡ sources_of ts → malformed_from 0 sources ≡ [] → malformed_literals ts ≡ []
all_formed ts sources are none = literals_by_numbers 0 ts (ap (malformed_from 0) (sym are) ∙ none)

-- and where one isn't something is
pub some_malformed : (ts : List Spanned) (sources : List (List ℕ)) (numbers : List ℕ) (found : List Diagnostic) → sources ≡ sources_of ts → IsFaultOf sources (Malformed numbers) → found ≡ malformed_literals ts → found ≢ []
some_malformed ts sources numbers found are fault told none = fault.1 (fault.0 ∙ ap (malformed_from 0) are ∙ numbers_by_literals 0 ts (sym told ∙ none))
