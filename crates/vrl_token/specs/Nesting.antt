-- How deep tokens are nested. Tokens are listed from the last one on, so that the tokens before a
-- place are the end of such a list.
use Rattle.std.specs.Prelude.{◌≡◌, ℕ, ◌+◌, ◌*◌, ◌<◌, ◌==◌, ◌⊎◌, Bool, true, false, ◌&&◌, if◌then◌else◌, List, [], ◌∷◌, ◌++◌, length}
use Rattle.vrl_token.specs.declared.token.Token.{Token}
use Rattle.vrl_token.specs.declared.token.Token.TheVariants as token
use Rattle.std.specs.Option.{is_some}
use Rattle.vrl_token.specs.Brackets.{bodies_in, closes, open_behind, opened}

-- the token takes a level of the syntax tree
abbrev pub is_counted : Token → Bool
is_counted token.Assign = true
is_counted token.MergeAssign = true
is_counted token.Coalesce = true
is_counted token.Or = true
is_counted token.And = true
is_counted token.Equal = true
is_counted token.Unequal = true
is_counted token.Less = true
is_counted token.AtMost = true
is_counted token.More = true
is_counted token.AtLeast = true
is_counted token.Merge = true
is_counted token.Plus = true
is_counted token.Minus = true
is_counted token.Times = true
is_counted token.Not = true
is_counted token.Arrow = true
is_counted token.If = true
is_counted token.Return = true
is_counted token.Abort = true
is_counted _ = false

-- without the innermost of several stretches
abbrev pub without_innermost : List ℕ → List ℕ
without_innermost [] = []
without_innermost (s ∷ []) = s ∷ []
without_innermost (s ∷ r ∷ rs) = r ∷ rs

abbrev pub with_innermost : ℕ → List ℕ → List ℕ
with_innermost n [] = []
with_innermost n (s ∷ rs) = n ∷ rs

-- the token opens a bracket, whichever
abbrev pub opens : Token → Bool
opens t = is_some (opened t [])

-- the token stands between two stretches of one level
abbrev pub parts : Token → Bool
parts token.Separator = true
parts token.Comma = true
parts token.Else = true
parts _ = false

-- the stretches behind a token: a bracket begins one inside, a closing bracket goes back to the one
-- around it, and separators, commas and `else` begin one at the same level
abbrev pub stretches_from : Token → ℕ → List ℕ → List ℕ
stretches_from t n around =
    if opens t then n ∷ around else if closes t then without_innermost around
    else if parts t then with_innermost n around else around

-- the stretches that go on behind these tokens, the innermost first; each is named by how many
-- tokens stand before its start
abbrev pub stretches_behind : List Token → List ℕ
stretches_behind [] = 0 ∷ []
stretches_behind (t ∷ ts) = stretches_from t (length (t ∷ ts)) (stretches_behind ts)

abbrev pub is_innermost : ℕ → List ℕ → Bool
is_innermost s [] = false
is_innermost s (r ∷ rs) = s == r

-- how many counted tokens a stretch has by itself, those in brackets inside left out
abbrev pub count_in : ℕ → List Token → ℕ
count_in s [] = 0
count_in s (t ∷ ts) = (if is_counted t && is_innermost s (stretches_behind ts) then 1 else 0) + count_in s ts

-- the nesting of the innermost of stretches that hold one another: its count, and where it stands
-- in a bracket one more and the nesting of the stretch that holds the bracket
abbrev pub nesting_in : List Token → List ℕ → ℕ
nesting_in all [] = 0
nesting_in all (s ∷ []) = count_in s all
nesting_in all (s ∷ r ∷ rs) = count_in s all + (1 + nesting_in all (r ∷ rs))

-- how deep the syntax tree of one token is nested: that of a text with n variables as a pair of
-- brackets with 2n signs `+` in it
abbrev pub own_nesting : Token → ℕ
own_nesting (token.Template first holes) = 1 + 2 * length holes
own_nesting _ = 0

-- the same of the last of the tokens
abbrev pub last_nesting : List Token → ℕ
last_nesting [] = 0
last_nesting (t ∷ ts) = own_nesting t

-- behind these of all the tokens, or in the last one, a nesting is over 64, or more than four
-- bodies of closures are open
abbrev pub IsDeepAt : List Token → List Token → Type 0
IsDeepAt all before =
    (64 < nesting_in all (stretches_behind before) + last_nesting before) ⊎ (4 < bodies_in (open_behind before))

-- at some place tokens are nested too deeply
pub record IsTooDeep (all : List Token) : Type 0 where
  pub before : List Token
  pub behind : List Token
  pub parts_are : all ≡ behind ++ before
  pub deep : IsDeepAt all before
