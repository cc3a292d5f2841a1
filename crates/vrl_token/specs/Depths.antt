-- Words of the code for how deep tokens are nested; the rules are those of `Nesting`.
use Rattle.std.specs.Prelude.{◌≡◌, ℕ, suc, ◌+◌, ◌-◌, ◌^◌, ◌<◌, if◌then◌else◌, min, Option, Some, None, List, [], ◌∷◌, length, reverse, get_or}
use Rattle.vrl_token.specs.declared.token.Token.{Token}
use Rattle.vrl_token.specs.declared.nesting.Progress.{Progress}
use Rattle.vrl_token.specs.declared.nesting.Stretches.{Stretches}
use Rattle.vrl_token.specs.declared.nesting.Tally.{Tally}
use Rattle.vrl_token.specs.Nesting.{count_in, is_counted, last_nesting, nesting_in, opens, stretches_behind}
use Rattle.vrl_token.specs.Telling.{IsBefore}

-- a number as a word of 64 bits holds it: the largest stands for all that are larger
abbrev pub held : ℕ → ℕ
held n = min n (2 ^ 64 - 1)

-- the numbers of stretches that hold one another, the innermost first
abbrev pub numbers_of : Stretches → List ℕ
numbers_of s = s.innermost ∷ reverse s.around.items

abbrev pub first_of : List ℕ → Option ℕ
first_of [] = None
first_of (n ∷ ns) = Some n

abbrev pub behind_first : List ℕ → List ℕ
behind_first [] = []
behind_first (n ∷ ns) = ns

-- how many levels of the syntax tree a token takes
abbrev pub levels_of : Token → ℕ
levels_of t = if is_counted t then 1 else 0

-- how many counted tokens each stretch has, by the place at which it begins; where none begins the
-- count is 0
pub record AreCounts (tokens : List Token) (counts : List ℕ) : Type 0 where
  pub length_is : length counts ≡ suc (length tokens)
  pub counts_are : (s : ℕ) → s < length counts → get_or counts s 0 ≡ held (count_in s tokens)

-- the counts behind these tokens
pub record IsTally (before : List Token) (tally : Tally) : Type 0 where
  pub stretches_are : numbers_of tally.stretches ≡ stretches_behind before
  pub counts : AreCounts before tally.counts.items

-- the nesting of a stretch with this count, and with this nesting around it
abbrev pub nesting_inside : Option ℕ → ℕ → ℕ
nesting_inside None count = count
nesting_inside (Some around) count = held (held (around + 1) + count)

-- the nesting of a stretch that begins behind the token with this count, from the nestings before
-- the token
abbrev pub nesting_behind : Token → ℕ → List ℕ → ℕ
nesting_behind t count around =
    nesting_inside (if opens t then first_of around else first_of (behind_first around)) count

-- the nestings of stretches that hold one another
abbrev pub nestings_of : List Token → List ℕ → List ℕ
nestings_of all [] = []
nestings_of all (s ∷ rs) = held (nesting_in all (s ∷ rs)) ∷ nestings_of all rs

-- the nestings of the stretches behind these of all the tokens, and what these say
pub record IsProgress (all before : List Token) (progress : Progress) : Type 0 where
  pub nestings_are : numbers_of progress.nestings ≡ nestings_of all (stretches_behind before)
  pub last_is : progress.last ≡ held (last_nesting before)
  pub is_before : IsBefore before progress.before
