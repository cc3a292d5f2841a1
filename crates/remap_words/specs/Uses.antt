-- What each word of the command line is: a name, an option, an option's value, or the end of the
-- options.
use Rattle.std.specs.Prelude.{ℕ, Bool, false, List, [], ◌∷◌, Option, Some, None, ◌==◌, ◌&&◌, ◌||◌, if◌then◌else◌}
use Rattle.std.specs.Prelude.{not, codes, map, option_map}
use Rattle.std.specs.List.{after_first, before_first, list_any}
use Rattle.std.specs.Str.{bytes_eq}

-- what is given by one word, or by two
pub data Use : Type 0 where
  script : List ℕ → Use
  kind : List ℕ → Use
  jobs : List ℕ → Use
  generate : List ℕ → Use
  drop_on_error : Use
  keep_on_abort : Use
  envelope : Use
  check : Use

-- what a word is by itself
pub data Word : Type 0 where
  -- `--`
  last : Word
  -- all of a use
  whole : Use → Word
  -- an option whose value is the next word
  waiting : (List ℕ → Use) → Word
  refused : Word

abbrev pub begins_with_hyphen : List ℕ → Bool
begins_with_hyphen [] = false
begins_with_hyphen (b ∷ bs) = b == 45

abbrev pub is_equals : ℕ → Bool
is_equals b = b == 61

-- what stands behind the first `=`, if there is one
abbrev pub behind_equals : List ℕ → Option (List ℕ)
behind_equals word =
    if list_any is_equals word then Some (after_first is_equals word) else None

-- an option with a value, by what stands behind its `=`
abbrev pub option_with_value : (List ℕ → Use) → Option (List ℕ) → Word
option_with_value given None = waiting given
option_with_value given (Some value) = whole (given value)

-- an option without a value
abbrev pub flag : Use → Option (List ℕ) → Word
flag given None = whole given
flag given (Some value) = refused

-- an option by its spelling, and what stands behind its `=`
abbrev pub option_spelt : List ℕ → Option (List ℕ) → Word
option_spelt spelling value =
    if bytes_eq (codes "--kind") spelling then option_with_value kind value
    else if bytes_eq (codes "--jobs") spelling then option_with_value jobs value
    else if bytes_eq (codes "--generate") spelling then option_with_value generate value
    else if bytes_eq (codes "--drop-on-error") spelling then flag drop_on_error value
    else if bytes_eq (codes "--keep-on-abort") spelling then flag keep_on_abort value
    else if bytes_eq (codes "--envelope") spelling then flag envelope value
    else if bytes_eq (codes "--check") spelling then flag check value
    else refused

-- a word before the first `--`
abbrev pub word_of : List ℕ → Word
word_of word =
    if bytes_eq word (codes "--") then last
    else if begins_with_hyphen word
    then option_spelt (before_first is_equals word) (behind_equals word)
    else whole (script word)

-- the uses of a word and of those behind it, which are read by `next`, where the first of them may
-- be a value
abbrev pub uses_from : Word → List (List ℕ) → (Option (List ℕ → Use) → Option (List Use))
    → Option (List Use)
uses_from last rest next = Some (map script rest)
uses_from (whole given) rest next = option_map (λ others. given ∷ others) (next None)
uses_from (waiting given) rest next = next (Some given)
uses_from refused rest next = None

-- the uses of the words in order, or none where the words are refused; where an option waits, the
-- first word is its value
abbrev pub uses_of : Option (List ℕ → Use) → List (List ℕ) → Option (List Use)
uses_of None [] = Some []
uses_of None (word ∷ rest) = uses_from (word_of word) rest (λ waits. uses_of waits rest)
uses_of (Some given) [] = None
uses_of (Some given) (word ∷ rest) =
    if begins_with_hyphen word then None
    else option_map (λ others. given word ∷ others) (uses_of None rest)

-- a hyphen alone, or before anything but a second one
abbrev pub is_short : List ℕ → Bool
is_short [] = false
is_short (b ∷ bs) = b == 45 && not (begins_with_hyphen bs)

-- whether a word before the first `--` is so
abbrev pub has_short : List (List ℕ) → Bool
has_short [] = false
has_short (word ∷ rest) = if bytes_eq word (codes "--") then false
    else (is_short word || has_short rest)
