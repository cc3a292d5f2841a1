-- The names of the capturing groups of a regex, by a scan of its source, one byte after the other.
-- Comments under the flag `x` aren't told apart.
use Rattle.std.specs.Prelude.{ℕ, suc, ◌-◌, ◌==◌, ◌&&◌, not, List, [], ◌∷◌, ◌++◌, if◌then◌else◌}
use Rattle.std.specs.List.{take_while}

-- what stands before a byte
pub data Mode : Type 0 where
  -- so many classes are open
  at : ℕ → Mode
  -- a backslash, with so many open classes
  escaped : ℕ → Mode
  -- the `[` that opened the last of so many classes, and `[^`
  begun : ℕ → Mode
  negated : ℕ → Mode
  -- outside classes a `(`, `(?`, `(?P`, and the start of a name
  parenthesis : Mode
  question : Mode
  letter : Mode
  name : Mode

-- behind a byte that means by itself what it means, with so many open classes before it
abbrev pub behind : ℕ → ℕ → Mode
behind n c =
    if c == 0x5C then escaped n else
    if c == 0x5B then begun (suc n) else
    if c == 0x5D then at (n - 1) else
    if c == 0x28 && n == 0 then parenthesis else at n

-- A `]` directly behind `[` or `[^` is a plain character.
abbrev pub next : Mode → ℕ → Mode
next (at n) c = behind n c
next (escaped n) c = at n
next (begun n) c = if c == 0x5E then negated n else if c == 0x5D then at n else behind n c
next (negated n) c = if c == 0x5D then at n else behind n c
next parenthesis c = if c == 0x3F then question else behind 0 c
next question c = if c == 0x50 then letter else if c == 0x3C then name else behind 0 c
next letter c = if c == 0x3C then name else behind 0 c
next name c = if c == 0x3E then at 0 else name

-- the name that begins here, which goes up to `>` or the end of the source
abbrev pub name_of : List ℕ → List ℕ
name_of s = take_while (λ c. not (c == 0x3E)) s

-- The name of the group that a byte opens, where it opens one: `(` without `?` behind it one
-- without a name, `(?<` and `(?P<` one with a name, and any other `(?` none.
abbrev pub opened : Mode → ℕ → List ℕ → List (List ℕ)
opened parenthesis c s = if c == 0x3F then [] else [] ∷ []
opened question c s = if c == 0x3C then name_of s ∷ [] else []
opened letter c s = if c == 0x3C then name_of s ∷ [] else []
opened _ c s = []

-- the names of the groups that the rest of a source opens
unfoldable pub names_from : Mode → List ℕ → List (List ℕ)
names_from parenthesis [] = [] ∷ []
names_from m [] = []
names_from m (c ∷ s) = opened m c s ++ names_from (next m c) s

-- one entry for each group, from group 0 on, which is the whole match; empty for a group without a
-- name
abbrev pub groups_of : List ℕ → List (List ℕ)
groups_of source = [] ∷ names_from (at 0) source
