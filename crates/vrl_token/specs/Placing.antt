-- Where tokens stand in their text, and which of them have a path with a step.
use Rattle.std.specs.Prelude.{ℕ, ◌-◌, ◌<◌, ◌≤◌, IsCharBoundary, List, [], ◌∷◌, length, map}
use Rattle.vrl_diag.specs.declared.diagnostic.Span.{Span}
use Rattle.vrl_token.specs.declared.token.Hole.{Hole}
use Rattle.vrl_token.specs.declared.token.Spanned.{Spanned}
use Rattle.vrl_token.specs.declared.token.Token.{Token}
use Rattle.vrl_token.specs.declared.token.Token.TheVariants as token

-- how many bytes a script may have
abbrev pub script_limit : ℕ
script_limit = 65536

-- the spans lie between two places one behind another, none over another, and each has a byte
abbrev pub InOrderFrom : ℕ → ℕ → List Span → Type 0
InOrderFrom start stop [] = start ≤ stop
InOrderFrom start stop (s ∷ ss) = (start ≤ s.start) × (s.start < s.«end») × InOrderFrom s.«end» stop ss

-- the span lies in a text of so many bytes; it may be empty
abbrev pub IsWithin : ℕ → Span → Type 0
IsWithin total s = (s.start ≤ s.«end») × (s.«end» ≤ total)

-- a character of the text begins where the span does, and where it ends unless the text ends there
abbrev pub IsOnCharacters : List ℕ → Span → Type 0
IsOnCharacters text s = IsCharBoundary text s.start × IsCharBoundary text s.«end»

abbrev pub spans_of : List Spanned → List Span
spans_of tokens = map (λ t. t.span) tokens

-- the variables stand in the last so many bytes of a text's spelling, one behind another: each has a
-- name, and bytes stand before it and behind it
abbrev pub HolesFit : ℕ → List Hole → Type 0
HolesFit n [] = 0 < n
HolesFit n (h ∷ hs) =
    (h.distance < n) × (0 < length h.name) × (length h.name ≤ h.distance) × HolesFit (h.distance - length h.name) hs

-- the variables of a text stand in its span
abbrev pub HolesStand : Token → Span → Type 0
HolesStand (token.Template before holes) s = HolesFit (s.«end» - s.start) holes
HolesStand _ s = Unit {0}

-- a path directly behind a name or an operand has a step
abbrev pub HasStep : Token → Type 0
HasStep (token.NamePath name path) = 0 < length path
HasStep (token.Suffix path) = 0 < length path
HasStep _ = Unit {0}
