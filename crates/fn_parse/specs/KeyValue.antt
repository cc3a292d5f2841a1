-- The fields of a text: a key alone, or a key, a delimiter and a value, which may stand in quotes.
use Rattle.std.specs.Prelude.{ℕ, suc, ◌==◌, Bool, true, ◌||◌, List, [], ◌∷◌, length, take, drop, bytes_eq, Option, Some, None, codes, if◌then◌else◌}
use Rattle.fn_parse.specs.Quotes.{closing_place, unescaped}

-- the text begins with the delimiter
abbrev pub begins : List ℕ → List ℕ → Bool
begins d s = bytes_eq (take (length d) s) d

-- the first place of a text from which on it passes a test; the text's length where there is none
abbrev pub first_place : (List ℕ → Bool) → List ℕ → ℕ
first_place test [] = 0
first_place test (b ∷ s) = if test (b ∷ s) then 0 else suc (first_place test s)

-- ---- a value: its text, and what stands behind it

abbrev pub is_field_end : List ℕ → List ℕ → Bool
is_field_end f [] = true
is_field_end f (b ∷ s) = begins f (b ∷ s)

-- up to the next field delimiter, or the end
abbrev pub plain_value : List ℕ → List ℕ → List ℕ × List ℕ
plain_value f s = let n = first_place (begins f) s in (take n s, drop n s)

-- behind an opening quote: up to the closing one, behind which a field ends; none where it doesn't
abbrev pub quoted_up_to : List ℕ → List ℕ → Option ℕ → Option (List ℕ × List ℕ)
quoted_up_to f s None = None
quoted_up_to f s (Some n) =
    if is_field_end f (drop (suc n) s) then Some (unescaped (take n s), drop (suc n) s) else None

-- behind a key's delimiter; none where its quotes are bad
abbrev pub value_at : List ℕ → List ℕ → Option (List ℕ × List ℕ)
value_at f [] = Some ([], [])
value_at f (b ∷ s) = if b == 0x22 then quoted_up_to f s (closing_place s) else Some (plain_value f (b ∷ s))

-- ---- a field

-- what begins at a place where a field may begin
pub data FieldAt : Type 0 where
  -- a key, the text of its value, where it has one, and what stands behind the field
  entry : List ℕ → Option (List ℕ) → List ℕ → FieldAt
  -- the words of an error
  fault : List ℕ → FieldAt

abbrev pub with_value : List ℕ → Option (List ℕ × List ℕ) → FieldAt
with_value key None = fault (codes "bad quotes")
with_value key (Some v) = entry key (Some v.0) v.1

-- a key, and what stands behind it
abbrev pub with_key : List ℕ → List ℕ → List ℕ → List ℕ → FieldAt
with_key k f [] behind = fault (codes "empty key")
with_key k f (b ∷ key) behind =
    if begins k behind then with_value (b ∷ key) (value_at f (drop (length k) behind)) else entry (b ∷ key) None behind

abbrev pub is_key_end : List ℕ → List ℕ → List ℕ → Bool
is_key_end k f s = begins k s || begins f s

-- A key goes up to the next delimiter of either kind, or the end. Where both begin at one place, it
-- is the one of keys.
abbrev pub field_at : List ℕ → List ℕ → List ℕ → FieldAt
field_at k f s = let n = first_place (is_key_end k f) s in with_key k f (take n s) (drop n s)
