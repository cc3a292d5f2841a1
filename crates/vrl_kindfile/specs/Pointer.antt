-- The text of a path into a JSON value, as the JSON Pointer (RFC 6901, sections 3 and 4) spells it.
use Rattle.std.specs.Prelude.{ℕ, List, [], ◌∷◌, ◌++◌, ◌==◌, chars, codes, decimal, encode_utf8_all, if◌then◌else◌}
use Rattle.std.specs.List.{flat_map}
use Rattle.vrl_value.specs.Look.{Step, field, place}

-- a character of a name: `~` is `~0`, and `/` is `~1`
abbrev pub escaped : ℕ → List ℕ
escaped c = if c == 126 then codes "~0" else if c == 47 then codes "~1" else c ∷ []

-- a name with these spellings
abbrev pub name_text : List ℕ → List ℕ
name_text name = encode_utf8_all (flat_map escaped (chars name))

abbrev pub step_text : Step → List ℕ
step_text (field name) = name_text name
step_text (place i) = decimal i

-- each step behind a `/`; the root's pointer is empty
abbrev pub pointer_of : List Step → List ℕ
pointer_of [] = []
pointer_of (s ∷ p) = 47 ∷ (step_text s ++ pointer_of p)
