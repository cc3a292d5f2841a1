-- Kinds in text.
use Rattle.std.specs.Prelude.{Bool, true, false, ◌&&◌, not, ℕ, ◌++◌, List, [], ◌∷◌, codes, if◌then◌else◌}
use Rattle.vrl_kind.specs.KindTree.{KindTree, kind, ListTree, no_list, list_part, ObjectTree, no_object, object_part, RestTree, nothing, json_rest, any_rest, exact, Places, no_places, known_place, KnownFields, no_fields, known_field}
use Rattle.vrl_kind.specs.Canonical.{allows_absent}
use Rattle.json.specs.Print.{quoted}
use Rattle.vrl_value.specs.Tag.{word_of}
use Rattle.vrl_value.specs.declared.value.Tag.TheVariants as tag
use Rattle.vrl_kind.specs.declared.scalars.Scalars.{Scalars}

-- the words with this between any two
abbrev pub separated : List ℕ → List (List ℕ) → List ℕ
separated by [] = []
separated by (w ∷ []) = w
separated by (w ∷ v ∷ ws) = w ++ by ++ separated by (v ∷ ws)

-- the word, if it is wanted, before the others
abbrev pub word_if : Bool → List ℕ → List (List ℕ) → List (List ℕ)
word_if true w ws = w ∷ ws
word_if false w ws = ws

abbrev pub scalar_words : Scalars → List (List ℕ) → List (List ℕ)
scalar_words s ws =
    word_if s.string (word_of tag.Text)
    (word_if s.integer (word_of tag.Int)
    (word_if s.boolean (word_of tag.Bool)
    (word_if s.null (word_of tag.Null)
    (word_if s.timestamp (word_of tag.Time) (word_if s.regex (word_of tag.Pattern) ws)))))

-- no tag at all but absent
abbrev pub is_never : KindTree → Bool
is_never (kind s no_list no_object) =
    not s.string && not s.integer && not s.boolean && not s.null && not s.timestamp && not s.regex
is_never (kind s no_list (object_part fs r)) = false
is_never (kind s (list_part ps r) o) = false

abbrev pub is_rest : RestTree → RestTree → Bool
is_rest json_rest json_rest = true
is_rest any_rest any_rest = true
is_rest r q = false

-- arrays and objects of which nothing but this rest is known
abbrev pub has_rests : RestTree → ListTree → ObjectTree → Bool
has_rests r (list_part no_places q) (object_part no_fields p) = is_rest r q && is_rest r p
has_rests r l o = false

-- what JSON can hold
abbrev pub is_json_kind : KindTree → Bool
is_json_kind (kind s l o) =
    s.string && s.integer && s.boolean && s.null && not s.timestamp && not s.regex && has_rests json_rest l o

-- every value
abbrev pub is_any_kind : KindTree → Bool
is_any_kind (kind s l o) =
    s.string && s.integer && s.boolean && s.null && s.timestamp && s.regex && has_rests any_rest l o

-- the word for the whole kind, where it has one, or else the text of its parts
abbrev pub named_or : KindTree → List ℕ → List ℕ
named_or k text =
    if is_never k then codes "never"
    else if is_any_kind k then codes "any"
    else if is_json_kind k then codes "json"
    else text

abbrev pub absent_mark : KindTree → List ℕ
absent_mark k = if allows_absent k then codes "?" else []

-- a kind without absent. Of an array the places, of an object the fields by their keys, then the
-- rest if there is one
abbrev mutual
  pub printed : KindTree → List ℕ
  printed (kind s l o) = named_or (kind s l o) (separated (codes "|") (scalar_words s (list_words l (object_words o))))

  pub list_words : ListTree → List (List ℕ) → List (List ℕ)
  list_words no_list ws = ws
  list_words (list_part ps r) ws = (91 ∷ (separated (codes ", ") (place_words ps (rest_words r)) ++ 93 ∷ [])) ∷ ws

  pub object_words : ObjectTree → List (List ℕ)
  object_words no_object = []
  object_words (object_part fs r) = (123 ∷ (separated (codes ", ") (field_words fs (rest_words r)) ++ 125 ∷ [])) ∷ []

  pub place_words : Places → List (List ℕ) → List (List ℕ)
  place_words no_places ws = ws
  place_words (known_place k ps) ws = (absent_mark k ++ printed k) ∷ place_words ps ws

  pub field_words : KnownFields → List (List ℕ) → List (List ℕ)
  field_words no_fields ws = ws
  field_words (known_field n k fs) ws = (quoted n ++ (absent_mark k ++ (codes ": " ++ printed k))) ∷ field_words fs ws

  pub rest_words : RestTree → List (List ℕ)
  rest_words nothing = []
  rest_words json_rest = codes "..json" ∷ []
  rest_words any_rest = codes "..any" ∷ []
  rest_words (exact k) = (codes ".." ++ printed k) ∷ []
