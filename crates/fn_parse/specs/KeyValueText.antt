-- Key-value text, told by what it is made of: which fields a text has, and nothing of how it is
-- read.
use Rattle.std.specs.Prelude.{◌≡◌, ℕ, ◌==◌, ◌<◌, ◌&&◌, Bool, true, false, List, [], ◌∷◌, ◌++◌, length, Option, Some, None, ⊤}
use Rattle.vrl_value.specs.Tree.{Tree, object, Members, no_members, put}
use Rattle.vrl_builtin.specs.Rows.{value}
use Rattle.fn_parse.specs.KeyValue.{begins, is_field_end, is_key_end}
use Rattle.fn_parse.specs.ParseKeyValue.{field_tree, parsed}
use Rattle.fn_parse.specs.Quotes.{is_mark}

-- keys, each with the text of its value, where it has one
abbrev pub Fields : Type 0
Fields = List (List ℕ × Option (List ℕ))

-- no text that passes the test begins at a place of the front, which stands before the rest
abbrev pub NoneWithin : (List ℕ → Bool) → List ℕ → List ℕ → Type 0
NoneWithin test [] rest = ⊤
NoneWithin test (b ∷ front) rest = (test (b ∷ (front ++ rest)) ≡ false) × NoneWithin test front rest

-- a key isn't empty, and no delimiter begins in it
abbrev pub IsKey : List ℕ → List ℕ → List ℕ → List ℕ → Type 0
IsKey k f key rest = (0 < length key) × NoneWithin (is_key_end k f) key rest

-- in a value without quotes no field delimiter begins, and it doesn't begin with a quote
abbrev pub IsPlain : List ℕ → List ℕ → List ℕ → Type 0
IsPlain f text rest = NoneWithin (begins f) text rest × (begins (0x22 ∷ []) (text ++ rest) ≡ false)

-- a backslash that would take the byte behind it, which at the end is the closing quote
abbrev pub takes_next : ℕ → List ℕ → Bool
takes_next b [] = b == 0x5C
takes_next b (c ∷ inner) = b == 0x5C && is_mark c

-- what stands between quotes, and the text that it stands for
pub data IsWritten : List ℕ → List ℕ → Type 0 where
  no_byte : IsWritten [] []
  quote : {inner text : List ℕ} → IsWritten inner text → IsWritten (0x5C ∷ (0x22 ∷ inner)) (0x22 ∷ text)
  backslash : {inner text : List ℕ} → IsWritten inner text → IsWritten (0x5C ∷ (0x5C ∷ inner)) (0x5C ∷ text)
  byte : {inner text : List ℕ} (b : ℕ) → (b == 0x22) ≡ false → takes_next b inner ≡ false → IsWritten inner text
      → IsWritten (b ∷ inner) (b ∷ text)

-- the fields of a text, in order
pub data HasFields (k f : List ℕ) : List ℕ → Fields → Type 0 where
  no_field : HasFields k f [] []
  delimiter : {s : List ℕ} {es : Fields} → HasFields k f s es → HasFields k f (f ++ s) es
  alone : {s : List ℕ} {es : Fields} (key : List ℕ)
      → IsKey k f key s → begins k s ≡ false → is_field_end f s ≡ true → HasFields k f s es
      → HasFields k f (key ++ s) ((key, None) ∷ es)
  plain : {s : List ℕ} {es : Fields} (key text : List ℕ)
      → IsKey k f key (k ++ (text ++ s)) → IsPlain f text s → is_field_end f s ≡ true → HasFields k f s es
      → HasFields k f (key ++ (k ++ (text ++ s))) ((key, Some text) ∷ es)
  quoted : {s : List ℕ} {es : Fields} (key inner text : List ℕ)
      → IsKey k f key (k ++ (0x22 ∷ (inner ++ (0x22 ∷ s)))) → IsWritten inner text → is_field_end f s ≡ true
      → HasFields k f s es
      → HasFields k f (key ++ (k ++ (0x22 ∷ (inner ++ (0x22 ∷ s))))) ((key, Some text) ∷ es)

-- the members with each field's value at its key, of equal keys the later one's
abbrev pub put_all : Fields → Members → Members
put_all [] ms = ms
put_all (e ∷ es) ms = put_all es (put e.0 (field_tree e.1) ms)

-- a text with these fields is read as their object
abbrev pub FieldsAreRead : Type 0
FieldsAreRead = (k f s : List ℕ) (es : Fields) → 0 < length k → 0 < length f → HasFields k f s es
    → parsed k f s ≡ value (object (put_all es no_members))

-- a text that is read as a value has fields, and the value is their object
abbrev pub OnlyFieldsAreRead : Type 0
OnlyFieldsAreRead = (k f s : List ℕ) (v : Tree) → 0 < length k → 0 < length f → parsed k f s ≡ value v → (es : Fields)
    × HasFields k f s es × (v ≡ object (put_all es no_members))
