-- Sets of tags, which are what kinds allow.
use Rattle.std.specs.Prelude.{Bool, true, false, ◌||◌, ◌&&◌, not, List, [], ◌∷◌, IsTrue}
use Rattle.vrl_value.specs.declared.value.Tag.{Tag}
use Rattle.vrl_value.specs.declared.value.Tag.TheVariants as tag

-- a set of tags, by the test of each
abbrev pub Tags : Type 0
Tags = Tag → Bool

-- the eight tags of values, and that nothing is there
abbrev pub all_tags : List Tag
all_tags = tag.Text ∷ tag.Int ∷ tag.Bool ∷ tag.Null ∷ tag.Time ∷ tag.Pattern ∷ tag.List ∷ tag.Object ∷ tag.Absent ∷ []

-- two tags are the same
abbrev pub same_tag : Tag → Tag → Bool
same_tag tag.Text tag.Text = true
same_tag tag.Int tag.Int = true
same_tag tag.Bool tag.Bool = true
same_tag tag.Null tag.Null = true
same_tag tag.Time tag.Time = true
same_tag tag.Pattern tag.Pattern = true
same_tag tag.List tag.List = true
same_tag tag.Object tag.Object = true
same_tag tag.Absent tag.Absent = true
same_tag a b = false

-- no tag
abbrev pub never : Tags
never t = false

-- each tag of a value
abbrev pub any : Tags
any t = not (same_tag t tag.Absent)

-- the tags of JSON
abbrev pub json : Tags
json tag.Text = true
json tag.Int = true
json tag.Bool = true
json tag.Null = true
json tag.Time = false
json tag.Pattern = false
json tag.List = true
json tag.Object = true
json tag.Absent = false

-- one tag alone
abbrev pub only : Tag → Tags
only t = same_tag t

-- the tags of either set
abbrev pub union : Tags → Tags → Tags
union K L t = K t || L t

-- the tags of the set but one
abbrev pub without : Tags → Tag → Tags
without K t u = K u && not (same_tag u t)

-- each tag of the first set is in the second
abbrev pub IsWithin : Tags → Tags → Type 0
IsWithin K L = (t : Tag) → IsTrue (K t) → IsTrue (L t)

-- no tag is in both
abbrev pub IsDisjoint : Tags → Tags → Type 0
IsDisjoint K L = (t : Tag) → IsTrue (K t) → IsTrue (L t) → ⊥
