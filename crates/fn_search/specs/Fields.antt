-- The fields of a match: what its groups matched, by their names and by their numbers.
use Rattle.std.specs.Prelude.{ℕ, suc, Bool, true, false, ◌&&◌, not, List, [], ◌∷◌, Option, Some, None, bytes_eq, decimal, slice_range, if◌then◌else◌}
use Rattle.std.specs.List.{list_any}
use Rattle.vrl_value.specs.Look.{field, place}
use Rattle.vrl_value.specs.Tree.{Tree, string, null, Members, no_members, put}
use Rattle.vrl_value.specs.declared.value.Tag.TheVariants as tag
use Rattle.vrl_kind.specs.Kinds.{only_at}
use Rattle.vrl_kind.specs.Sets.{Sets}
use Rattle.vrl_kind.specs.Tags.{same_tag}
use Rattle.vrl_builtin.specs.Containers.{either, object_of}

-- the text of a part; null for a group that took no part
abbrev pub text_or_null : List ℕ → Option (ℕ × ℕ) → Tree
text_or_null s None = null
text_or_null s (Some p) = string (slice_range s p.0 p.1)

-- the first group of those that are left, and the others; none where the match has no more
abbrev pub first_group : List (Option (ℕ × ℕ)) → Option (ℕ × ℕ)
first_group [] = None
first_group (g ∷ gs) = g

abbrev pub later_groups : List (Option (ℕ × ℕ)) → List (Option (ℕ × ℕ))
later_groups [] = []
later_groups (g ∷ gs) = gs

-- a group without a name makes no field
abbrev pub with_named : List ℕ → Tree → Members → Members
with_named [] t ms = ms
with_named (b ∷ name) t ms = put (b ∷ name) t ms

-- the i-th name is that of the i-th group; of equal names the later counts
abbrev pub with_names : List (List ℕ) → List ℕ → List (Option (ℕ × ℕ)) → Members → Members
with_names [] s gs ms = ms
with_names (name ∷ names) s gs ms =
    with_names names s (later_groups gs) (with_named name (text_or_null s (first_group gs)) ms)

-- a field for each group by its number, in place of one of that name
abbrev pub with_numbers : ℕ → List ℕ → List (Option (ℕ × ℕ)) → Members → Members
with_numbers n s [] ms = ms
with_numbers n s (g ∷ gs) ms = with_numbers (suc n) s gs (put (decimal n) (text_or_null s g) ms)

abbrev pub with_numbers_if : Bool → List ℕ → List (Option (ℕ × ℕ)) → Members → Members
with_numbers_if true s gs ms = with_numbers 0 s gs ms
with_numbers_if false s gs ms = ms

abbrev pub fields : List (List ℕ) → Bool → List ℕ → List (Option (ℕ × ℕ)) → Members
fields names numbered s gs = with_numbers_if numbered s gs (with_names names s gs no_members)

-- ---- their kind

abbrev pub text_or_null_kind : Sets
text_or_null_kind = either (only_at tag.Text) (only_at tag.Null)

-- whether some group has this name
abbrev pub is_named : List (List ℕ) → List ℕ → Bool
is_named names k = not (bytes_eq k []) && list_any (bytes_eq k) names

abbrev pub absent_kind : Sets
absent_kind [] t = same_tag tag.Absent t
absent_kind (step ∷ p) t = false

-- a text or null in each field that a group names, and no other
abbrev pub named_kind : List (List ℕ) → Sets
named_kind names [] t = same_tag tag.Object t
named_kind names (field k ∷ p) t = if is_named names k then text_or_null_kind p t else absent_kind p t
named_kind names (place i ∷ p) t = false

-- with numbers a text or null in any field
abbrev pub fields_kind : List (List ℕ) → Bool → Sets
fields_kind names true = object_of text_or_null_kind
fields_kind names false = named_kind names
