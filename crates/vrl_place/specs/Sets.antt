-- Sets of tags at each path, as a kind allows them, and what is made of them at a step.
use Rattle.std.specs.Prelude.{Bool, ◌||◌, ◌&&◌, not, [], ◌∷◌}
use Rattle.std.specs.Cmp.Lexicographic.{slice_cmp}
use Rattle.std.specs.List.{list_any}
use Rattle.std.specs.Ordering.{nat_cmp, match_ordering}
use Rattle.vrl_value.specs.Look.{Step, field, place}
use Rattle.vrl_value.specs.declared.value.Tag.{Tag}
use Rattle.vrl_value.specs.declared.value.Tag.TheVariants as tag
use Rattle.vrl_kind.specs.Sets.{Sets}
use Rattle.vrl_kind.specs.Tags.{Tags, all_tags, same_tag}

-- what is allowed behind a step
abbrev pub part : Sets → Step → Sets
part A s p = A (s ∷ p)

-- another tag than this is allowed
unfoldable pub has_other : Tags → Tag → Bool
has_other T t = list_any (λ u. T u && not (same_tag u t)) all_tags

-- this tag is allowed, and no other
abbrev pub is_alone : Tags → Tag → Bool
is_alone T t = T t && not (has_other T t)

-- absent beside the tags at the root, if it is wanted
abbrev pub or_absent_if : Bool → Sets → Sets
or_absent_if b A [] t = A [] t || (b && same_tag t tag.Absent)
or_absent_if b A (s ∷ p) t = A (s ∷ p) t

-- the case in which a step t stands to another, s: before it, the same, behind it, or in another container
abbrev pub by_step : {R : Type 0} → Step → Step → R → R → R → R → R
by_step (field l) (field k) before same behind apart = match_ordering (slice_cmp nat_cmp l k) behind same behind
by_step (place j) (place i) before same behind apart = match_ordering (nat_cmp j i) before same behind
by_step (field l) (place i) before same behind apart = apart
by_step (place j) (field k) before same behind apart = apart
