-- Kinds cut down to some tags.
use Rattle.std.specs.Prelude.{Bool, false, ◌&&◌, ◌||◌, ◌≡◌, not, List, [], ◌∷◌, Option, Some, None}
use Rattle.std.specs.List.{list_any}
use Rattle.vrl_value.specs.Look.{Step}
use Rattle.vrl_value.specs.declared.value.Tag.{Tag}
use Rattle.vrl_kind.specs.KindTree.{KindTree}
use Rattle.vrl_kind.specs.Kinds.{step_tag, tags_at}
use Rattle.vrl_kind.specs.Sets.{Sets}
use Rattle.vrl_kind.specs.Tags.{all_tags, same_tag}
use Rattle.vrl_builtin.specs.TagSets.{allows}
use Rattle.vrl_builtin.specs.declared.tags.Tags.{Tags}

-- the tag at the root under which a tag at a path stands
abbrev pub outer_tag : List Step → Tag → Tag
outer_tag [] t = t
outer_tag (step ∷ p) t = step_tag step

-- the kind without the tags at its root that aren't in the set, and without what stands below them
abbrev pub cut_to : Tags → KindTree → Sets
cut_to T K p t = tags_at K p t && allows T (outer_tag p t)

-- the same of some tags alone: one that isn't among them stays, whether it is in the set or not
abbrev pub stays : Tags → List Tag → Tag → Bool
stays T some t = allows T t || not (list_any (λ u. same_tag t u) some)

abbrev pub IsCutBy : Tags → List Tag → KindTree → KindTree → Type 0
IsCutBy T some K L = (p : List Step) (t : Tag) → tags_at L p t ≡ (tags_at K p t && stays T some (outer_tag p t))

-- that of a kind that is given; none where none is
abbrev pub given_cut_to : Tags → Option KindTree → Sets
given_cut_to T None p t = false
given_cut_to T (Some K) p t = cut_to T K p t

-- whether the kind allows another tag
unfoldable pub allows_other : Tag → Option KindTree → Bool
allows_other t None = false
allows_other t (Some K) = list_any (λ u. tags_at K [] u && not (same_tag u t)) all_tags
