-- Kinds of collections whose parts are changed: by a filter, or by values that are put in their
-- places. No public function cites these.
use Rattle.std.specs.Prelude.{◌≡◌, ◌&&◌, ℕ, List, [], ◌∷◌}
use Rattle.std.specs.Cmp.Lexicographic.{slice_cmp}
use Rattle.std.specs.List.{AllZip}
use Rattle.std.specs.Ordering.{nat_cmp, match_ordering}
use Rattle.vrl_value.specs.Look.{Step, field, place}
use Rattle.vrl_value.specs.declared.value.Tag.{Tag}
use Rattle.vrl_value.specs.declared.value.Tag.TheVariants as tag
use Rattle.vrl_kind.specs.KindTree.{KindTree}
use Rattle.vrl_kind.specs.Kinds.{fields_at, or_absent, root_tags, tags_at}
use Rattle.vrl_kind.specs.Make.{named_view}
use Rattle.vrl_kind.specs.PartSets.{parts_at}
use Rattle.vrl_kind.specs.Sets.{Sets, SameSets}
use Rattle.vrl_kind.specs.Tags.{Tags}
use Rattle.vrl_kind.specs.declared.kind.KindField.{KindField}
use Rattle.vrl_builtin.specs.PartKinds.{arrays_alone}
use Rattle.vrl_judge.specs.Closures.{mapped_part}

-- C with these sets in place of what stands at its places
abbrev pub with_places : KindTree → (ℕ → Sets) → Sets
with_places C S [] t = root_tags C t
with_places C S (place i ∷ p) t = root_tags C tag.List && S i p t
with_places C S (field n ∷ p) t = tags_at C (field n ∷ p) t

-- what a filter leaves at a place
abbrev pub kept_place : KindTree → ℕ → Sets
kept_place C i p t = or_absent p (parts_at (arrays_alone C) p) t

-- what it leaves of a field of this kind
abbrev pub kept_field : KindTree → Sets
kept_field F p = or_absent p (tags_at F p)

-- what stands at a place where values of the kind K are put
abbrev pub put_place : KindTree → KindTree → ℕ → Sets
put_place C K i = mapped_part (tags_at C (place i ∷ [])) K

-- what stands where such a value is put in place of a part of this kind
abbrev pub put_part : KindTree → KindTree → Sets
put_part K F = mapped_part (root_tags F) K

-- what the fields allow at a name, where f is made of the kind of each, or T
abbrev pub fields_made : (KindTree → Sets) → List KindField → List ℕ → List Step → Tags → Tags
fields_made f [] n p T = T
fields_made f (g ∷ fs) n p T =
    match_ordering (slice_cmp nat_cmp n g.name) (fields_made f fs n p T) (f g.kind p) (fields_made f fs n p T)

-- f is made of the kind of each field
pub record AreFieldsMade (f : KindTree → Sets) (fs : List KindField) (named : List (List ℕ × KindTree)) : Type 0 where
  pub at : (n : List ℕ) (p : List Step) (T : Tags) (t : Tag)
      → fields_at (named_view named) n p T t ≡ fields_made f fs n p T t

-- f is made of the kind of each place
abbrev pub ArePlacesMade : (KindTree → Sets) → List KindTree → List KindTree → Type 0
ArePlacesMade f Ks Ls = AllZip (λ K L. SameSets (tags_at L) (f K)) Ks Ls
