-- `merge`: the fields of two objects.
use Rattle.std.specs.Prelude.{ℕ, Bool, true, false, ◌&&◌, List, [], ◌∷◌, Option, Some, None, codes, if◌then◌else◌}
use Rattle.vrl_value.specs.Parts.{replace}
use Rattle.vrl_value.specs.Tree.{Tree, boolean, object, Members, no_members, member, find, put, put_all}
use Rattle.vrl_value.specs.declared.value.Tag.TheVariants as tag
use Rattle.vrl_kind.specs.KindTree.{KindTree}
use Rattle.vrl_kind.specs.Kinds.{tags_at}
use Rattle.vrl_kind.specs.Overlay.{overlaid_at}
use Rattle.vrl_kind.specs.Sets.{Sets}
use Rattle.vrl_builtin.specs.Rows.{Row, value, any_literal, boolean_at, kind_at, literal_at, optional_parameter, parameter, value_at}
use Rattle.vrl_builtin.specs.TagSets.{booleans, objects}
use Rattle.vrl_builtin.specs.Listed.{members_in}
use Rattle.vrl_builtin.specs.AnyParts.{any_of}

-- the members with what is made of the value at a name, or with another value there where none is
abbrev pub changed : List ℕ → Option Tree → (Tree → Tree) → Tree → Members → Members
changed k None over t ms = put k t ms
changed k (Some u) over t ms = replace k (over u) ms

-- the members with others put among them, but that two objects under one name are put together in
-- the same way
abbrev mutual
  pub laid_over : Tree → Tree → Tree
  laid_over (object ns) (object ms) = object (lay_all ns ms)
  laid_over t u = t

  pub lay_all : Members → Members → Members
  lay_all no_members ms = ms
  lay_all (member k t ns) ms = lay_all ns (changed k (find k ms) (laid_over t) t ms)

abbrev pub merged : Bool → Tree → Tree → Tree
merged deep v w =
    if deep then object (lay_all (members_in w) (members_in v)) else object (put_all (members_in w) (members_in v))

-- it isn't given, or is the literal false
abbrev pub is_shallow : Option KindTree → Option Tree → Bool
is_shallow K (Some (boolean false)) = true
is_shallow None None = true
is_shallow K literal = false

-- the kind of `|`
abbrev pub overlaid_kind : Option KindTree → Option KindTree → Sets
overlaid_kind (Some K) (Some L) p t = tags_at K [] tag.Object && (tags_at L [] tag.Object && overlaid_at K L p t)
overlaid_kind None L p t = false
overlaid_kind K None p t = false

abbrev pub merge_kind : Bool → Option KindTree → Option KindTree → Sets
merge_kind true K L = overlaid_kind K L
merge_kind false K L = any_of objects

abbrev pub merge_row : Row
merge_row = record {
  name = codes "merge";
  parameters = parameter (codes "to") objects ∷ parameter (codes "from") objects ∷ optional_parameter
      (codes "deep") booleans ∷ [];
  accepts = any_literal;
  kind = λ givens sources. merge_kind (is_shallow (kind_at 2 givens) (literal_at 2 givens)) (kind_at 0 givens)
      (kind_at 1 givens);
  may_fail = λ givens. false;
  means =
      λ arguments setting. value (merged (boolean_at 2 false arguments) (value_at 0 arguments) (value_at 1 arguments));
}
