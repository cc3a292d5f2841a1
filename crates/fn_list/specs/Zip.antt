-- `zip`: the items of two arrays in pairs.
use Rattle.std.specs.Prelude.{suc, zero, false, List, [], ◌∷◌, Option, codes}
use Rattle.vrl_value.specs.Look.{field, place}
use Rattle.vrl_value.specs.Tree.{Tree, array, no_items, item}
use Rattle.vrl_value.specs.View.{items_of_trees}
use Rattle.vrl_value.specs.declared.value.Tag.TheVariants as tag
use Rattle.vrl_kind.specs.KindTree.{KindTree}
use Rattle.vrl_kind.specs.Kinds.{never_at, or_absent}
use Rattle.vrl_kind.specs.Sets.{Sets}
use Rattle.vrl_kind.specs.Tags.{same_tag}
use Rattle.vrl_builtin.specs.Containers.{array_of}
use Rattle.vrl_builtin.specs.Rows.{Row, value, any_literal, kind_at, parameter, value_at}
use Rattle.vrl_builtin.specs.TagSets.{arrays}
use Rattle.vrl_builtin.specs.PartKinds.{array_parts_at}
use Rattle.vrl_builtin.specs.Listed.{list_in}

abbrev pub pair_of : Tree → Tree → Tree
pair_of v w = array (item v (item w no_items))

-- the first of each, the second of each, and so on, up to the shorter length
abbrev pub pairs_of : List Tree → List Tree → List Tree
pairs_of [] us = []
pairs_of (t ∷ ts) [] = []
pairs_of (t ∷ ts) (u ∷ us) = pair_of t u ∷ pairs_of ts us

abbrev pub zipped : Tree → Tree → Tree
zipped v w = array (items_of_trees (pairs_of (list_in v) (list_in w)))

-- arrays of two places with these sets, and nothing behind
abbrev pub pair_at : Sets → Sets → Sets
pair_at A B [] t = same_tag tag.List t
pair_at A B (place zero ∷ p) t = A p t
pair_at A B (place (suc zero) ∷ p) t = B p t
pair_at A B (place (suc (suc i)) ∷ p) t = or_absent p (never_at p) t
pair_at A B (field n ∷ p) t = false

abbrev pub zip_kind : Option KindTree → Option KindTree → Sets
zip_kind K L = array_of (pair_at (array_parts_at K) (array_parts_at L))

abbrev pub zip_row : Row
zip_row = record {
  name = codes "zip";
  parameters = parameter (codes "array_0") arrays ∷ parameter (codes "array_1") arrays ∷ [];
  accepts = any_literal;
  kind = λ givens sources. zip_kind (kind_at 0 givens) (kind_at 1 givens);
  may_fail = λ givens. false;
  means = λ arguments setting. value (zipped (value_at 0 arguments) (value_at 1 arguments));
}
