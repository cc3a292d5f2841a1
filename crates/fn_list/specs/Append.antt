-- `append`: the items of an array, and then those of another.
use Rattle.std.specs.Prelude.{false, ◌&&◌, ◌++◌, [], ◌∷◌, Option, Some, None, codes}
use Rattle.vrl_value.specs.Tree.{Tree, array}
use Rattle.vrl_value.specs.View.{items_of_trees}
use Rattle.vrl_kind.specs.Canonical.{list_tree}
use Rattle.vrl_kind.specs.KindTree.{KindTree, ListTree, no_list, list_part, nothing}
use Rattle.vrl_kind.specs.Kinds.{tags_at}
use Rattle.vrl_kind.specs.Make.{array_kind}
use Rattle.vrl_kind.specs.Sets.{Sets}
use Rattle.vrl_builtin.specs.Rows.{Row, value, any_literal, kind_at, parameter, value_at}
use Rattle.vrl_builtin.specs.TagSets.{arrays}
use Rattle.vrl_builtin.specs.PartKinds.{array_parts_at}
use Rattle.vrl_builtin.specs.Listed.{list_in}
use Rattle.fn_list.specs.Sure.{chosen, is_known, placed, then_places, widened}

abbrev pub appended : Tree → Tree → Tree
appended v w = array (items_of_trees (list_in v ++ list_in w))

-- where both lengths are known, the places of the one stand behind those of the other; else they
-- may stand at each place that isn't sure. The last sets are those of the other's parts
abbrev pub appended_at : ListTree → ListTree → Sets → Sets
appended_at (list_part ps r) (list_part qs q) A p t = chosen (is_known ps r && is_known qs q)
    (tags_at (array_kind (then_places ps qs) nothing)) (placed (widened ps r A)) p t
appended_at no_list m A p t = false
appended_at l no_list A p t = false

abbrev pub append_kind : Option KindTree → Option KindTree → Sets
append_kind (Some K) (Some L) p t = appended_at (list_tree K) (list_tree L) (array_parts_at (Some L)) p t
append_kind None L p t = false
append_kind K None p t = false

abbrev pub append_row : Row
append_row = record {
  name = codes "append";
  parameters = parameter (codes "value") arrays ∷ parameter (codes "items") arrays ∷ [];
  accepts = any_literal;
  kind = λ givens sources. append_kind (kind_at 0 givens) (kind_at 1 givens);
  may_fail = λ givens. false;
  means = λ arguments setting. value (appended (value_at 0 arguments) (value_at 1 arguments));
}
