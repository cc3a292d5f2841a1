-- `push`: an array with one value more at its end.
use Rattle.std.specs.Prelude.{false, ◌++◌, [], ◌∷◌, Option, Some, None, codes}
use Rattle.vrl_value.specs.Tree.{Tree, array}
use Rattle.vrl_value.specs.View.{items_of_trees}
use Rattle.vrl_kind.specs.Canonical.{list_tree}
use Rattle.vrl_kind.specs.KindTree.{KindTree, ListTree, no_list, list_part, nothing, no_places, known_place}
use Rattle.vrl_kind.specs.Kinds.{tags_at}
use Rattle.vrl_kind.specs.Make.{array_kind}
use Rattle.vrl_kind.specs.Sets.{Sets}
use Rattle.vrl_builtin.specs.Rows.{Row, value, any_literal, kind_at, parameter, value_at}
use Rattle.vrl_builtin.specs.TagSets.{any_tags, arrays}
use Rattle.vrl_builtin.specs.Listed.{list_in}
use Rattle.fn_list.specs.Sure.{chosen, is_known, placed, then_places, widened}

abbrev pub pushed : Tree → Tree → Tree
pushed v w = array (items_of_trees (list_in v ++ w ∷ []))

-- where the length is known, the new value stands at the next place; else it may stand at each
-- place that isn't sure
abbrev pub pushed_at : ListTree → KindTree → Sets
pushed_at no_list K p t = false
pushed_at (list_part ps r) K p t = chosen (is_known ps r)
    (tags_at (array_kind (then_places ps (known_place K no_places)) nothing)) (placed (widened ps r (tags_at K))) p t

abbrev pub push_kind : Option KindTree → Option KindTree → Sets
push_kind (Some K) (Some L) p t = pushed_at (list_tree K) L p t
push_kind None L p t = false
push_kind K None p t = false

abbrev pub push_row : Row
push_row = record {
  name = codes "push";
  parameters = parameter (codes "value") arrays ∷ parameter (codes "item") any_tags ∷ [];
  accepts = any_literal;
  kind = λ givens sources. push_kind (kind_at 0 givens) (kind_at 1 givens);
  may_fail = λ givens. false;
  means = λ arguments setting. value (pushed (value_at 0 arguments) (value_at 1 arguments));
}
