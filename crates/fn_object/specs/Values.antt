-- `values`: the values of an object's fields.
use Rattle.std.specs.Prelude.{false, [], ◌∷◌, map, codes}
use Rattle.vrl_value.specs.Tree.{Tree, array, Members}
use Rattle.vrl_value.specs.View.{items_of_trees}
use Rattle.vrl_builtin.specs.Containers.{array_of}
use Rattle.vrl_builtin.specs.Rows.{Row, value, any_literal, kind_at, parameter, value_at}
use Rattle.vrl_builtin.specs.TagSets.{objects}
use Rattle.vrl_builtin.specs.PartKinds.{object_parts_at}
use Rattle.vrl_builtin.specs.Listed.{entries_in, members_in}

-- in the order of the names' bytes
abbrev pub values_of : Members → Tree
values_of ms = array (items_of_trees (map (λ e. e.1) (entries_in ms)))

abbrev pub values_row : Row
values_row = record {
  name = codes "values";
  parameters = parameter (codes "value") objects ∷ [];
  accepts = any_literal;
  kind = λ givens sources. array_of (object_parts_at (kind_at 0 givens));
  may_fail = λ givens. false;
  means = λ arguments setting. value (values_of (members_in (value_at 0 arguments)));
}
