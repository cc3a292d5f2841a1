-- `keys`: the names of an object's fields.
use Rattle.std.specs.Prelude.{false, [], ◌∷◌, map, codes}
use Rattle.vrl_value.specs.Tree.{Tree, string, array, Members}
use Rattle.vrl_value.specs.View.{items_of_trees}
use Rattle.vrl_value.specs.declared.value.Tag.TheVariants as tag
use Rattle.vrl_kind.specs.Kinds.{only_at}
use Rattle.vrl_builtin.specs.Containers.{array_of}
use Rattle.vrl_builtin.specs.Rows.{Row, value, any_literal, parameter, value_at}
use Rattle.vrl_builtin.specs.TagSets.{objects}
use Rattle.vrl_builtin.specs.Listed.{entries_in, members_in}

-- in the order of their bytes, each name once
abbrev pub keys_of : Members → Tree
keys_of ms = array (items_of_trees (map (λ e. string e.0) (entries_in ms)))

abbrev pub keys_row : Row
keys_row = record {
  name = codes "keys";
  parameters = parameter (codes "value") objects ∷ [];
  accepts = any_literal;
  kind = λ givens sources. array_of (only_at tag.Text);
  may_fail = λ givens. false;
  means = λ arguments setting. value (keys_of (members_in (value_at 0 arguments)));
}
