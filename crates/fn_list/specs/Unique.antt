-- `unique`: the items of an array, the first of equal ones alone.
use Rattle.std.specs.Prelude.{false, List, [], ◌∷◌, codes, if◌then◌else◌}
use Rattle.vrl_value.specs.Tree.{Tree, array}
use Rattle.vrl_value.specs.View.{items_of_trees}
use Rattle.vrl_builtin.specs.Containers.{array_of}
use Rattle.vrl_builtin.specs.Rows.{Row, value, any_literal, kind_at, parameter, value_at}
use Rattle.vrl_builtin.specs.TagSets.{arrays}
use Rattle.vrl_builtin.specs.PartKinds.{array_parts_at}
use Rattle.vrl_builtin.specs.Listed.{list_in}
use Rattle.fn_list.specs.Same.{same}

-- the list without what equals the value
abbrev pub without : Tree → List Tree → List Tree
without v [] = []
without v (t ∷ ts) = if same t v then without v ts else t ∷ without v ts

-- the first of equal elements stays
abbrev pub firsts : List Tree → List Tree
firsts [] = []
firsts (t ∷ ts) = t ∷ without t (firsts ts)

abbrev pub uniques : Tree → Tree
uniques v = array (items_of_trees (firsts (list_in v)))

abbrev pub unique_row : Row
unique_row = record {
  name = codes "unique";
  parameters = parameter (codes "value") arrays ∷ [];
  accepts = any_literal;
  kind = λ givens sources. array_of (array_parts_at (kind_at 0 givens));
  may_fail = λ givens. false;
  means = λ arguments setting. value (uniques (value_at 0 arguments));
}
