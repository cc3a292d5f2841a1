-- `remove`: a value without what stands at a path.
use Rattle.std.specs.Prelude.{true, [], ◌∷◌, codes}
use Rattle.vrl_value.specs.Tree.{Tree}
use Rattle.vrl_path.specs.Trees.{remove_tree}
use Rattle.vrl_builtin.specs.Rows.{Row, Answer, named, any_literal, kind_at, parameter, value_at}
use Rattle.vrl_builtin.specs.TagSets.{arrays, containers}
use Rattle.vrl_builtin.specs.Words.{first_other}
use Rattle.vrl_builtin.specs.Listed.{items_in, trees_in}
use Rattle.vrl_builtin.specs.AnyParts.{any_of, containers_in}
use Rattle.fn_object.specs.Paths.{path_answer, removal_fault, step_tags, steps_of}

-- what `remove_tree` of vrl_path gives, which is told by look-up at every path
abbrev pub removed_at : Tree → Tree → Answer
removed_at v path = let p = steps_of (trees_in (items_in path)) in path_answer (first_other step_tags (items_in path))
    (removal_fault p) (remove_tree v p)

abbrev pub remove_row : Row
remove_row = record {
  name = codes "remove";
  parameters = parameter (codes "value") containers ∷ parameter (codes "path") arrays ∷ [];
  accepts = any_literal;
  kind = λ givens sources. any_of (containers_in (kind_at 0 givens));
  may_fail = λ givens. true;
  means = λ arguments setting. named (codes "remove") (removed_at (value_at 0 arguments) (value_at 1 arguments));
}
