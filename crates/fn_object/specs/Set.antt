-- `set`: a value with another one at a path.
use Rattle.std.specs.Prelude.{true, [], ◌∷◌, codes}
use Rattle.vrl_value.specs.Tree.{Tree}
use Rattle.vrl_path.specs.Trees.{set_tree}
use Rattle.vrl_builtin.specs.Rows.{Row, Answer, named, any_literal, parameter, value_at}
use Rattle.vrl_builtin.specs.TagSets.{any_tags, arrays, containers}
use Rattle.vrl_builtin.specs.Words.{first_other}
use Rattle.vrl_builtin.specs.Listed.{items_in, trees_in}
use Rattle.vrl_builtin.specs.AnyParts.{any_of}
use Rattle.fn_object.specs.Paths.{path_answer, step_tags, steps_of, write_fault}

-- what `set_tree` of vrl_path gives, which is told by look-up at every path
abbrev pub set_at : Tree → Tree → Tree → Answer
set_at v path new = let p = steps_of (trees_in (items_in path)) in path_answer (first_other step_tags (items_in path))
    (write_fault p) (set_tree v p new)

abbrev pub set_row : Row
set_row = record {
  name = codes "set";
  parameters =
      parameter (codes "value") containers ∷ parameter (codes "path") arrays ∷ parameter (codes "data") any_tags ∷ [];
  accepts = any_literal;
  kind = λ givens sources. any_of containers;
  may_fail = λ givens. true;
  means = λ arguments setting. named (codes "set")
      (set_at (value_at 0 arguments) (value_at 1 arguments) (value_at 2 arguments));
}
