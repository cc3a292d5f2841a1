-- `get`: what stands at a path of a value.
use Rattle.std.specs.Prelude.{ℕ, List, [], ◌∷◌, Option, None, codes, unwrap_or}
use Rattle.vrl_value.specs.Tree.{Tree, null}
use Rattle.vrl_kind.specs.Kinds.{any_at}
use Rattle.vrl_path.specs.Read.{read_at}
use Rattle.vrl_path.specs.declared.path.Step.{Step}
use Rattle.vrl_builtin.specs.Rows.{Row, Answer, named, any_literal, kind_at, parameter, value_at}
use Rattle.vrl_builtin.specs.TagSets.{arrays, containers}
use Rattle.vrl_builtin.specs.Words.{first_other}
use Rattle.vrl_builtin.specs.Listed.{items_in, trees_in}
use Rattle.fn_object.specs.Paths.{path_answer, step_tags, steps_of}
use Rattle.vrl_builtin.specs.PartKinds.{part_allows_other}

-- each path of names and places can be read
abbrev pub no_fault : List Step → Option (List ℕ)
no_fault p = None

-- null where nothing stands there
abbrev pub got : Tree → Tree → Answer
got v path = path_answer (first_other step_tags (items_in path)) None
    (unwrap_or (read_at v (steps_of (trees_in (items_in path)))) null)

abbrev pub get_row : Row
get_row = record {
  name = codes "get";
  parameters = parameter (codes "value") containers ∷ parameter (codes "path") arrays ∷ [];
  accepts = any_literal;
  kind = λ givens sources. any_at;
  may_fail = λ givens. part_allows_other step_tags (kind_at 1 givens);
  means = λ arguments setting. named (codes "get") (got (value_at 0 arguments) (value_at 1 arguments));
}
