-- What is answered where nothing tells against a path.
use Rattle.std.specs.Prelude.{◌≡◌, ℕ, true, List, Option, None}
use Rattle.vrl_value.specs.Tree.{Tree}
use Rattle.vrl_value.specs.declared.value.Tag.{Tag}
use Rattle.vrl_builtin.specs.Rows.{named, value}
use Rattle.vrl_builtin.specs.View.{Applies}
use Rattle.vrl_builtin.specs.declared.failing.Applied.{Applied}
use Rattle.fn_object.specs.Paths.{is_faultless, path_answer}

pub taken : (name : List ℕ) (other : Option (ℕ × Tag)) (words : Option (List ℕ)) (v : Tree) (result : Applied) →
    other ≡ None → words ≡ None → Applies true (value v) result → Applies (is_faultless other words) (named name (path_answer other words v)) result
taken name other words v result tags faults applied = rw (tags, faults) applied
