-- What comes of a value of another tag.
use Rattle.std.specs.Prelude.{◌≡◌, ℕ, List, false}
use Rattle.vrl_value.specs.Tag.{tag_of}
use Rattle.vrl_value.specs.Tree.{Tree}
use Rattle.vrl_value.specs.declared.value.Tag.{Tag}
use Rattle.vrl_kind.specs.Tags.{same_tag}
use Rattle.vrl_builtin.specs.Rows.{failed, named}
use Rattle.vrl_builtin.specs.View.{Applies}
use Rattle.vrl_builtin.specs.Words.{value_is}
use Rattle.vrl_builtin.specs.declared.failing.Applied.{Applied}
use Rattle.fn_type.specs.Only.{only_answer}

pub unless_tagged : (name : List ℕ) (t : Tag) (v : Tree) (r : Applied) → same_tag (tag_of v) t ≡ false → Applies false (failed name (value_is (tag_of v))) r → Applies false (named name (only_answer t v)) r
unless_tagged name t v r other fails = rw other fails
