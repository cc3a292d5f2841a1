-- Kinds of arrays and objects of any parts.
use Rattle.std.specs.Prelude.{Option}
use Rattle.vrl_value.specs.declared.value.Tag.TheVariants as tag
use Rattle.vrl_kind.specs.Canonical.{any_kind}
use Rattle.vrl_kind.specs.KindTree.{KindTree}
use Rattle.vrl_kind.specs.Sets.{Sets}
use Rattle.vrl_builtin.specs.CutDown.{cut_to}
use Rattle.vrl_builtin.specs.Rows.{allows_tag}
use Rattle.vrl_builtin.specs.TagSets.{no_tags}
use Rattle.vrl_builtin.specs.declared.tags.Tags.{Tags}

-- every value with one of these tags
abbrev pub any_of : Tags → Sets
any_of T = cut_to T any_kind

-- arrays, where the kind that is given allows them, and objects, where it does
abbrev pub containers_in : Option KindTree → Tags
containers_in K = record no_tags { array = allows_tag tag.List K; object = allows_tag tag.Object K }
