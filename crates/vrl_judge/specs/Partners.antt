-- The tags of a kind beside one tag.
use Rattle.std.specs.Prelude.{Bool, ◌&&◌}
use Rattle.vrl_value.specs.declared.value.Tag.{Tag}
use Rattle.vrl_kind.specs.Tags.{Tags, same_tag}

-- one tag, where it is given
abbrev pub only_where : Bool → Tag → Tags
only_where given t u = given && same_tag t u
