-- `compact`: a value without its empty parts.
use Rattle.std.specs.Prelude.{Bool, true, false, List, [], ◌∷◌, codes, if◌then◌else◌}
use Rattle.vrl_value.specs.Tree.{Tree, string, null, array, object, Items, no_items, item, Members, no_members, member}
use Rattle.vrl_builtin.specs.Rows.{Row, value, any_literal, kind_at, parameter, value_at}
use Rattle.vrl_builtin.specs.TagSets.{containers}
use Rattle.vrl_builtin.specs.AnyParts.{any_of, containers_in}

-- null, `""`, `[]` or `{}`
abbrev pub is_hollow : Tree → Bool
is_hollow null = true
is_hollow (string []) = true
is_hollow (array no_items) = true
is_hollow (object no_members) = true
is_hollow v = false

-- a part alone, or none where it is empty
abbrev pub full : Tree → List Tree
full t = if is_hollow t then [] else t ∷ []

-- from the inside out: a part that is empty once its own empty parts are taken away is taken away
-- too
abbrev mutual
  pub compacted : Tree → Tree
  compacted (array ts) = array (compact_items ts)
  compacted (object ms) = object (compact_members ms)
  compacted v = v

  pub compact_items : Items → Items
  compact_items no_items = no_items
  compact_items (item t ts) =
      if is_hollow (compacted t) then compact_items ts else item (compacted t) (compact_items ts)

  pub compact_members : Members → Members
  compact_members no_members = no_members
  compact_members (member k t ms) =
      if is_hollow (compacted t) then compact_members ms else member k (compacted t) (compact_members ms)

abbrev pub compact_row : Row
compact_row = record {
  name = codes "compact";
  parameters = parameter (codes "value") containers ∷ [];
  accepts = any_literal;
  kind = λ givens sources. any_of (containers_in (kind_at 0 givens));
  may_fail = λ givens. false;
  means = λ arguments setting. value (compacted (value_at 0 arguments));
}
