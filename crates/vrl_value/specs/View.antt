-- The tree that a `Value` stands for.
use Rattle.std.specs.Prelude.{List, [], ◌∷◌, map, String, string_bytes}
use Rattle.std.specs.declared.alloc.Global.{Global}
use Rattle.vrl_value.specs.Tree.{Tree, string, integer, boolean, null, timestamp, regex, array, object, Items, no_items, item, Members, no_members, member}
use Rattle.vrl_value.specs.declared.value.Value.{Value}
use Rattle.vrl_value.specs.declared.value.Items.{Items as CodeItems}
use Rattle.vrl_value.specs.declared.value.Fields.{Fields}
use Rattle.vrl_value.specs.declared.value.Value.TheFolds.{fold-Value, fold-Items, fold-Fields}
use Rattle.vrl_value.specs.declared.value.Value.TheOpen.{Value-F, Items-F, Fields-F}

abbrev pub items_of_trees : List Tree → Items
items_of_trees [] = no_items
items_of_trees (t ∷ ts) = item t (items_of_trees ts)

abbrev pub members_of_trees : List (String Global × Tree) → Members
members_of_trees [] = no_members
members_of_trees (p ∷ ps) = member (string_bytes p.0) p.1 (members_of_trees ps)

-- one level, with what stands inside already seen as trees
abbrev pub value_step : Value-F Tree Members Items → Tree
value_step (Value-F.Text chars) = string chars
value_step (Value-F.Int n) = integer n
value_step (Value-F.Bool b) = boolean b
value_step Value-F.Null = null
value_step (Value-F.Time moment) = timestamp moment
value_step (Value-F.Pattern n) = regex n
value_step (Value-F.List items) = array items
value_step (Value-F.Object fields) = object fields

abbrev pub fields_step : Fields-F Tree Members Items → Members
fields_step fields = members_of_trees fields.map.entries

abbrev pub items_step : Items-F Tree Members Items → Items
items_step items = items_of_trees items.items.items

-- the value as a tree
abbrev pub tree_of : Value → Tree
tree_of = fold-Value Tree Members Items value_step fields_step items_step

-- the parts of an array, and the members of an object
abbrev pub items_of : CodeItems → Items
items_of = fold-Items Tree Members Items value_step fields_step items_step

abbrev pub members_of : Fields → Members
members_of = fold-Fields Tree Members Items value_step fields_step items_step

-- the same of what std's vector and map hold
abbrev pub items_view : List Value → Items
items_view vs = items_of_trees (map tree_of vs)

abbrev pub members_view : List (String Global × Value) → Members
members_view es = members_of_trees (map (λ e. (e.0, tree_of e.1)) es)
