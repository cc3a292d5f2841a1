-- The tokens of the line of a tree.
use Rattle.std.specs.Prelude.{ℕ, List}
use Rattle.json.specs.Token.{Token}
use Rattle.json.specs.Tree as json
use Rattle.serde_json.specs.Written.{outline, items_outline, members_outline}
use Rattle.vrl_value.specs.Tree.{Tree, Items, Members}
use Rattle.vrl_json.specs.Line.{data_of, items_data, members_data}

abbrev pub tree_tokens : List (List ℕ) → Tree → List Token
tree_tokens sources t = json.json_tokens (outline (data_of sources t))

-- with the closing bracket
abbrev pub items_tokens : List (List ℕ) → Items → List Token
items_tokens sources ts = json.items_tokens (items_outline (items_data sources ts))

abbrev pub members_tokens : List (List ℕ) → Members → List Token
members_tokens sources ms = json.members_tokens (members_outline (members_data sources ms))
