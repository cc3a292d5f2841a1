-- Literals and paths, whose values stand somewhere already: a call that runs nothing behind them
-- looks at them where they stand.
use Rattle.std.specs.Prelude.{Bool, true, false, List, [], ◌∷◌, Option, Some, None, unwrap_or, IsTrue, ⊤}
use Rattle.vrl_value.specs.Tree.{Tree, null}
use Rattle.vrl_syntax.specs.Stores.{Store}
use Rattle.vrl_store.specs.Places.{read_in}
use Rattle.vrl_store.specs.StoreView.{root_of, Names}
use Rattle.vrl_resolve.specs.Linked.{Linked, literal, read}

abbrev pub is_plain : Linked → Bool
is_plain (literal v) = true
is_plain (read place) = true
is_plain n = false

-- the value of a literal or of a path
abbrev pub plain_value : Names → Linked → Store → Option Tree
plain_value names (literal v) store = Some v
plain_value names (read place) store = Some (read_in (root_of names place.base) place.path store)
plain_value names n store = None

abbrev pub AllPlain : List Linked → Type 0
AllPlain [] = ⊤
AllPlain (n ∷ ns) = IsTrue (is_plain n) × AllPlain ns

-- the values of literals and paths, in order
abbrev pub plain_values : Names → List Linked → Store → List Tree
plain_values names [] store = []
plain_values names (n ∷ ns) store = unwrap_or (plain_value names n store) null ∷ plain_values names ns store
