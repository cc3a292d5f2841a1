-- Kinds of places, those that aren't sure joined with others: what the code that makes them
-- promises of each.
use Rattle.std.specs.Prelude.{◌≡◌, Bool, ◌&&◌, List, [], ◌∷◌, ⊤, if◌then◌else◌}
use Rattle.vrl_value.specs.Look.{Step}
use Rattle.vrl_value.specs.declared.value.Tag.{Tag}
use Rattle.vrl_kind.specs.KindTree.{KindTree}
use Rattle.vrl_kind.specs.Kinds.{tags_at}
use Rattle.vrl_kind.specs.Sets.{Sets}
use Rattle.fn_list.specs.Sure.{is_there, joined}

-- one place
abbrev pub IsWidened : Bool → Sets → KindTree → KindTree → Type 0
IsWidened sure A K L =
    (p : List Step) (t : Tag) → tags_at L p t ≡ (if sure then tags_at K p t else joined (tags_at K) A p t)

-- places behind some of which it is told whether all are there
abbrev pub AreWidened : Bool → Sets → List KindTree → List KindTree → Type 0
AreWidened sure A [] [] = ⊤
AreWidened sure A (k ∷ ks) (l ∷ ls) = IsWidened (sure && is_there k) A k l × AreWidened (sure && is_there k) A ks ls
AreWidened sure A ks ls = ⊥
