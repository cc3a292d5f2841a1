-- Names with their kinds, in the order of the names' bytes, as a version of the tree holds them.
use Rattle.std.specs.Prelude.{◌≡◌, ℕ, ◌+◌, ◌≤◌, max, not, T, List, [], ◌∷◌, length, Option, Some, None, refl}
use Rattle.std.specs.Coded.{Coded, code_by, coded×, coded_list, coded_ℕ}
use Rattle.std.specs.Cmp.Lexicographic.{slice_cmp}
use Rattle.std.specs.FinMap as finite
use Rattle.std.specs.FinMap.Entries.{where_key}
use Rattle.std.specs.Ordering.{eq_by_cmp, nat_cmp}
use Rattle.vrl_kind.specs.KindCode.{kind_code}
use Rattle.vrl_kind.specs.KindTree.{KindTree}

-- a name and its kind
abbrev pub Entry : Type 0
Entry = List ℕ × KindTree

-- what a version holds, and how high its tree is
pub record Ordered : Type 0 where
  pub entries : List Entry
  pub height : ℕ

abbrev pub ordered_code : Coded Ordered
ordered_code = code_by (List Entry × ℕ) (coded× (coded_list (coded× (coded_list coded_ℕ) kind_code)) coded_ℕ)
    (λ o. (o.entries, o.height)) (λ p. record { entries = p.0; height = p.1 }) (λ _. refl)

abbrev pub tree_size : Ordered → ℕ
tree_size o = length o.entries

-- the names rise
abbrev pub IsSorted : List Entry → Type 0
IsSorted es = T (finite.is_sorted (slice_cmp nat_cmp) es)

-- ---- what the calls of the tree answer

abbrev pub found : List ℕ → List Entry → Option KindTree
found x es = finite.find (slice_cmp nat_cmp) x es

-- with the entry in its place, instead of the one of its name
abbrev pub put_entry : Entry → List Entry → List Entry
put_entry e es = finite.put (slice_cmp nat_cmp) e.0 e.1 es

abbrev pub without_name : List ℕ → List Entry → List Entry
without_name x es = where_key (slice_cmp nat_cmp) (λ y. not (eq_by_cmp (slice_cmp nat_cmp) x y)) es

abbrev pub first_of : List Entry → Option Entry
first_of [] = None
first_of (e ∷ es) = Some e

abbrev pub rest_of : List Entry → List Entry
rest_of [] = []
rest_of (e ∷ es) = es

-- ---- heights

-- neither height is more than this above the other
abbrev pub DifferByAtMost : ℕ → ℕ → ℕ → Type 0
DifferByAtMost by l r = (l ≤ r + by) × (r ≤ l + by)

-- k is h, or one more
abbrev pub IsHigher : ℕ → ℕ → Type 0
IsHigher h k = (h ≤ k) × (k ≤ h + 1)

-- the height of a tree that is made of sides of these heights
abbrev pub IsHeightOf : ℕ → ℕ → ℕ → Type 0
IsHeightOf l r h = IsHigher (max l r) h × (DifferByAtMost 1 l r → h ≡ max l r + 1)
