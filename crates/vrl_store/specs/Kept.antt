-- What a store keeps of its event and of its variables, by their numbers.
use Rattle.std.specs.Prelude.{◌≡◌, ℕ, ◌≤◌, Bool, false, true, ◌==◌, List, [], ◌∷◌, map, Option, Some, None, option_map, slice_get, unwrap_or, IfSome, IsTrue, is_some, ⊤}
use Rattle.std.specs.Coded.{coded_bool, le_prop, ×_prop, Coded-set, Unit-prop}
use Rattle.std.specs.List.{list_any}
use Rattle.vrl_value.specs.Depth.{depth_of}
use Rattle.vrl_value.specs.Tree.{Tree}
use Rattle.vrl_value.specs.View.{tree_of}
use Rattle.vrl_value.specs.declared.value.Value.{Value}
use Rattle.vrl_path.specs.Write.{depth_limit}

abbrev pub trees_of : List (Option Value) → List (Option Tree)
trees_of vs = map (option_map tree_of) vs

-- a value is within the limit of depth
abbrev pub IsShallow : Tree → Type 0
IsShallow v = depth_of v ≤ depth_limit

abbrev pub AreShallow : List (Option Tree) → Type 0
AreShallow [] = ⊤
AreShallow (v ∷ vs) = IfSome v IsShallow × AreShallow vs

-- the number of a variable that is there
abbrev pub is_numbered : List (Option Tree) → ℕ → Bool
is_numbered vs number = is_some (unwrap_or (slice_get vs number) None)

-- each number stands once, and stands for a variable that is there
abbrev pub ArePresent : List (Option Tree) → List ℕ → Type 0
ArePresent vs [] = ⊤
ArePresent vs (number ∷ numbers) =
    IsTrue (is_numbered vs number) × ((list_any (λ n. n == number) numbers ≡ false) × ArePresent vs numbers)

-- each variable that is there has its number among these
abbrev pub AreCounted : List (Option Tree) → List ℕ → Type 0
AreCounted vs numbers = (number : ℕ) → IsTrue (is_numbered vs number) → IsTrue (list_any (λ n. n == number) numbers)

-- the number is one of these
abbrev pub is_one_of : ℕ → List ℕ → Bool
is_one_of number numbers = list_any (λ n. n == number) numbers

-- the number is the metadata's, or one of these
abbrev pub is_held : ℕ → List ℕ → Bool
is_held number numbers = is_one_of number (0 ∷ numbers)

-- the variables that are there have these numbers, and where the flag says so, they are
-- within the limit of depth
pub record AreKept (are_shallow : Bool) (vs : List (Option Tree)) (numbers : List ℕ) : Type 0 where
  pub present : ArePresent vs numbers
  pub counted : AreCounted vs numbers
  pub shallow : IsTrue are_shallow → AreShallow vs

-- ---- that there is one proof

one_truth : (b : Bool) → IsProp (IsTrue b)
one_truth b = Coded-set coded_bool b true

shallow-prop : (vs : List (Option Tree)) → IsProp (AreShallow vs)
shallow-prop [] = Unit-prop
shallow-prop (None ∷ vs) = ×_prop Unit-prop (shallow-prop vs)
shallow-prop (Some v ∷ vs) = ×_prop le_prop (shallow-prop vs)

present-prop : (vs : List (Option Tree)) (numbers : List ℕ) → IsProp (ArePresent vs numbers)
present-prop vs [] = Unit-prop
present-prop vs (number ∷ numbers) =
    ×_prop (one_truth _) (×_prop (Coded-set coded_bool _ false) (present-prop vs numbers))

pub kept-prop : (are_shallow : Bool) (vs : List (Option Tree)) (numbers : List ℕ)
    → IsProp (AreKept are_shallow vs numbers)
kept-prop are_shallow vs numbers x y = λ i. record {
  present = present-prop vs numbers x.present y.present i;
  counted = λ number is. one_truth _ (x.counted number is) (y.counted number is) i;
  shallow = λ is. shallow-prop vs (x.shallow is) (y.shallow is) i;
}
