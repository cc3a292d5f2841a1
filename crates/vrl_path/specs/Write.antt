-- What a tree is with another tree set at a path, told by what look-up gives at every path.
use Rattle.std.specs.Prelude.{◌≡◌, ◌≢◌, ℕ, ◌+◌, ◌<◌, ◌≤◌, List, [], ◌∷◌, ◌++◌, length, max}
use Rattle.vrl_value.specs.Depth.{depth_of}
use Rattle.vrl_value.specs.Look.{Step, field, place, Found, there, missing, no_place, raw_at, found_behind}
use Rattle.vrl_value.specs.Tree.{Tree, null, array, object, IsOrdered}
use Rattle.vrl_path.specs.FromEnd.{padded, steps_in}
use Rattle.vrl_path.specs.Parts.{items_in, members_in}
use Rattle.vrl_path.specs.declared.path.Step.{Step as CodeStep}

-- a container that the step fits
abbrev pub Holds : Step → Found → Type 0
Holds (field k) found = found ≡ there (object (members_in found))
Holds (place i) found = found ≡ there (array (items_in found))

-- null where nothing was found in an array
abbrev pub or_null : Found → Found
or_null (there t) = there t
or_null missing = there null
or_null no_place = there null

-- w is v with n set at the plain path p: what stands at the path q, by how q stands to p
pub record IsPlainSet (v : Tree) (p : List Step) (n w : Tree) : Type 0 where
  -- q is p, or leads on from it
  pub within : (r : List Step) → raw_at w (p ++ r) ≡ raw_at n r
  -- q leads to p: a container that the next step of p fits
  pub above : (a : List Step) (s : Step) (r : List Step) → p ≡ a ++ s ∷ r → Holds s (raw_at w a)
  -- q parts from p at another field: as it was, where there was an object, else as in the empty one
  pub beside_field : (a : List Step) (k l : List ℕ) (r b : List Step) → p ≡ a ++ field k ∷ r → l ≢ k
      → raw_at w (a ++ field l ∷ b) ≡ raw_at (object (members_in (raw_at v a))) (field l ∷ b)
  -- q parts from p at a lower place: as it was, where that place was there, else as in null
  pub before_place : (a : List Step) (i j : ℕ) (r b : List Step) → p ≡ a ++ place i ∷ r → j < i
      → raw_at w (a ++ place j ∷ b) ≡ found_behind (or_null (raw_at v (a ++ place j ∷ []))) b (λ u. raw_at u b)
  -- q parts from p at a higher place: as it was, where there was an array, else as in the empty one
  pub behind_place : (a : List Step) (i j : ℕ) (r b : List Step) → p ≡ a ++ place i ∷ r → i < j
      → raw_at w (a ++ place j ∷ b) ≡ raw_at (array (items_in (raw_at v a))) (place j ∷ b)
  -- q parts from p at a step that does not fit the same container
  pub place_at_field : (a : List Step) (k : List ℕ) (j : ℕ) (r b : List Step) → p ≡ a ++ field k ∷ r
      → raw_at w (a ++ place j ∷ b) ≡ no_place
  pub field_at_place : (a : List Step) (i : ℕ) (l : List ℕ) (r b : List Step) → p ≡ a ++ place i ∷ r
      → raw_at w (a ++ field l ∷ b) ≡ no_place

-- w is v with n set at the path p: nulls come in front of each array that is too short for a
-- negative place of p, and the place that this stands for counts from the start
abbrev pub IsSet : Tree → List CodeStep → Tree → Tree → Type 0
IsSet v p n w = IsPlainSet (padded v p) (steps_in v p) n w

-- the greatest depth that a set may leave
abbrev pub depth_limit : ℕ
depth_limit = 128

-- v with n set at the path p would be deeper than that
pub record IsTooDeep (v : Tree) (p : List CodeStep) (n : Tree) : Type 0 where
  pub result : Tree
  pub is_set : IsSet v p n result
  pub ordered : IsOrdered v → IsOrdered n → IsOrdered result
  pub deeper : depth_limit < depth_of result

-- how deep v with n set at the path p is: as deep as the path is long and n is deep, or, by what
-- stands beside the path, as v at most
pub record IsAsDeep (v : Tree) (p : List CodeStep) (n w : Tree) : Type 0 where
  pub least : length p + depth_of n ≤ depth_of w
  pub greatest : depth_of w ≤ max (depth_of v) (length p + depth_of n)
