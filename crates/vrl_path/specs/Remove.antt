-- What a tree is without its sub-tree at a path, told by what look-up gives at every path.
use Rattle.std.specs.Prelude.{◌≡◌, ◌≢◌, ℕ, suc, ◌<◌, ◌≤◌, List, [], ◌∷◌, ◌++◌, Option, None}
use Rattle.vrl_value.specs.Look.{Step, field, place, missing, raw_at, found_behind}
use Rattle.vrl_value.specs.Tree.{Tree}
use Rattle.vrl_path.specs.FromEnd.{steps_in}
use Rattle.vrl_path.specs.Read.{read_at}
use Rattle.vrl_path.specs.Write.{Holds}
use Rattle.vrl_path.specs.declared.path.Step.{Step as CodeStep}

-- w is v without its sub-tree at the plain path p: what stands at the path q, by how q stands to p
pub record IsPlainRemoval (v : Tree) (p : List Step) (w : Tree) : Type 0 where
  -- q leads to p: a container that the next step of p fits
  pub above : (a : List Step) (s : Step) (r : List Step) → p ≡ a ++ s ∷ r → Holds s (raw_at w a)
  -- q parts from p before its last step: as it was
  pub beside : (a : List Step) (s t u : Step) (r b : List Step) → p ≡ a ++ s ∷ u ∷ r → t ≢ s
      → raw_at w (a ++ t ∷ b) ≡ raw_at v (a ++ t ∷ b)
  -- p ends with a field: that is missing, and another step behind the same path finds what it found
  pub field_gone : (a : List Step) (k : List ℕ) (b : List Step) → p ≡ a ++ field k ∷ []
      → raw_at w (a ++ field k ∷ b) ≡ found_behind missing b (λ u. raw_at u b)
  pub beside_field : (a : List Step) (k : List ℕ) (t : Step) (b : List Step) → p ≡ a ++ field k ∷ [] → t ≢ field k
      → raw_at w (a ++ t ∷ b) ≡ raw_at v (a ++ t ∷ b)
  -- p ends with a place: lower places look as they did, and from there on each looks as the next
  -- one did
  pub before_place : (a : List Step) (i j : ℕ) (b : List Step) → p ≡ a ++ place i ∷ [] → j < i
      → raw_at w (a ++ place j ∷ b) ≡ raw_at v (a ++ place j ∷ b)
  pub behind_place : (a : List Step) (i j : ℕ) (b : List Step) → p ≡ a ++ place i ∷ [] → i ≤ j
      → raw_at w (a ++ place j ∷ b) ≡ raw_at v (a ++ place (suc j) ∷ b)
  pub field_at_place : (a : List Step) (i : ℕ) (l : List ℕ) (b : List Step) → p ≡ a ++ place i ∷ []
      → raw_at w (a ++ field l ∷ b) ≡ raw_at v (a ++ field l ∷ b)

-- the sub-tree that a removal takes out: what a read finds at the path, but not the whole
abbrev pub removable_at : Tree → List CodeStep → Option Tree
removable_at v [] = None
removable_at v (s ∷ p) = read_at v (s ∷ p)

-- the same at a path at which something stands: a negative place stands for one from the start
abbrev pub IsRemoved : Tree → List CodeStep → Tree → Type 0
IsRemoved v p w = IsPlainRemoval v (steps_in v p) w
