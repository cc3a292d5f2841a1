-- Laws of kind files.
use Rattle.std.specs.Prelude.{◌≡◌, ℕ, List}
use Rattle.vrl_kind.specs.KindTree.{KindTree}
use Rattle.vrl_kindfile.specs.Files.{IsDeclared, IsNotJson, IsBad}

-- a file declares one kind, or is refused at one place, or is no JSON, and never two of these
pub record FilesHaveOneAnswer : Type 0 where
  pub one_kind : (file : List ℕ) (K L : KindTree) → IsDeclared file K → IsDeclared file L → K ≡ L
  pub one_fault : (file p q : List ℕ) → IsBad file p → IsBad file q → p ≡ q
  pub kind_or_fault : (file pointer : List ℕ) (K : KindTree) → IsDeclared file K → IsBad file pointer → ⊥
  pub kind_or_not_json : (file : List ℕ) (K : KindTree) → IsDeclared file K → IsNotJson file → ⊥
  pub fault_or_not_json : (file pointer : List ℕ) → IsBad file pointer → IsNotJson file → ⊥
