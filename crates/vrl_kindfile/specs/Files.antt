-- What a kind file says, and why it is refused.
use Rattle.std.specs.Prelude.{◌≡◌, ℕ, ◌<◌, ◌≤◌, ◌⊎◌, List, [], Some, None, length, ⊤}
use Rattle.vrl_value.specs.Look.{Step}
use Rattle.vrl_value.specs.Tree.{Tree}
use Rattle.vrl_value.specs.declared.value.Tag.TheVariants as tag
use Rattle.vrl_json.specs.Line.{reading_of, not_json, not_whole, whole}
use Rattle.vrl_kind.specs.Count.{nodes, levels}
use Rattle.vrl_kind.specs.Cut.{node_limit, level_limit}
use Rattle.vrl_kind.specs.KindTree.{KindTree}
use Rattle.vrl_kind.specs.Kinds.{tags_at, only_at}
use Rattle.vrl_kind.specs.Tags as tags
use Rattle.vrl_kindfile.specs.Descriptions.{IsDescribed}
use Rattle.vrl_kindfile.specs.Faults.{first_fault}
use Rattle.vrl_kindfile.specs.Pointer.{pointer_of}
use Rattle.vrl_kindfile.specs.declared.fault.KindFault.{KindFault}
use Rattle.vrl_kindfile.specs.declared.fault.KindFault.TheVariants as fault

-- the most bytes of a kind file
abbrev pub file_limit : ℕ
file_limit = 65536

-- only objects are of the kind, and it is no larger than a kind may be
pub record IsAllowed (K : KindTree) : Type 0 where
  pub objects : (p : List Step) → tags.IsWithin (tags_at K p) (only_at tag.Object p)
  pub nodes : nodes K ≤ node_limit
  pub levels : levels K ≤ level_limit

-- the file's text is JSON, with whole numbers alone, that stands for this tree
pub record IsText (file : List ℕ) (t : Tree) : Type 0 where
  pub size : length file ≤ file_limit
  pub reading : reading_of file ≡ whole t

-- the kind that a description has, where no value in it is at fault
pub record IsKindOf (t : Tree) (K : KindTree) : Type 0 where
  pub faultless : first_fault t ≡ None
  pub described : IsDescribed t K

-- the file declares this kind
pub record IsDeclared (file : List ℕ) (K : KindTree) : Type 0 where
  pub tree : Tree
  pub text : IsText file tree
  pub kind : IsKindOf tree K
  pub allowed : IsAllowed K

-- no value is at fault, but the whole kind isn't allowed
pub record IsNotAllowed (t : Tree) : Type 0 where
  pub kind : KindTree
  pub is_kind : IsKindOf t kind
  pub refused : ¬ IsAllowed kind

-- the path is that of the first value at fault, and the root's where the whole kind isn't allowed
abbrev pub IsAtFault : Tree → List Step → Type 0
IsAtFault t p = (first_fault t ≡ Some p) ⊎ ((p ≡ []) × IsNotAllowed t)

pub record IsNotJson (file : List ℕ) : Type 0 where
  pub size : length file ≤ file_limit
  pub reading : (reading_of file ≡ not_json) ⊎ (reading_of file ≡ not_whole)

-- the pointer of the fault
pub record IsBad (file pointer : List ℕ) : Type 0 where
  pub tree : Tree
  pub text : IsText file tree
  pub path : List Step
  pub at_fault : IsAtFault tree path
  pub is_pointer : pointer ≡ pointer_of path

-- a refusal has its cause; that of want of memory is not told by the file
abbrev pub IsRefused : List ℕ → KindFault → Type 0
IsRefused file fault.TooLong = file_limit < length file
IsRefused file fault.NotJson = IsNotJson file
IsRefused file (fault.Bad pointer) = IsBad file pointer
IsRefused file fault.Memory = ⊤
