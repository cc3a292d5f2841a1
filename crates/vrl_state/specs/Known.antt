-- What is known, told as a list, and what is known once such a list is taken over.
use Rattle.std.specs.Prelude.{◌≡◌, ℕ, List, [], ◌∷◌, map, if◌then◌else◌, All, IsSomeAnd, Option, Some, None, ⊤}
use Rattle.std.specs.FinMap as finite
use Rattle.vrl_kind.specs.Cut.{IsCut}
use Rattle.vrl_kind.specs.KindTree.{KindTree}
use Rattle.vrl_syntax.specs.declared.root.Root.{Root}
use Rattle.vrl_syntax.specs.declared.root.Root.TheVariants.{Event, Name}
use Rattle.vrl_state.specs.States.{kind_of, same_root, IsRootKind, RootMap, State, Variables}
use Rattle.vrl_state.specs.Stores.{value_of, FitsKind, Store}
use Rattle.vrl_state.specs.declared.known.Known.{Known}
use Rattle.vrl_state.specs.declared.known.Known.TheVariants.{Dead, Alive}
use Rattle.vrl_state.specs.declared.known.RootKind.{RootKind}

abbrev pub variable_kind : List ℕ × KindTree → RootKind
variable_kind e = record { root = Name e.0; kind = e.1 }

-- each variable by the bytes of its name
abbrev pub variable_kinds : Variables → List RootKind
variable_kinds variables = map variable_kind (finite.entries variables)

-- the event first
abbrev pub root_kinds : RootMap → List RootKind
root_kinds roots = record { root = Event; kind = roots.event } ∷ variable_kinds roots.variables

abbrev pub known_as : Option RootMap → Known
known_as None = Dead
known_as (Some roots) = Alive (root_kinds roots)

-- what is known where a branch ends; nothing where there is none
abbrev pub known_of : Option State → Known
known_of None = Dead
known_of (Some s) = known_as s.known

abbrev pub knowns_of : List (Option State) → List Known
knowns_of states = map known_of states

-- each root that is listed has a root's kind: never absent, as the list says itself, and within the
-- limits
abbrev pub HaveRootKinds : Known → Type 0
HaveRootKinds Dead = ⊤
HaveRootKinds (Alive roots) = All (λ r. IsRootKind r.kind) roots

-- ---- a list that is taken over

-- the kind that a list gives a root
abbrev pub listed_kind : Root → List RootKind → Option KindTree
listed_kind root [] = None
listed_kind root (r ∷ rs) = if same_root root r.root then Some r.kind else listed_kind root rs

-- a kind that is given is there, cut, and none is there where none is given
abbrev pub IsCutIf : Option KindTree → Option KindTree → Type 0
IsCutIf None M = M ≡ None
IsCutIf (Some K) M = IsSomeAnd M (IsCut K)

-- the roots that are listed are known, each with its kind, cut, and no others
abbrev pub AreTakenOver : List RootKind → RootMap → Type 0
AreTakenOver listed roots = (root : Root) → IsCutIf (listed_kind root listed) (kind_of root roots)

-- this is known once such a list replaces what was
abbrev pub IsReplaced : Known → Option RootMap → Type 0
IsReplaced Dead after = after ≡ None
IsReplaced (Alive listed) after = IsSomeAnd after (AreTakenOver listed)

-- each root that is listed holds a value of its kind; nothing fits where no way leads
abbrev pub FitsListed : Store → Known → Type 0
FitsListed store Dead = ⊥
FitsListed store (Alive listed) = (root : Root) → FitsKind (value_of root store) (listed_kind root listed)
