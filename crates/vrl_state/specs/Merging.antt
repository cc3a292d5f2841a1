-- One version of names with their kinds that is made of another, part by part.
use Rattle.std.specs.Prelude.{◌≡◌, Bool, true, false, cond, ℕ, List, [], ◌∷◌, Option, Some, None, is_some, if◌then◌else◌, option_map, ⊤}
use Rattle.std.specs.Cmp.Lexicographic.{slice_cmp}
use Rattle.std.specs.FinMap as map
use Rattle.std.specs.Ordering.{eq_by_cmp, nat_cmp}
use Rattle.std.specs.declared.cmp.Ordering.{Ordering}
use Rattle.vrl_syntax.specs.declared.root.Root.{Root}
use Rattle.vrl_kind.specs.KindTree.{KindTree}
use Rattle.vrl_state.specs.Ordered.{found, put_entry, without_name, Entry}
use Rattle.vrl_state.specs.States.{kind_of, same_root, IsEitherVariable, RootMap, Scope, Variables}
use Rattle.vrl_state.specs.View.{scope_of}

-- the names differ
abbrev pub AreOtherNames : List ℕ → List ℕ → Type 0
AreOtherNames x y = eq_by_cmp (slice_cmp nat_cmp) x y ≡ false

-- ---- joins

-- what a part holds, the whole holds
abbrev pub HoldsIf : Option KindTree → Option KindTree → Type 0
HoldsIf None o = ⊤
HoldsIf (Some K) o = o ≡ Some K

abbrev pub IsPartOf : List Entry → List Entry → Type 0
IsPartOf part whole = (x : List ℕ) → HoldsIf (found x part) (found x whole)

-- a part of a version in which each name on this side of x is found
pub record IsBeside (o : Ordering) (x : List ℕ) (part whole : List Entry) : Type 0 where
  pub holds : IsPartOf part whole
  pub same : (y : List ℕ) → slice_cmp nat_cmp y x ≡ o → found y part ≡ found y whole

-- the kind of one name, joined with that of another side
abbrev pub IsJoinedAt : Entry → Option KindTree → List Entry → List Entry → Type 0
IsJoinedAt e L before after = IsEitherVariable (Some e.1) L (found e.0 after)
    × ((x : List ℕ) → AreOtherNames x e.0 → found x after ≡ found x before)

-- a name of the part is joined; of another name all stays
abbrev pub IsJoinedIf : Option KindTree → Option KindTree → Option KindTree → Option KindTree → Type 0
IsJoinedIf None L before after = after ≡ before
IsJoinedIf (Some K) L before after = IsEitherVariable (Some K) L after

abbrev pub IsJoinedPart : List Entry → List Entry → List Entry → List Entry → Type 0
IsJoinedPart part others before after =
    (x : List ℕ) → IsJoinedIf (found x part) (found x others) (found x before) (found x after)

-- ---- ends of scopes

-- one name is taken out, unless it is to stay
abbrev pub IsKeptAt : Bool → List ℕ → List Entry → List Entry → Type 0
IsKeptAt true x before after = after ≡ before
IsKeptAt false x before after = after ≡ without_name x before

-- a name of the part that isn't among these names is taken out; of another name all stays
abbrev pub kept_if : Bool → Bool → Option KindTree → Option KindTree
kept_if false stays K = K
kept_if true stays K = cond stays K None

abbrev pub IsKeptPart : List Entry → List Entry → List Entry → List Entry → Type 0
IsKeptPart part names before after =
    (x : List ℕ) → found x after ≡ kept_if (is_some (found x part)) (is_some (found x names)) (found x before)

-- each of these entries, whatever stood at its name
abbrev pub puts : List Entry → List Entry → List Entry
puts [] es = es
puts (f ∷ fs) es = put_entry f (puts fs es)

-- ---- scopes

-- a scope with these names that hides what two sides hide, with either kind, in front of others
pub record IsFirstJoined (known mine others : Variables) (outer scopes : List Scope) : Type 0 where
  pub hidden : Variables
  pub either : (x : List ℕ) → IsEitherVariable (map.get mine x) (map.get others x) (map.get hidden x)
  pub is : scopes ≡ scope_of known hidden ∷ outer

-- ---- roots that are turned

-- one root has the kind that f makes of its own; what else is known stays
abbrev pub IsTurnedAt : (KindTree → KindTree) → Root → RootMap → RootMap → Type 0
IsTurnedAt f root before after =
    (r : Root) → kind_of r after ≡ (if same_root r root then option_map f (kind_of r before) else kind_of r before)
