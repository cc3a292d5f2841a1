-- The law that ties what a row says of kinds to what it says of values.
use Rattle.std.specs.Prelude.{◌≡◌, ℕ, Bool, false, List, [], Option, Some, None, IsTrue, IfSome, IsSomeAnd, length, ⊤}
use Rattle.vrl_value.specs.Look.{Step, raw_at, there}
use Rattle.vrl_value.specs.Tree.{Tree, regex, IsOrdered}
use Rattle.vrl_value.specs.declared.value.Tag.TheVariants as tag
use Rattle.vrl_kind.specs.KindTree.{KindTree}
use Rattle.vrl_kind.specs.Kinds.{Inhabits}
use Rattle.vrl_kind.specs.Sets.{Sets, IsAllowed}
use Rattle.vrl_builtin.specs.Conditions.{arguments_below, literals_below, AreArguments, AreGiven}
use Rattle.vrl_builtin.specs.Rows.{GivenTree, SettingTree, Answer, value, failure, Row, argument_at, kind_at, literal_at}

-- the regex with this number stands somewhere in the value
abbrev pub HoldsRegex : ℕ → Tree → Type 0
HoldsRegex n v = (p : List Step) × (raw_at v p ≡ there (regex n))

-- an argument is there exactly where a kind is given, and is of this kind
abbrev pub IsOfGiven : Option KindTree → Option Tree → Type 0
IsOfGiven None None = ⊤
IsOfGiven None (Some v) = ⊥
IsOfGiven (Some K) None = ⊥
IsOfGiven (Some K) (Some v) = Inhabits v K

-- the arguments are such as were given: they are there exactly where kinds are, are of these kinds,
-- and equal the literals. Each is in order
pub record AreInstances (givens : List GivenTree) (arguments : List (Option Tree)) : Type 0 where
  pub kinds : (place : ℕ) → IsOfGiven (kind_at place givens) (argument_at place arguments)
  pub literals : (place : ℕ) → IfSome (literal_at place givens) (λ v. argument_at place arguments ≡ Some v)
  pub ordered : (place : ℕ) → IfSome (argument_at place arguments) IsOrdered

-- what may be answered: a value in order of such a kind, whose regexes stand in the arguments, or
-- an error where the call may fail
abbrev pub IsLawful : Sets → Bool → List (Option Tree) → Answer → Type 0
IsLawful A fails arguments (value v) =
    IsAllowed v A × IsOrdered v
    × ((n : ℕ) → HoldsRegex n v → (place : ℕ) × IsSomeAnd (argument_at place arguments) (HoldsRegex n))
IsLawful A fails arguments (failure text) = IsTrue fails

pub record KeepsLaw (r : Row) : Type 0 where
  -- the kind of a result doesn't allow absent
  pub present : (givens : List GivenTree) (sources : List (List ℕ)) → AreGiven r givens
      → IsTrue (literals_below (length sources) givens) → r.kind givens sources [] tag.Absent ≡ false
  pub lawful : (givens : List GivenTree) (arguments : List (Option Tree)) (setting : SettingTree) →
      AreGiven r givens → AreArguments r arguments → AreInstances givens arguments
      → IsTrue (arguments_below (length setting.sources) arguments) →
      IsLawful (r.kind givens setting.sources) (r.may_fail givens) arguments (r.means arguments setting)
