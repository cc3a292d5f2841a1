-- What is asked of the arguments of a call, before it and at it.
use Rattle.std.specs.Prelude.{ℕ, suc, Bool, true, false, ◌&&◌, not, List, [], ◌∷◌, Option, Some, None, IsTrue, IfSome, IsSome, ⊤, if◌then◌else◌}
use Rattle.std.specs.List.{list_all}
use Rattle.std.specs.Option.{option_map_or}
use Rattle.vrl_value.specs.Regexes.{regexes_below}
use Rattle.vrl_value.specs.Tag.{tag_of}
use Rattle.vrl_value.specs.Tree.{Tree}
use Rattle.vrl_kind.specs.KindTree.{KindTree}
use Rattle.vrl_builtin.specs.Rows.{ParameterRow, GivenTree, Row, argument_at, kind_at, literal_at}
use Rattle.vrl_builtin.specs.TagSets.{allows}

-- one is there where it must be
abbrev pub IsThere : {A : Type 0} → Bool → Option A → Type 0
IsThere true a = IsSome a
IsThere false a = ⊤

-- a literal is there where it must be, and is one that is allowed
abbrev pub IsLiteral : Bool → (Tree → Bool) → Option Tree → Type 0
IsLiteral true accepts literal = IsSome literal × IfSome literal (λ v. IsTrue (accepts v))
IsLiteral false accepts literal = ⊤

-- what is given for a parameter
pub record IsGiven (p : ParameterRow) (accepts : Tree → Bool) (K : Option KindTree)
    (literal : Option Tree) : Type 0 where
  pub there : IsThere p.required K
  pub allowed : IfSome K (λ given. IsLiteral p.literal accepts literal)

abbrev pub AreGivenFrom : ℕ → List ParameterRow → (ℕ → Tree → Bool) → List GivenTree → Type 0
AreGivenFrom place [] accepts givens = ⊤
AreGivenFrom place (p ∷ ps) accepts givens = IsGiven p (accepts place) (kind_at place givens) (literal_at place givens)
    × AreGivenFrom (suc place) ps accepts givens

-- each required parameter is given an argument, and each that wants a literal and is given an
-- argument one that the row allows
abbrev pub AreGiven : Row → List GivenTree → Type 0
AreGiven r givens = AreGivenFrom 0 r.parameters r.accepts givens

-- an argument for a parameter
pub record IsArgument (p : ParameterRow) (accepts : Tree → Bool) (a : Option Tree) : Type 0 where
  pub there : IsThere p.required a
  pub allowed : IfSome a (λ v. IsTrue (allows p.allowed (tag_of v)))
  pub literal : IfSome a (λ v. IsLiteral p.literal accepts (Some v))

abbrev pub AreArgumentsFrom : ℕ → List ParameterRow → (ℕ → Tree → Bool) → List (Option Tree) → Type 0
AreArgumentsFrom place [] accepts arguments = ⊤
AreArgumentsFrom place (p ∷ ps) accepts arguments =
    IsArgument p (accepts place) (argument_at place arguments) × AreArgumentsFrom (suc place) ps accepts arguments

-- each required parameter has an argument, and each argument has a tag that its parameter allows,
-- and is a literal that the row allows where one is wanted
abbrev pub AreArguments : Row → List (Option Tree) → Type 0
AreArguments r arguments = AreArgumentsFrom 0 r.parameters r.accepts arguments

-- each regex among the literals, and in the arguments, is one of the first so many
abbrev pub below_if : ℕ → Option Tree → Bool
below_if count v = option_map_or (regexes_below count) v true

abbrev pub literals_below : ℕ → List GivenTree → Bool
literals_below count givens = list_all (λ g. below_if count g.literal) givens

abbrev pub arguments_below : ℕ → List (Option Tree) → Bool
arguments_below count arguments = list_all (below_if count) arguments

-- whether a literal is given that isn't allowed
abbrev pub is_refused : (Tree → Bool) → Option Tree → Bool
is_refused accepts None = false
is_refused accepts (Some v) = not (accepts v)

-- whether a parameter wants a literal and was given one that isn't allowed
abbrev pub is_wrong : ParameterRow → (Tree → Bool) → Option Tree → Bool
is_wrong p accepts literal = p.literal && is_refused accepts literal

abbrev pub first_wrong_from : ℕ → List ParameterRow → (ℕ → Tree → Bool) → List GivenTree → Option ℕ
first_wrong_from place [] accepts givens = None
first_wrong_from place (p ∷ ps) accepts givens = if is_wrong p (accepts place)
    (literal_at place givens) then Some place else first_wrong_from (suc place) ps accepts givens

-- the place of the first parameter that was given a literal which the row doesn't allow
abbrev pub first_wrong : Row → List GivenTree → Option ℕ
first_wrong r givens = first_wrong_from 0 r.parameters r.accepts givens
