-- By the law of rows the answer to well-formed arguments is well-formed.
use Rattle.std.specs.Prelude.{◌≡◌, ℕ, zero, suc, ◌<◌, Bool, true, false, List, [], ◌∷◌, length, map, Option, Some, None, IfSome, IsSomeAnd, IsTrue, option_map, refl, ⊤}
use Rattle.std.proofs.Common.{sym, subst}
use Rattle.std.proofs.lemmas.Bool.{and_from, ltb-true}
use Rattle.vrl_value.specs.Laws.{RegexesStayBelow}
use Rattle.vrl_value.specs.Look.{there, IfThere}
use Rattle.vrl_value.specs.Regexes.{regexes_below}
use Rattle.vrl_value.specs.Tree.{Tree, regex, IsOrdered}
use Rattle.vrl_kind.specs.Canonical.{any_kind}
use Rattle.vrl_kind.specs.KindTree.{KindTree}
use Rattle.vrl_kind.specs.Laws.{AnyHoldsAll}
use Rattle.vrl_builtin.specs.Conditions.{arguments_below, below_if, AreArguments, AreArgumentsFrom, AreGivenFrom, IsArgument, IsGiven, IsThere}
use Rattle.vrl_builtin.specs.Law.{AreInstances, HoldsRegex, IsLawful, IsOfGiven, KeepsLaw}
use Rattle.vrl_builtin.specs.Rows.{Answer, value as answered, failure, GivenTree, ParameterRow, Row, SettingTree, argument_at, kind_at, literal_at}
use Rattle.vrl_store.specs.WellFormed.{IsWellFormed}

abbrev pub IsWellFormedAnswer : ℕ → Answer → Type 0
IsWellFormedAnswer count (answered v) = IsWellFormed count v
IsWellFormedAnswer count (failure text) = ⊤

-- each argument that is there is well-formed
abbrev pub AreWellFormedArguments : ℕ → List (Option Tree) → Type 0
AreWellFormedArguments count vs = (at : ℕ) → IfSome (argument_at at vs) (IsWellFormed count)

-- an argument of any kind, known by its value
abbrev given_kind : Option Tree → Option KindTree
given_kind v = option_map (λ w. any_kind) v

abbrev given_of : Option Tree → GivenTree
given_of v = record { kind = given_kind v; literal = v }

kind_is : (vs : List (Option Tree)) (at : ℕ) → kind_at at (map given_of vs) ≡ given_kind (argument_at at vs)
kind_is [] at = refl
kind_is (v ∷ vs) zero = refl
kind_is (v ∷ vs) (suc at) = kind_is vs at

literal_is : (vs : List (Option Tree)) (at : ℕ) → literal_at at (map given_of vs) ≡ argument_at at vs
literal_is [] at = refl
literal_is (v ∷ vs) zero = refl
literal_is (v ∷ vs) (suc at) = literal_is vs at

given_is : (p : ParameterRow) (accepts : Tree → Bool) (v : Option Tree) → IsArgument p accepts v → IsGiven p accepts (given_kind v) v
given_is p accepts None is = record { there = none_there p.required is.there; allowed = tt } where
  none_there : (required : Bool) → IsThere {A = Tree} required None → IsThere {A = KindTree} required None
  none_there true is = is
  none_there false is = is
given_is p accepts (Some v) is = record { there = some_there p.required; allowed = is.literal } where
  some_there : (required : Bool) → IsThere required (Some any_kind)
  some_there true = refl
  some_there false = tt

given_are : (i : ℕ) (ps : List ParameterRow) (accepts : ℕ → Tree → Bool) (vs : List (Option Tree)) → AreArgumentsFrom i ps accepts vs → AreGivenFrom i ps accepts (map given_of vs)
given_are i [] accepts vs are = tt
given_are i (p ∷ ps) accepts vs are =
    let one : IsGiven p (accepts i) (kind_at i (map given_of vs)) (literal_at i (map given_of vs)) =
    subst (λ (g : Option KindTree × Option Tree). IsGiven p (accepts i) g.0 g.1) (λ k. (sym (kind_is vs i) k, sym (literal_is vs i) k)) (given_is p (accepts i) (argument_at i vs) are.0) in
    (one, given_are (suc i) ps accepts vs are.1)

of_any : AnyHoldsAll → (v : Option Tree) → IsOfGiven (given_kind v) v
of_any any None = tt
of_any any (Some v) = any v

same_literal : (v : Option Tree) → IfSome v (λ w. v ≡ Some w)
same_literal None = tt
same_literal (Some v) = refl

ordered_is : (count : ℕ) (v : Option Tree) → IfSome v (IsWellFormed count) → IfSome v IsOrdered
ordered_is count None is = tt
ordered_is count (Some v) is = is.ordered

instances_are : AnyHoldsAll → (count : ℕ) (vs : List (Option Tree)) → AreWellFormedArguments count vs → AreInstances (map given_of vs) vs
instances_are any count vs are = record {
  kinds = λ at. subst (λ K. IsOfGiven K (argument_at at vs)) (sym (kind_is vs at)) (of_any any (argument_at at vs));
  literals = λ at. subst (λ v. IfSome v (λ w. argument_at at vs ≡ Some w)) (sym (literal_is vs at)) (same_literal (argument_at at vs));
  ordered = λ at. ordered_is count (argument_at at vs) (are at);
}

below_is : (count : ℕ) (v : Option Tree) → IfSome v (IsWellFormed count) → below_if count v ≡ true
below_is count None is = refl
below_is count (Some v) is = is.below

pub below_are : (count : ℕ) (vs : List (Option Tree)) → AreWellFormedArguments count vs → IsTrue (arguments_below count vs)
below_are count [] are = refl
below_are count (v ∷ vs) are = and_from _ _ (below_is count v (are 0)) (below_are count vs (λ at. are (suc at)))

number_below : RegexesStayBelow → (count n : ℕ) (v : Option Tree) → IfSome v (IsWellFormed count) → IsSomeAnd v (HoldsRegex n) → n < count
number_below below count n None is holds = absurd holds
number_below below count n (Some v) is holds =
    let low : IfThere (there (regex n)) (λ part. IsTrue (regexes_below count part)) = subst (λ found. IfThere found (λ part. IsTrue (regexes_below count part))) holds.1 (below.below_found count v holds.0 is.below) in
    ltb-true n count low

answer_is : RegexesStayBelow → (count : ℕ) (vs : List (Option Tree)) (A : _) (fails : Bool) (answer : Answer) → AreWellFormedArguments count vs → IsLawful A fails vs answer → IsWellFormedAnswer count answer
answer_is below count vs A fails (failure text) are lawful = tt
answer_is below count vs A fails (answered v) are lawful = record {
  ordered = lawful.1;
  below = below.below_told count v lawful.1 (λ path n is. let held = lawful.2 n (path, is) in number_below below count n (argument_at held.0 vs) (are held.0) held.1);
}

pub lawful_answer : RegexesStayBelow → AnyHoldsAll → (r : Row) (vs : List (Option Tree)) (setting : SettingTree) → KeepsLaw r → AreArguments r vs → AreWellFormedArguments (length setting.sources) vs →
    IsWellFormedAnswer (length setting.sources) (r.means vs setting)
lawful_answer below any r vs setting law fit are =
    answer_is below (length setting.sources) vs _ _ (r.means vs setting) are
    (law.lawful (map given_of vs) vs setting (given_are 0 r.parameters r.accepts vs fit) fit (instances_are any (length setting.sources) vs are) (below_are (length setting.sources) vs are))
