-- What is known of the arguments of a call as they are written, and that their values are arguments which the function takes.
use Rattle.std.specs.Prelude.{◌≡◌, ℕ, zero, suc, Bool, true, false, cond, List, [], ◌∷◌, ◌++◌, length, map, Option, Some, None, IfSome, IsSomeAnd, IsTrue, refl, ⊤, slice_get}
use Rattle.std.proofs.Common.{sym, ap, ◌∙◌, subst, append_assoc}
use Rattle.vrl_value.specs.Look.{item_at}
use Rattle.vrl_value.specs.Tag.{tag_of}
use Rattle.vrl_value.specs.Tree.{Tree, Items, no_items, item}
use Rattle.vrl_value.specs.declared.value.Tag.{Tag}
use Rattle.vrl_builtin.specs.Conditions.{AreArguments, AreArgumentsFrom, IsArgument, IsLiteral, IsThere}
use Rattle.vrl_builtin.specs.Rows.{ParameterRow, Row, argument_at}
use Rattle.vrl_builtin.specs.TagSets.{allows}
use Rattle.vrl_resolve.specs.Calls.{argument_in, first_unfit, or_others, unfit_tag}

-- the value of an argument: that of a literal is the literal
abbrev pub IsKnownAs : Option Tree → Tree → Type 0
IsKnownAs None v = ⊤
IsKnownAs (Some known) v = v ≡ known

-- the same of all arguments; each has a value
abbrev pub AreKnownAs : List (Option Tree) → Items → Type 0
AreKnownAs [] no_items = ⊤
AreKnownAs [] (item v vs) = ⊥
AreKnownAs (known ∷ others) no_items = ⊥
AreKnownAs (known ∷ others) (item v vs) = IsKnownAs known v × AreKnownAs others vs

-- where a literal is wanted, one is known that is allowed
abbrev pub IsAllowedAs : Bool → (Tree → Bool) → Option Tree → Type 0
IsAllowedAs false accepts known = ⊤
IsAllowedAs true accepts None = ⊥
IsAllowedAs true accepts (Some v) = IsTrue (accepts v)

-- a parameter has such an argument, or none, where none must be given
abbrev pub IsGivenAs : ParameterRow → (Tree → Bool) → List (Option Tree) → Option ℕ → Type 0
IsGivenAs p accepts known None = IsThere {A = ℕ} p.required None
IsGivenAs p accepts known (Some place) = IsSomeAnd (slice_get known place) (IsAllowedAs p.literal accepts)

abbrev pub AreGivenAs : ℕ → List ParameterRow → (ℕ → Tree → Bool) → List (Option Tree) → List (Option ℕ) → Type 0
AreGivenAs i [] accepts known places = ⊤
AreGivenAs i (p ∷ ps) accepts known [] = ⊥
AreGivenAs i (p ∷ ps) accepts known (place ∷ places) = IsGivenAs p (accepts i) known place × AreGivenAs (suc i) ps accepts known places

-- ---- the value of an argument but for its tag

abbrev IsRight : ParameterRow → (Tree → Bool) → Option Tree → Type 0
IsRight p accepts v = IsThere p.required v × IfSome v (λ w. IsLiteral p.literal accepts (Some w))

abbrev AreRight : ℕ → List ParameterRow → (ℕ → Tree → Bool) → List (Option Tree) → Type 0
AreRight i [] accepts vs = ⊤
AreRight i (p ∷ ps) accepts [] = ⊥
AreRight i (p ∷ ps) accepts (v ∷ vs) = IsRight p (accepts i) v × AreRight (suc i) ps accepts vs

literal_is : (wanted : Bool) (accepts : Tree → Bool) (known : Option Tree) (v : Tree) → IsAllowedAs wanted accepts known → IsKnownAs known v → IsLiteral wanted accepts (Some v)
literal_is false accepts known v allowed is = tt
literal_is true accepts None v allowed is = absurd allowed
literal_is true accepts (Some u) v allowed is = (refl, subst (λ w. IsTrue (accepts w)) (sym is) allowed)

value_is : (wanted : Bool) (accepts : Tree → Bool) (known : List (Option Tree)) (vs : Items) (place : ℕ) → AreKnownAs known vs → IsSomeAnd (slice_get known place) (IsAllowedAs wanted accepts) →
    IsSomeAnd (item_at place vs) (λ v. IsLiteral wanted accepts (Some v))
value_is wanted accepts [] vs place are there = absurd there
value_is wanted accepts (known ∷ others) no_items place are there = absurd are
value_is wanted accepts (known ∷ others) (item v vs) zero are there = literal_is wanted accepts known v there are.0
value_is wanted accepts (known ∷ others) (item v vs) (suc place) are there = value_is wanted accepts others vs place are.1 there

there_is : (required : Bool) (v : Option Tree) (P : Tree → Type 0) → IsSomeAnd v P → IsThere required v × IfSome v P
there_is required None P is = absurd is
there_is true (Some v) P is = (refl, is)
there_is false (Some v) P is = (tt, is)

none_is : (required : Bool) (P : Tree → Type 0) → IsThere {A = ℕ} required None → IsThere {A = Tree} required None × IfSome {T = Tree} None P
none_is true P is = (is, tt)
none_is false P is = (tt, tt)

right_is : (p : ParameterRow) (accepts : Tree → Bool) (known : List (Option Tree)) (vs : Items) (place : Option ℕ) → AreKnownAs known vs → IsGivenAs p accepts known place → IsRight p accepts (argument_in vs place)
right_is p accepts known vs None are given = none_is p.required (λ w. IsLiteral p.literal accepts (Some w)) given
right_is p accepts known vs (Some place) are given = there_is p.required (item_at place vs) (λ w. IsLiteral p.literal accepts (Some w)) (value_is p.literal accepts known vs place are given)

right_are : (i : ℕ) (ps : List ParameterRow) (accepts : ℕ → Tree → Bool) (known : List (Option Tree)) (vs : Items) (places : List (Option ℕ)) → AreKnownAs known vs → AreGivenAs i ps accepts known places →
    AreRight i ps accepts (map (argument_in vs) places)
right_are i [] accepts known vs places are given = tt
right_are i (p ∷ ps) accepts known vs [] are given = absurd given
right_are i (p ∷ ps) accepts known vs (place ∷ places) are given = (right_is p (accepts i) known vs place are given.0, right_are (suc i) ps accepts known vs places are given.1)

-- ---- with its tag

fit_first : (name : List ℕ) (unfit : Option Tag) (others : Option (List ℕ × Tag)) → or_others name unfit others ≡ None → (unfit ≡ None) × (others ≡ None)
fit_first name None others none = (refl, none)
fit_first name (Some t) others none = cc

allowed_if : (b : Bool) (t : Tag) → cond b None (Some t) ≡ None → b ≡ true
allowed_if true t none = refl
allowed_if false t none = cc

allowed_is : (p : ParameterRow) (v : Option Tree) → unfit_tag p v ≡ None → IfSome v (λ w. IsTrue (allows p.allowed (tag_of w)))
allowed_is p None none = tt
allowed_is p (Some v) none = allowed_if (allows p.allowed (tag_of v)) (tag_of v) none

at_end : (front : List (Option Tree)) (v : Option Tree) (vs : List (Option Tree)) → argument_at (length front) (front ++ v ∷ vs) ≡ v
at_end [] v vs = refl
at_end (u ∷ front) v vs = at_end front v vs

one_longer : (front : List (Option Tree)) (v : Option Tree) → length (front ++ v ∷ []) ≡ suc (length front)
one_longer [] v = refl
one_longer (u ∷ front) v = ap suc (one_longer front v)

fit_from : (i : ℕ) (ps : List ParameterRow) (accepts : ℕ → Tree → Bool) (front vs all : List (Option Tree)) → length front ≡ i → all ≡ front ++ vs → AreRight i ps accepts vs → first_unfit i ps all ≡ None →
    AreArgumentsFrom i ps accepts all
fit_from i [] accepts front vs all counted whole right fit = tt
fit_from i (p ∷ ps) accepts front [] all counted whole right fit = absurd right
fit_from i (p ∷ ps) accepts front (v ∷ vs) all counted whole right fit =
    let parts = fit_first p.name (unfit_tag p (argument_at i all)) (first_unfit (suc i) ps all) fit in
    let here : argument_at i all ≡ v = (λ k. argument_at (sym counted k) (whole k)) ∙ at_end front v vs in
    let allowed : IfSome v (λ w. IsTrue (allows p.allowed (tag_of w))) = allowed_is p v (ap (unfit_tag p) (sym here) ∙ parts.0) in
    let one : IsArgument p (accepts i) v = record { there = right.0.0; allowed = allowed; literal = right.0.1 } in (
      subst (IsArgument p (accepts i)) (sym here) one,
      fit_from (suc i) ps accepts (front ++ v ∷ []) vs all (one_longer front v ∙ ap suc counted) (whole ∙ sym (append_assoc front (v ∷ []) vs)) right.1 parts.1,
    )

-- the values of arguments that are given as the function takes them, and whose tags fit
pub arguments_are : (r : Row) (known : List (Option Tree)) (vs : Items) (places : List (Option ℕ)) → AreKnownAs known vs → AreGivenAs 0 r.parameters r.accepts known places →
    first_unfit 0 r.parameters (map (argument_in vs) places) ≡ None → AreArguments r (map (argument_in vs) places)
arguments_are r known vs places are given fit =
    fit_from 0 r.parameters r.accepts [] (map (argument_in vs) places) (map (argument_in vs) places) refl refl (right_are 0 r.parameters r.accepts known vs places are given) fit
