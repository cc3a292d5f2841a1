-- The regexes of an argument are among those of the arguments.
use Rattle.std.proofs.Common.{◌≡◌, ℕ, true, List, [], ◌∷◌, Option, Some, None, refl}
use Rattle.std.proofs.lemmas.Bool.{and_parts}
use Rattle.vrl_value.specs.Regexes.{regexes_below}
use Rattle.vrl_value.specs.Tree.{Tree}
use Rattle.vrl_builtin.specs.Conditions.{arguments_below, below_if}
use Rattle.vrl_builtin.specs.Rows.{value_at}

first_below : (count : ℕ) (a : Option Tree) (others : List (Option Tree)) → below_if count a ≡ true → regexes_below count (value_at 0 (a ∷ others)) ≡ true
first_below count None others below = refl
first_below count (Some v) others below = below

pub argument_below : (count : ℕ) (arguments : List (Option Tree)) → arguments_below count arguments ≡ true → regexes_below count (value_at 0 arguments) ≡ true
argument_below count [] below = refl
argument_below count (a ∷ others) below = first_below count a others (and_parts (below_if count a) _ below).0
