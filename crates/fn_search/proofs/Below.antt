-- The regexes of an argument are among those of the script.
use Rattle.std.proofs.Common.{ℕ, zero, suc, ◌<◌, arith, IfSome, List, [], ◌∷◌, Option, Some, None, IsTrue, refl}
use Rattle.std.proofs.lemmas.Bool.{and_parts}
use Rattle.std.proofs.lemmas.Bool.Decides.{nat_tests}
use Rattle.vrl_value.specs.Regexes.{items_regexes_below, regexes_below}
use Rattle.vrl_value.specs.Tree.{Tree, string, integer, boolean, null, timestamp, regex, array, object}
use Rattle.vrl_builtin.specs.Conditions.{arguments_below, below_if, literals_below}
use Rattle.vrl_builtin.specs.Rows.{argument_at, GivenTree, items_at, items_given, literal_at, optional_regex, regex_given, value_at, value_or}

argument_below : (count place : ℕ) (arguments : List (Option Tree)) → IsTrue (arguments_below count arguments) → IsTrue (below_if count (argument_at place arguments))
argument_below count place [] below = refl
argument_below count zero (a ∷ others) below = (and_parts (below_if count a) (arguments_below count others) below).0
argument_below count (suc place) (a ∷ others) below = argument_below count place others (and_parts (below_if count a) (arguments_below count others) below).1

value_below_if : (count : ℕ) (a : Option Tree) → IsTrue (below_if count a) → IsTrue (regexes_below count (value_or null a))
value_below_if count None below = refl
value_below_if count (Some v) below = below

pub value_below : (count place : ℕ) (arguments : List (Option Tree)) → IsTrue (arguments_below count arguments) → IsTrue (regexes_below count (value_at place arguments))
value_below count place arguments below = value_below_if count (argument_at place arguments) (argument_below count place arguments below)

parts_below_if : (count : ℕ) (a : Option Tree) → IsTrue (below_if count a) → IsTrue (items_regexes_below count (items_given a))
parts_below_if count None below = refl
parts_below_if count (Some (string s)) below = refl
parts_below_if count (Some (integer n)) below = refl
parts_below_if count (Some (boolean b)) below = refl
parts_below_if count (Some null) below = refl
parts_below_if count (Some (timestamp nanos)) below = refl
parts_below_if count (Some (regex n)) below = refl
parts_below_if count (Some (array ts)) below = below
parts_below_if count (Some (object ms)) below = refl

pub parts_below : (count place : ℕ) (arguments : List (Option Tree)) → IsTrue (arguments_below count arguments) → IsTrue (items_regexes_below count (items_at place arguments))
parts_below count place arguments below = parts_below_if count (argument_at place arguments) (argument_below count place arguments below)

regex_below_if : (count : ℕ) (a : Option Tree) → IsTrue (below_if count a) → IfSome (regex_given a) (λ n. n < count)
regex_below_if count None below = tt
regex_below_if count (Some (string s)) below = tt
regex_below_if count (Some (integer n)) below = tt
regex_below_if count (Some (boolean b)) below = tt
regex_below_if count (Some null) below = tt
regex_below_if count (Some (timestamp nanos)) below = tt
regex_below_if count (Some (regex n)) below = grind (arith, nat_tests)
regex_below_if count (Some (array ts)) below = tt
regex_below_if count (Some (object ms)) below = tt

pub regex_below : (count place : ℕ) (arguments : List (Option Tree)) → IsTrue (arguments_below count arguments) → IfSome (optional_regex place arguments) (λ n. n < count)
regex_below count place arguments below = regex_below_if count (argument_at place arguments) (argument_below count place arguments below)

literal_is_below : (count place : ℕ) (givens : List GivenTree) → IsTrue (literals_below count givens) → IsTrue (below_if count (literal_at place givens))
literal_is_below count place [] below = refl
literal_is_below count zero (g ∷ givens) below = (and_parts (below_if count g.literal) (literals_below count givens) below).0
literal_is_below count (suc place) (g ∷ givens) below = literal_is_below count place givens (and_parts (below_if count g.literal) (literals_below count givens) below).1

pub literal_below : (count place : ℕ) (givens : List GivenTree) → IsTrue (literals_below count givens) → IfSome (regex_given (literal_at place givens)) (λ n. n < count)
literal_below count place givens below = regex_below_if count (literal_at place givens) (literal_is_below count place givens below)
