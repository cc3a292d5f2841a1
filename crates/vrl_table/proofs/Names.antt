-- Functions and their names. What holds of all functions is found by one test over the table, and holds of each.
use Rattle.std.proofs.Common.{◌≡◌, ◌≢◌, ℕ, Bool, true, false, not, cond, List, [], ◌∷◌, Option, Some, None, is_none, MatchOption, find, bytes_eq, refl, sym, ap, subst, ◌∙◌}
use Rattle.std.specs.List.{list_all}
use Rattle.std.proofs.lemmas.Bool.{and_parts, true≢false}
use Rattle.std.proofs.lemmas.Slice.Eq.{bytes_eq-Decides}
use Rattle.vrl_syntax.specs.Calls.{form_named}
use Rattle.vrl_table.specs.Laws.{is_entry}
use Rattle.vrl_table.specs.Table.{all_functions, function_named, has_name_twice, row_of, FormsAreNoFunctions, FunctionsAreCounted, FunctionsAreFound, ParametersAreToldApart}
use Rattle.vrl_table.specs.declared.function.Fun.{Fun}

pub functions_found : FunctionsAreFound
functions_found function = (is_entry function).found

Some≢None : {A : Type 0} {a : A} → Some a ≡ None → ⊥
Some≢None is = cc

some_is : {A : Type 0} {a b : A} → Some a ≡ Some b → a ≡ b
some_is is = cc

-- both parts of a test of all hold
-- what is found in a list passes each test that all of the list pass
found_passes : {A : Type 0} (named test : A → Bool) (x : A) (xs : List A) → find named xs ≡ Some x → list_all test xs ≡ true → test x ≡ true
found_passes named test x [] found all = absurd (Some≢None (sym found))
found_passes named test x (y ∷ ys) found all = by (named y) found (λ later. found_passes named test x ys later (and_parts (test y) (list_all test ys) all).1) where
  by : (here : Bool) → cond here (Some y) (find named ys) ≡ Some x → (find named ys ≡ Some x → test x ≡ true) → test x ≡ true
  by true is later = subst (λ z. test z ≡ true) (some_is is) (and_parts (test y) (list_all test ys) all).0
  by false is later = later is

-- what a test over the table finds of all functions holds of each
pub of_each : FunctionsAreFound → (test : Fun → Bool) → list_all test all_functions ≡ true → (function : Fun) → test function ≡ true
unfolding function_named
of_each found test all function = found_passes (λ other. bytes_eq (row_of other).name (row_of function).name) test function all_functions (found function) all

not_true : (b : Bool) → not b ≡ true → b ≡ false
not_true true wrong = absurd (true≢false (sym wrong))
not_true false is = refl

none_there : {A : Type 0} (a : Option A) → is_none a ≡ true → a ≡ None
none_there None is = refl
none_there (Some a) wrong = absurd (true≢false (sym wrong))

pub no_forms : FormsAreNoFunctions
unfolding row_of
no_forms function = none_there (form_named (row_of function).name) (of_each functions_found (λ other. is_none (form_named (row_of other).name)) refl function)

pub parameters_apart : ParametersAreToldApart
unfolding row_of
parameters_apart function = not_true (has_name_twice (row_of function).parameters) (of_each functions_found (λ other. not (has_name_twice (row_of other).parameters)) refl function)

-- what a search by name finds has the name
found_named : (functions : List Fun) (name : List ℕ) (function : Fun) → find (λ other. bytes_eq (row_of other).name name) functions ≡ Some function → (row_of function).name ≡ name
found_named [] name function found = absurd (Some≢None (sym found))
found_named (other ∷ functions) name function found = by (bytes_eq (row_of other).name name) refl found (found_named functions name function) where
  by : (here : Bool) → bytes_eq (row_of other).name name ≡ here → cond here (Some other) (find (λ f. bytes_eq (row_of f).name name) functions) ≡ Some function →
      (find (λ f. bytes_eq (row_of f).name name) functions ≡ Some function → (row_of function).name ≡ name) → (row_of function).name ≡ name
  by true same is later = sym (ap (λ f. (row_of f).name) (some_is is)) ∙ (bytes_eq-Decides (row_of other).name name).0 same
  by false differs is later = later is

-- where none is found, none has the name
pub none_named : FunctionsAreFound → (name : List ℕ) → function_named name ≡ None → (function : Fun) → (row_of function).name ≢ name
none_named found name none function is = Some≢None (sym (found function) ∙ ap function_named is ∙ none)

pub named : (name : List ℕ) (function : Fun) → function_named name ≡ Some function → (row_of function).name ≡ name
unfolding function_named
named name function found = found_named all_functions name function found

-- the answer of a search, where it is the one of the table
pub looked_up : FunctionsAreFound → (name : List ℕ) (answer : Option Fun) → answer ≡ function_named name → MatchOption answer ((function : Fun) → (row_of function).name ≢ name) (λ function. (row_of function).name ≡ name)
looked_up found name None is = none_named found name (sym is)
looked_up found name (Some function) is = named name function (sym is)

pub counted : FunctionsAreCounted
unfolding row_of
counted = record { number = refl; once = refl }
