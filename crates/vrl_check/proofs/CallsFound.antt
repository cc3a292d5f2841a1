-- Calls and their arguments as they are in memory, and as they are seen.
use Rattle.std.proofs.Common.{◌≡◌, ℕ, zero, suc, Bool, true, false, ◌&&◌, List, [], ◌∷◌, map, Option, Some, None, option_map, slice_get, refl, sym, ap, ap₂, ◌∙◌, subst, rules}
use Rattle.std.proofs.lemmas.Option.{slice_get-map}
use Rattle.std.specs.Option.{option_map_or}
use Rattle.vrl_diag.specs.declared.diagnostic.Span.{Span}
use Rattle.vrl_syntax.specs.Regexes.{args_regexes_below, expr_regexes_below}
use Rattle.vrl_syntax.specs.Tree.{Expr, call}
use Rattle.vrl_syntax.specs.View.{arg_of, args_view, call_of, expr_of}
use Rattle.vrl_syntax.specs.declared.tree.Arg.{Arg as CodeArg}
use Rattle.vrl_syntax.specs.declared.tree.Call.{Call as CodeCall, out-Call}
use Rattle.vrl_syntax.specs.declared.tree.Form.{the_lemmas}
use Rattle.vrl_check.specs.Calling.{call_args, call_bang, call_closure, call_name, written, AreTold, IsFound}
use Rattle.vrl_judge.specs.Calling.{part_of}
use Rattle.vrl_judge.specs.Rules.{Argument, argument_at, at}
use Rattle.vrl_check.specs.Judgement.{of_unknown}
use Rattle.vrl_judge.specs.declared.calls.Argument.{Argument as CodeArgument}

-- ---- what is seen

arg_span : (a : CodeArg) → (arg_of a).1 ≡ a.span
arg_span a = search (rules, the_lemmas)

pub value_seen : (a : CodeArg) → (arg_of a).2 ≡ expr_of a.value
value_seen a = search (rules, the_lemmas)

pub call_seen : (c : CodeCall) → call_of c ≡ call (call_name c) (out-Call c).name_span (call_bang c) (call_args c) (call_closure c)
call_seen c = search (rules, the_lemmas)

-- ---- the argument at a place

abbrev place_of : Argument → Span × Expr
place_of g = (g.span, g.value)

abbrev written_as : CodeArg → Span × Expr
written_as a = (a.span, expr_of a.value)

abbrev pair_of : Span → Expr → Span × Expr
pair_of s e = (s, e)

written_at : (args : List CodeArg) (i : ℕ) → slice_get (written (args_view args)) i ≡ option_map written_as (slice_get args i)
written_at [] i = refl
written_at (a ∷ args) zero = ap₂ (λ s e. Some (pair_of s e)) (arg_span a) (value_seen a)
written_at (a ∷ args) (suc i) = written_at args i

-- what was judged at a place is what is written there
places_are : (args : List CodeArg) (js : List Argument) (i : ℕ) → written (args_view args) ≡ map place_of js → option_map place_of (slice_get js i) ≡ option_map written_as (slice_get args i)
places_are args js i is = sym (slice_get-map place_of js i) ∙ ap (λ xs. slice_get xs i) (sym is) ∙ written_at args i

parts_are : (parts : List CodeArgument) (js : List Argument) (i : ℕ) → parts ≡ map part_of js → option_map part_of (slice_get js i) ≡ slice_get parts i
parts_are parts js i is = sym (slice_get-map part_of js i) ∙ ap (λ xs. slice_get xs i) (sym is)

none_there : (g : Option Argument) (f : Argument → Span × Expr) → option_map f g ≡ None → g ≡ None
none_there None f is = refl
none_there (Some g) f is = absurd cc

none_kept : (g : Option Argument) (f : Argument → CodeArgument) → option_map f g ≡ None → g ≡ None
none_kept None f is = refl
none_kept (Some g) f is = absurd cc

-- none is written there
pub unwritten_at : (args : List CodeArg) (js : List Argument) (i : ℕ) → written (args_view args) ≡ map place_of js → slice_get args i ≡ None → slice_get js i ≡ None
unwritten_at args js i is none = none_there (slice_get js i) place_of (places_are args js i is ∙ ap (option_map written_as) none)

-- none was judged there
pub unjudged_at : (parts : List CodeArgument) (js : List Argument) (i : ℕ) → parts ≡ map part_of js → slice_get parts i ≡ None → slice_get js i ≡ None
unjudged_at parts js i is none = none_kept (slice_get js i) part_of (parts_are parts js i is ∙ none)

found_as : (g : Option Argument) (a : CodeArg) (p : CodeArgument) → option_map place_of g ≡ Some (written_as a) → option_map part_of g ≡ Some p → IsFound g (Some (a, p))
found_as None a p is kept = absurd cc
found_as (Some g) a p is kept =
    let value : Some (g.value) ≡ Some (expr_of a.value) = ap (option_map (λ (x : Span × Expr). x.1)) is in
    let same : g.value ≡ expr_of a.value = cc in
    let part : part_of g ≡ p = cc in
    (sym same, sym part)

pub found_at : (args : List CodeArg) (parts : List CodeArgument) (js : List Argument) (i : ℕ) (a : CodeArg) (p : CodeArgument) → AreTold (args_view args) parts js → slice_get args i ≡ Some a → slice_get parts i ≡ Some p
    → IsFound (slice_get js i) (Some (a, p))
found_at args parts js i a p is at_args at_parts =
    found_as (slice_get js i) a p (places_are args js i is.written_are ∙ ap (option_map written_as) at_args) (parts_are parts js i is.parts_are ∙ at_parts)

pub none_found : (js : List Argument) (i : ℕ) → slice_get js i ≡ None → IsFound (slice_get js i) None
none_found js i is = subst_none (slice_get js i) is where
  subst_none : (g : Option Argument) → g ≡ None → IsFound g None
  subst_none None none = refl
  subst_none (Some g) none = absurd cc

-- the same of a place that may be none
pub none_written : (args : List CodeArg) (parts : List CodeArgument) (js : List Argument) (place : Option ℕ) (i : ℕ) → place ≡ Some i → slice_get args i ≡ None → AreTold (args_view args) parts js → IsFound (argument_at js place) None
none_written args parts js place i is none told = subst (λ q. IsFound (argument_at js q) None) (sym is) (none_found js i (unwritten_at args js i told.written_are none))

pub none_judged : (args : List CodeArg) (parts : List CodeArgument) (js : List Argument) (place : Option ℕ) (i : ℕ) → place ≡ Some i → slice_get parts i ≡ None → AreTold (args_view args) parts js → IsFound (argument_at js place) None
none_judged args parts js place i is none told = subst (λ q. IsFound (argument_at js q) None) (sym is) (none_found js i (unjudged_at parts js i told.parts_are none))

pub both_found : (args : List CodeArg) (parts : List CodeArgument) (js : List Argument) (place : Option ℕ) (i : ℕ) (a : CodeArg) (p : CodeArgument) → place ≡ Some i → slice_get args i ≡ Some a → slice_get parts i ≡ Some p → AreTold (args_view args) parts js
    → IsFound (argument_at js place) (Some (a, p))
both_found args parts js place i a p is at_args at_parts told = subst (λ q. IsFound (argument_at js q) (Some (a, p))) (sym is) (found_at args parts js i a p told at_args at_parts)

-- ---- keywords

-- the code of a keyword that is no parameter's name
pub unknown_told : (args : List CodeArg) (js : List Argument) (i : ℕ) → written (args_view args) ≡ map place_of js → option_map_or (λ (a : CodeArg). at 108 a.span) (slice_get args i) [] ≡ of_unknown (slice_get js i)
unknown_told args js i is = by (slice_get js i) (slice_get args i) (places_are args js i is) where
  by : (g : Option Argument) (a : Option CodeArg) → option_map place_of g ≡ option_map written_as a → option_map_or (λ (x : CodeArg). at 108 x.span) a [] ≡ of_unknown g
  by None None same = refl
  by None (Some a) same = absurd cc
  by (Some g) None same = absurd cc
  by (Some g) (Some a) same =
      let span : Some g.span ≡ Some a.span = ap (option_map (λ (x : Span × Expr). x.0)) same in
      let one : g.span ≡ a.span = cc in
      ap (at 108) (sym one)

-- ---- regexes

and_first : (a b : Bool) → (a && b) ≡ true → a ≡ true
and_first true b is = refl
and_first false b is = is

and_second : (a b : Bool) → (a && b) ≡ true → b ≡ true
and_second true b is = is
and_second false b is = absurd cc

-- the regexes of an argument are among those of all
pub regexes_at : (args : List CodeArg) (i : ℕ) (a : CodeArg) (count : ℕ) → args_regexes_below count (args_view args) ≡ true → slice_get args i ≡ Some a → expr_regexes_below count (expr_of a.value) ≡ true
regexes_at [] i a count below is = absurd cc
regexes_at (x ∷ args) zero a count below is =
    let same : x ≡ a = cc in
    ap (λ y. expr_regexes_below count (expr_of y.value)) (sym same) ∙ ap (expr_regexes_below count) (sym (value_seen x)) ∙ and_first _ _ below
regexes_at (x ∷ args) (suc i) a count below is = regexes_at args i a count (and_second (expr_regexes_below count (arg_of x).2) _ below) is
