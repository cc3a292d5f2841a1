-- The arguments of a call as they are in memory, and as they are written.
use Rattle.std.proofs.Common.{◌≡◌, ℕ, zero, suc, List, [], ◌∷◌, length, Option, Some, None, option_map, slice_get, refl, sym, ap, ap₂, ◌∙◌, arith, rules, if◌then◌else◌}
use Rattle.vrl_syntax.specs.Calls.{path_of}
use Rattle.vrl_syntax.specs.View.{arg_of, args_view, expr_of}
use Rattle.vrl_syntax.specs.declared.tree.Arg.{Arg as CodeArg}
use Rattle.vrl_syntax.specs.declared.tree.Form.{the_lemmas}
use Rattle.vrl_resolve.specs.Calls.{values_of, written_at}
use Rattle.vrl_resolve.specs.Linking.{is_value_keyword, path_argument}

pub value_seen : (a : CodeArg) → (arg_of a).2 ≡ expr_of a.value
value_seen a = search (rules, the_lemmas)

pub name_seen : (a : CodeArg) → (arg_of a).0 ≡ a.name
name_seen a = search (rules, the_lemmas)

-- ---- the argument at a place

values_at : (args : List CodeArg) (i : ℕ) → slice_get (values_of (args_view args)) i ≡ option_map (λ (a : CodeArg). expr_of a.value) (slice_get args i)
values_at [] i = refl
values_at (a ∷ args) zero = ap Some (value_seen a)
values_at (a ∷ args) (suc i) = values_at args i

pub argument_found : (args : List CodeArg) (place : Option ℕ) (i : ℕ) (a : CodeArg) → place ≡ Some i → slice_get args i ≡ Some a → Some (expr_of a.value) ≡ written_at (values_of (args_view args)) place
argument_found args place i a is found = sym (ap (written_at (values_of (args_view args))) is ∙ values_at args i ∙ ap (option_map (λ (b : CodeArg). expr_of b.value)) found)

pub argument_missing : (args : List CodeArg) (place : Option ℕ) (i : ℕ) → place ≡ Some i → slice_get args i ≡ None → None ≡ written_at (values_of (args_view args)) place
argument_missing args place i is missing = sym (ap (written_at (values_of (args_view args))) is ∙ values_at args i ∙ ap (option_map (λ (b : CodeArg). expr_of b.value)) missing)

-- ---- the one argument of `del` and `exists`

pub path_of_one : (a : CodeArg) (others : List CodeArg) → length others ≡ 0 → path_argument (args_view (a ∷ others)) ≡ (if is_value_keyword a.name then path_of (expr_of a.value) else None)
path_of_one a [] one = ap₂ (λ name e. if is_value_keyword name then path_of e else None) (name_seen a) (value_seen a)
path_of_one a (b ∷ others) one = absurd (omega arith)

pub path_of_more : (a : CodeArg) (others : List CodeArg) → (length others ≡ 0 → ⊥) → path_argument (args_view (a ∷ others)) ≡ None
path_of_more a [] more = absurd (more refl)
path_of_more a (b ∷ others) more = refl
