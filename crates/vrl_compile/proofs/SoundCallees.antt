-- What a call calls, where its arguments are bound; and what its `!` does.
use Rattle.std.proofs.Common.{◌≡◌, ℕ, suc, Bool, true, false, not, ◌&&◌, List, [], ◌∷◌, map, Option, Some, None, IfSome, Ok, codes, bytes_eq, option_map, refl, sym, ap, ◌∙◌, if◌then◌else◌}
use Rattle.std.specs.Option.{option_map_or}
use Rattle.std.proofs.lemmas.Bool.{and_from, not-false, or_parts, true≢false}
use Rattle.std.proofs.lemmas.Option.{slice_get-map}
use Rattle.std.proofs.lemmas.Slice.Eq.{bytes_eq-Decides}
use Rattle.vrl_value.specs.Tree.{Tree}
use Rattle.vrl_path.specs.declared.path.Step.{Step}
use Rattle.vrl_diag.specs.declared.diagnostic.Span.{Span}
use Rattle.vrl_syntax.specs.Calls.{is_exists, literal_of, is_del}
use Rattle.vrl_syntax.specs.Tree.{Expr, expr, read, Args, no_args, arg, no_closure}
use Rattle.vrl_syntax.specs.declared.root.Root.{Root}
use Rattle.vrl_state.specs.Stores.{Store}
use Rattle.vrl_builtin.specs.Rows.{ParameterRow, Row}
use Rattle.vrl_binding.specs.Binding.{binding, keywords_of, path_parameters}
use Rattle.vrl_table.specs.Table.{function_named, row_of, FunctionsAreFound}
use Rattle.vrl_table.specs.declared.function.Fun.{Fun}
use Rattle.vrl_store.specs.Outcomes.{Outcome, value, error, returned, Ended, banged_if, ends}
use Rattle.vrl_judge.specs.Rules.{Argument, Judgement, argument_at, banged}
use Rattle.vrl_check.specs.Judgement.{bound, wants_literal}
use Rattle.vrl_resolve.specs.Calls.{Callee, function, deletion, existence, nothing_called, are_written_right, bound_function, bound_path, callee_of, is_allowed_literal, is_written_right, named_function, values_of, written_at}
use Rattle.vrl_compile.specs.Sound.{HasNoError, IsSoundEnd, IsSoundOutcome}
use Rattle.vrl_compile.proofs.SoundBound.{AreWritten}
use Rattle.vrl_compile.proofs.SoundEnds.{no_error_parts}
use Rattle.vrl_compile.specs.SoundLaws.{Laws}

-- ---- a `!`

banged_outcome : (span : Span) (j : Judgement) (outcome : Outcome) (store : Store) → IsSoundOutcome j outcome store → IsSoundEnd (banged span true j) (banged_if true (ends outcome store))
banged_outcome span j (value v) store sound = sound
banged_outcome span j (error text) store sound = tt
banged_outcome span j (returned v) store sound = sound
banged_outcome span j other store sound = tt

-- behind a `!` no error is left
pub sound_banged : (span : Span) (bang : Bool) (j : Judgement) (ended : Ended) → IsSoundEnd j ended → IsSoundEnd (banged span bang j) (banged_if bang ended)
sound_banged span true j ended sound = banged_outcome span j ended.outcome ended.store sound
sound_banged span false j ended sound = sound

pub banged_codes : (span : Span) (bang : Bool) (j : Judgement) → HasNoError (banged span bang j).codes → HasNoError j.codes
banged_codes span true j none = (no_error_parts j.codes _ none).0
banged_codes span false j none = none

-- what is known of the call with it is known without it
pub record IsCleanCall (j : Judgement) : Type 0 where
  pub codes : HasNoError j.codes
  pub sound : j.poisoned ≡ false

pub clean_call : (span : Span) (bang : Bool) (j : Judgement) → HasNoError (banged span bang j).codes → (banged span bang j).poisoned ≡ false → IsCleanCall j
clean_call span true j none sound = record { codes = banged_codes span true j none; sound = (or_parts j.poisoned _ sound).0 }
clean_call span false j none sound = record { codes = none; sound = sound }

pub banged_empties : (span : Span) (bang : Bool) (j : Judgement) → (banged span bang j).empties ≡ j.empties
banged_empties span true j = refl
banged_empties span false j = refl

-- ---- names

-- a function hasn't a name under which none is found
other_name : FunctionsAreFound → (f : Fun) (name word : List ℕ) → (row_of f).name ≡ name → function_named word ≡ None → bytes_eq name word ≡ false
other_name found f name word is none = by (bytes_eq name word) refl where
  by : (b : Bool) → bytes_eq name word ≡ b → bytes_eq name word ≡ false
  by true same = let wrong : Some f ≡ None = sym (found f) ∙ ap function_named (is ∙ (bytes_eq-Decides name word).0 same) ∙ none in absurd cc
  by false other = other

no_deletion : function_named (codes "del") ≡ None
unfolding function_named row_of
no_deletion = refl

no_existence : function_named (codes "exists") ≡ None
unfolding function_named row_of
no_existence = refl

-- the choice between the two functions of paths and the others
neither : (del exists : Bool) (a b c : Callee) → del ≡ false → exists ≡ false → (if del then a else (if exists then b else c)) ≡ c
neither true exists a b c first second = absurd (true≢false first)
neither false true a b c first second = absurd (true≢false second)
neither false false a b c first second = refl

the_first : (del : Bool) (a b : Callee) → del ≡ true → (if del then a else b) ≡ a
the_first true a b is = refl
the_first false a b is = absurd (true≢false (sym is))

the_second : (del exists : Bool) (a b c : Callee) → del ≡ false → exists ≡ true → (if del then a else (if exists then b else c)) ≡ b
the_second true exists a b c first second = absurd (true≢false first)
the_second false true a b c first second = refl
the_second false false a b c first second = absurd (true≢false (sym second))

-- ---- literals

literal_right : (wants : Bool) (accepts : Tree → Bool) (e : Expr) → (wants && option_map_or (λ v. not (accepts v)) (literal_of e) true) ≡ false → (if wants then is_allowed_literal accepts (Some e) else true) ≡ true
literal_right true accepts e is = by (literal_of e) is where
  by : (l : Option Tree) → option_map_or (λ v. not (accepts v)) l true ≡ false → option_map_or accepts l false ≡ true
  by None is = absurd (true≢false is)
  by (Some v) is = not-false (accepts v) is
literal_right false accepts e is = refl

one_right : (p : ParameterRow) (accepts : Tree → Bool) (g : Option Argument) → IfSome g (λ a. (p.literal && option_map_or (λ v. not (accepts v)) (literal_of a.value) true) ≡ false) → is_written_right p accepts (option_map (λ a. a.value) g) ≡ true
one_right p accepts None is = either_way p.literal where
  either_way : (wants : Bool) → (if wants then true else true) ≡ true
  either_way true = refl
  either_way false = refl
one_right p accepts (Some a) is = literal_right p.literal accepts a.value is

all_right : (r : Row) (i : ℕ) (ps : List ParameterRow) (gs : List (Option Argument)) → AreWritten (wants_literal r) i ps gs → are_written_right r.accepts i ps (map (option_map (λ a. a.value)) gs) ≡ true
all_right r i [] gs written = refl
all_right r i (p ∷ ps) [] written = refl
all_right r i (p ∷ ps) (g ∷ gs) written = and_from _ _ (one_right p (r.accepts i) g written.0) (all_right r (suc i) ps gs written.1)

-- bound arguments as they are written
written_place : (js : List Argument) (q : Option ℕ) → written_at (map (λ g. g.value) js) q ≡ option_map (λ a. a.value) (argument_at js q)
written_place js None = refl
written_place js (Some i) = slice_get-map (λ (g : Argument). g.value) js i

written_places : (js : List Argument) (places : List (Option ℕ)) → map (written_at (map (λ g. g.value) js)) places ≡ map (option_map (λ a. a.value)) (bound places js)
written_places js [] = refl
written_places js (q ∷ places) = ap (λ e. e ∷ map (written_at (map (λ g. g.value) js)) places) (written_place js q) ∙ ap (λ es. option_map (λ a. a.value) (argument_at js q) ∷ es) (written_places js places)

-- ---- what is called

abbrev by_literals : Fun → List (Option ℕ) → Bool → Callee
by_literals f places right = if right then function f places else nothing_called

-- the function, with its bound arguments
pub function_called : Laws → (f : Fun) (name : List ℕ) (gs : Args) (js : List Argument) (places : List (Option ℕ)) → (row_of f).name ≡ name → values_of gs ≡ map (λ g. g.value) js → binding (row_of f).parameters (keywords_of gs) ≡ Ok places
    → AreWritten (wants_literal (row_of f)) 0 (row_of f).parameters (bound places js) → callee_of name gs no_closure ≡ function f places
function_called laws f name gs js places is written found right =
    let r = row_of f in
    let named : function_named name ≡ Some f = ap function_named (sym is) ∙ laws.found f in
    neither (is_del name) (is_exists name) (bound_path deletion gs (binding path_parameters (keywords_of gs))) (bound_path existence gs (binding path_parameters (keywords_of gs))) (named_function (function_named name) gs)
    (other_name laws.found f name (codes "del") is no_deletion) (other_name laws.found f name (codes "exists") is no_existence)
    ∙ ap (λ o. named_function o gs) named
    ∙ ap (bound_function f gs) found
    ∙ ap (by_literals f places) (ap (λ es. are_written_right r.accepts 0 r.parameters (map (written_at es) places)) written ∙ ap (are_written_right r.accepts 0 r.parameters) (written_places js places) ∙ all_right r 0 r.parameters (bound places js) right)

-- a removal, and a test, of a path that is written
pub deletion_called : (name : List ℕ) (keyword : Option (List ℕ)) (span place : Span) (root : Root) (path : List Step) (places : List (Option ℕ)) → is_del name ≡ true → binding path_parameters (keyword ∷ []) ≡ Ok places
    → callee_of name (arg keyword span (expr place (read root path)) no_args) no_closure ≡ deletion root path
deletion_called name keyword span place root path places is found =
    let gs = arg keyword span (expr place (read root path)) no_args in
    the_first (is_del name) (bound_path deletion gs (binding path_parameters (keyword ∷ []))) (if is_exists name then bound_path existence gs (binding path_parameters (keyword ∷ [])) else named_function (function_named name) gs) is
    ∙ ap (bound_path deletion gs) found

pub existence_called : (name : List ℕ) (keyword : Option (List ℕ)) (span place : Span) (root : Root) (path : List Step) (places : List (Option ℕ)) → is_exists name ≡ true → binding path_parameters (keyword ∷ []) ≡ Ok places
    → callee_of name (arg keyword span (expr place (read root path)) no_args) no_closure ≡ existence root path
existence_called name keyword span place root path places is found =
    let gs = arg keyword span (expr place (read root path)) no_args in
    let exists : is_del name ≡ false = ap is_del ((bytes_eq-Decides name (codes "exists")).0 is) in
    the_second (is_del name) (is_exists name) (bound_path deletion gs (binding path_parameters (keyword ∷ []))) (bound_path existence gs (binding path_parameters (keyword ∷ []))) (named_function (function_named name) gs) exists is
    ∙ ap (bound_path existence gs) found
