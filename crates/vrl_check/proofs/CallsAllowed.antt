-- Where no code stands on a call, what is known of its arguments is allowed: binding gives each required parameter an argument, and an
-- argument without code is the literal that is wanted.
use Rattle.std.proofs.Common.{◌≡◌, ℕ, zero, suc, ◌+◌, ◌<◌, Bool, true, false, not, ◌&&◌, List, [], ◌∷◌, length, map, Option, Some, None, Result, Ok, Err, option_map, is_none, slice_get, refl, sym, ap, ◌∙◌, subst, if◌then◌else◌, arith, add-zero}
use Rattle.std.proofs.lemmas.Bool.{not-false, or_parts, true≢false}
use Rattle.std.proofs.lemmas.List.{length-map}
use Rattle.std.proofs.lemmas.List.Folds.{list_any-append}
use Rattle.std.proofs.lemmas.List.Quantifiers.{position-Some}
use Rattle.std.specs.List.{list_any}
use Rattle.std.specs.Option.{option_map_or}
use Rattle.vrl_value.specs.Tree.{Tree}
use Rattle.vrl_diag.specs.declared.diagnostic.Span.{Span}
use Rattle.vrl_syntax.specs.Tree.{Args, no_args, arg, Closure, span_of}
use Rattle.vrl_kind.specs.KindTree.{KindTree}
use Rattle.vrl_builtin.specs.Conditions.{AreGiven, AreGivenFrom, IsGiven, IsLiteral, IsThere}
use Rattle.vrl_builtin.specs.Rows.{GivenTree, ParameterRow, Row, held}
use Rattle.vrl_builtin.specs.declared.tags.Tags.{Tags as TagSet}
use Rattle.vrl_binding.specs.Binding.{binding, bound_from, bound_or_missing, bound_or_unknown, first_missing, first_unknown, is_keyword, is_unknown, is_wrong_number, keyword_at, keywords_of, positional_at, Keywords}
use Rattle.vrl_table.specs.Table.{row_of}
use Rattle.vrl_binding.specs.declared.binding.BindFault.{BindFault}
use Rattle.vrl_table.specs.declared.function.Fun.{Fun}
use Rattle.vrl_check.specs.Calling.{written, HasCodes, MayBeAsked}
use Rattle.vrl_syntax.specs.Calls.{literal_of}
use Rattle.vrl_diag.specs.Refusal.{is_error}
use Rattle.vrl_judge.specs.Rules.{Argument, argument_at, at, is_disjoint, is_fallible, is_known, when}
use Rattle.vrl_check.specs.Judgement.{bound, of_argument, of_arguments, of_call, of_closure, of_found, of_unknown, places_in, wants_literal, AreAskedAbout, IsAskedAbout}
use Rattle.vrl_check.specs.declared.calls.Arguments.{Arguments}
use Rattle.vrl_binding.specs.declared.binding.BindFault.TheVariants as fault
use Rattle.vrl_check.specs.declared.calls.Callee.TheVariants as callee

-- ---- places that are bound

-- a place, where there is one, is that of an argument
abbrev IsWithin : ℕ → Option ℕ → Type 0
IsWithin n None = Unit {0}
IsWithin n (Some i) = i < n

abbrev AreWithin : ℕ → List (Option ℕ) → Type 0
AreWithin n [] = Unit {0}
AreWithin n (q ∷ qs) = IsWithin n q × AreWithin n qs

keyword_within : (name : List ℕ) (ks : Keywords) → IsWithin (length ks) (keyword_at name ks)
keyword_within name ks = by (keyword_at name ks) refl where
  by : (o : Option ℕ) → keyword_at name ks ≡ o → IsWithin (length ks) o
  by None is = tt
  by (Some i) is = let found = position-Some (is_keyword name) ks i None is in found.0

later : (n : ℕ) (o : Option ℕ) → IsWithin n o → IsWithin (suc n) (option_map suc o)
later n None is = tt
later n (Some i) is = omega arith

positional_within : (i : ℕ) (ks : Keywords) → IsWithin (length ks) (positional_at i ks)
positional_within zero [] = tt
positional_within (suc i) [] = tt
positional_within zero (None ∷ ks) = omega arith
positional_within (suc i) (None ∷ ks) = later (length ks) (positional_at i ks) (positional_within i ks)
positional_within zero (Some k ∷ ks) = later (length ks) (positional_at zero ks) (positional_within zero ks)
positional_within (suc i) (Some k ∷ ks) = later (length ks) (positional_at (suc i) ks) (positional_within (suc i) ks)

next_within : (n : ℕ) (k q : Option ℕ) (named others : List (Option ℕ)) → IsWithin n k → IsWithin n q → AreWithin n named → AreWithin n others → AreWithin n (option_map_or (λ i. Some i ∷ named) k (q ∷ others))
next_within n None q named others in_k in_q in_named in_others = (in_q, in_others)
next_within n (Some i) q named others in_k in_q in_named in_others = (in_k, in_named)

bound_within : (i : ℕ) (ps : List ParameterRow) (ks : Keywords) → AreWithin (length ks) (bound_from i ps ks)
bound_within i [] ks = tt
bound_within i (p ∷ ps) ks = next_within (length ks) (keyword_at p.name ks) (positional_at i ks) (bound_from i ps ks) (bound_from (suc i) ps ks) (keyword_within p.name ks) (positional_within i ks) (bound_within i ps ks) (bound_within (suc i) ps ks)

next_length : (n : ℕ) (k q : Option ℕ) (named others : List (Option ℕ)) → length named ≡ n → length others ≡ n → length (option_map_or (λ i. Some i ∷ named) k (q ∷ others)) ≡ suc n
next_length n None q named others one other = ap suc other
next_length n (Some i) q named others one other = ap suc one

bound_length : (i : ℕ) (ps : List ParameterRow) (ks : Keywords) → length (bound_from i ps ks) ≡ length ps
bound_length i [] ks = refl
bound_length i (p ∷ ps) ks = next_length (length ps) (keyword_at p.name ks) (positional_at i ks) (bound_from i ps ks) (bound_from (suc i) ps ks) (bound_length i ps ks) (bound_length (suc i) ps ks)

-- ---- one argument

-- what is required is there
not_required : (required : Bool) → (required && true) ≡ false → IsThere {A = KindTree} required None
not_required true is = absurd (true≢false is)
not_required false is = tt

is_there : (required : Bool) (K : KindTree) → IsThere required (Some K)
is_there true K = refl
is_there false K = tt

-- what must be a literal is one that is allowed
literal_allowed : (wants : Bool) (accepts : Tree → Bool) (l : Option Tree) → (wants && option_map_or (λ v. not (accepts v)) l true) ≡ false → IsLiteral wants accepts l
literal_allowed true accepts None is = absurd (true≢false is)
literal_allowed true accepts (Some v) is = (refl, not-false (accepts v) is)
literal_allowed false accepts l is = tt

no_error : (fails disjoint unwritten : Bool) (span : Span) → list_any is_error (if fails then at 630 span else (if disjoint then at 110 span else when unwritten (at 1013 span))) ≡ false → unwritten ≡ false
no_error true disjoint unwritten span none = absurd (true≢false none)
no_error false true unwritten span none = absurd (true≢false none)
no_error false false true span none = absurd (true≢false none)
no_error false false false span none = refl

argument_written : (T : TagSet) (unwritten : Bool) (g : Argument) → list_any is_error (of_argument T unwritten g) ≡ false → unwritten ≡ false
argument_written T unwritten g none = no_error (is_fallible g.judged) (is_known g.judged && is_disjoint T g.judged.kind) unwritten (span_of g.value) none

one_allowed : (r : Row) (place : ℕ) (p : ParameterRow) (g : Option Argument) (given : GivenTree) → (p.required && is_none g) ≡ false → list_any is_error (of_found (wants_literal r) place p g) ≡ false → IsAskedAbout p g given
    → IsGiven p (r.accepts place) given.kind given.literal
one_allowed r place p None given present none is =
    subst (λ (x : GivenTree). IsGiven p (r.accepts place) x.kind x.literal) (sym is) (record { there = not_required p.required present; allowed = tt })
one_allowed r place p (Some g) given present none is =
    subst (λ (x : GivenTree). IsGiven p (r.accepts place) x.kind x.literal) (sym is.2) (record {
      there = is_there p.required is.0;
      allowed = literal_allowed p.literal (r.accepts place) (literal_of g.value) (argument_written p.allowed (wants_literal r place p g.value) g none);
    })

-- ---- all arguments

none_at : (js : List Argument) (q : Option ℕ) → IsWithin (length js) q → is_none (argument_at js q) ≡ is_none q
none_at js None is = refl
none_at [] (Some i) is = absurd (omega arith)
none_at (g ∷ js) (Some zero) is = refl
none_at (g ∷ js) (Some (suc i)) is = none_at js (Some i) (omega arith)

not_missing : (missing : Bool) (rest : Option ℕ) → (if missing then Some zero else option_map suc rest) ≡ None → (missing ≡ false) × (rest ≡ None)
not_missing true rest is = absurd cc
not_missing false None is = (refl, refl)
not_missing false (Some i) is = absurd cc

-- of the parameters from a place on
allowed_from : (r : Row) (place : ℕ) (ps : List ParameterRow) (places : List (Option ℕ)) (js : List Argument) (all givens : List GivenTree) → length places ≡ length ps → AreWithin (length js) places → first_missing ps places ≡ None
    → list_any is_error (of_arguments (wants_literal r) place ps (bound places js)) ≡ false → ((i : ℕ) → slice_get all (place + i) ≡ slice_get givens i) → AreAskedAbout ps (bound places js) givens → AreGivenFrom place ps r.accepts all
allowed_from r place [] places js all givens same within present none behind is = tt
allowed_from r place (p ∷ ps) [] js all givens same within present none behind is = absurd (omega arith)
allowed_from r place (p ∷ ps) (q ∷ places) js all [] same within present none behind is = absurd is
allowed_from r place (p ∷ ps) (q ∷ places) js all (given ∷ givens) same within present none behind is =
    let here : slice_get all place ≡ Some given = ap (slice_get all) (sym (add-zero place)) ∙ behind zero in
    let missing = not_missing (p.required && is_none q) (first_missing ps places) present in
    let there : (p.required && is_none (argument_at js q)) ≡ false = ap (λ b. p.required && b) (none_at js q within.0) ∙ missing.0 in
    let codes = or_parts (list_any is_error (of_found (wants_literal r) place p (argument_at js q))) (list_any is_error (of_arguments (wants_literal r) (suc place) ps (bound places js)))
    (sym (list_any-append is_error (of_found (wants_literal r) place p (argument_at js q)) (of_arguments (wants_literal r) (suc place) ps (bound places js)))
    ∙ none)
    in
    let fewer : length places ≡ length ps = omega arith in (
      subst (λ (x : Option GivenTree). IsGiven p (r.accepts place) (held (option_map (λ g. g.kind) x)) (held (option_map (λ g. g.literal) x))) (sym here) (one_allowed r place p (argument_at js q) given there codes.0 is.0),
      allowed_from r (suc place) ps places js all givens fewer within.1 missing.1 codes.1
          (λ i. let same : suc place + i ≡ place + suc i = omega arith in ap (slice_get all) same ∙ behind (suc i)) is.1,
    )

-- ---- what is bound

abbrev pub finding : Bool → Option ℕ → Option ℕ → List (Option ℕ) → Result (List (Option ℕ)) BindFault
finding wrong unknown missing places = if wrong then Err fault.Number else bound_or_unknown unknown (bound_or_missing missing places)

places_found : (wrong : Bool) (unknown missing : Option ℕ) (places found : List (Option ℕ)) → finding wrong unknown missing places ≡ Ok found → (missing ≡ None) × (found ≡ places)
places_found true unknown missing places found is = absurd cc
places_found false (Some u) missing places found is = absurd cc
places_found false None (Some m) places found is = absurd cc
places_found false None None places found is = (refl, cc)

pub unknown_found : (wrong : Bool) (unknown missing : Option ℕ) (places : List (Option ℕ)) (i : ℕ) → finding wrong unknown missing places ≡ Err (fault.Unknown i) → unknown ≡ Some i
unknown_found true unknown missing places i is = absurd cc
unknown_found false (Some u) missing places i is = cc
unknown_found false None (Some m) places i is = absurd cc
unknown_found false None None places i is = absurd cc

pub no_memory_found : (wrong : Bool) (unknown missing : Option ℕ) (places : List (Option ℕ)) → finding wrong unknown missing places ≡ Err fault.Memory → ⊥
no_memory_found true unknown missing places is = cc
no_memory_found false (Some u) missing places is = cc
no_memory_found false None (Some m) places is = cc
no_memory_found false None None places is = cc

keywords_written : (gs : Args) → length (keywords_of gs) ≡ length (written gs)
keywords_written no_args = refl
keywords_written (arg name span e gs) = ap suc (keywords_written gs)

pub keywords_told : (gs : Args) (js : List Argument) → written gs ≡ map (λ g. (g.span, g.value)) js → length (keywords_of gs) ≡ length js
keywords_told gs js is = keywords_written gs ∙ ap length is ∙ length-map js (λ g. (g.span, g.value))

-- a keyword that is no parameter's name has its code
pub unknown_told : (js : List Argument) (i : ℕ) → i < length js → list_any is_error (of_unknown (slice_get js i)) ≡ true
unknown_told [] i is = absurd (omega arith)
unknown_told (g ∷ js) zero is = refl
unknown_told (g ∷ js) (suc i) is = unknown_told js i (omega arith)

-- what is known of the arguments of a call on which no code stands is allowed
call_allowed : (r : Row) (ks : Keywords) (span : Span) (c : Closure) (js : List Argument) (b : Result (List (Option ℕ)) BindFault) → binding r.parameters ks ≡ b → length ks ≡ length js
    → list_any is_error (of_call (wants_literal r) r.parameters span c js b) ≡ false → (givens : List GivenTree) → AreAskedAbout r.parameters (bound (places_in b) js) givens → AreGiven r givens
call_allowed r ks span c js (Ok found) is same none givens given =
    let ps = r.parameters in
    let places = places_found (is_wrong_number ps ks) (first_unknown ps ks) (first_missing ps (bound_from 0 ps ks)) (bound_from 0 ps ks) found is in
    let codes = or_parts (list_any is_error (of_arguments (wants_literal r) 0 ps (bound found js))) (list_any is_error (of_closure span c))
    (sym (list_any-append is_error (of_arguments (wants_literal r) 0 ps (bound found js)) (of_closure span c)) ∙ none)
    in
    let missing : first_missing ps found ≡ None = ap (first_missing ps) places.1 ∙ places.0 in
    let within : AreWithin (length js) found = subst (λ qs. AreWithin (length js) qs) (sym places.1) (subst (λ n. AreWithin n (bound_from 0 ps ks)) same (bound_within 0 ps ks)) in
    allowed_from r 0 ps found js givens givens (ap length places.1 ∙ bound_length 0 ps ks) within missing codes.0 (λ i. let one : 0 + i ≡ i = omega arith in ap (slice_get givens) one) given
call_allowed r ks span c js (Err fault.Number) is same none givens given = absurd (true≢false none)
call_allowed r ks span c js (Err (fault.Unknown i)) is same none givens given =
    let ps = r.parameters in
    let unknown = unknown_found (is_wrong_number ps ks) (first_unknown ps ks) (first_missing ps (bound_from 0 ps ks)) (bound_from 0 ps ks) i is in
    let found = position-Some (is_unknown ps) ks i None unknown in
    let below : i < length js = omega (arith, found.0) in
    absurd (true≢false (sym (unknown_told js i below) ∙ none))
call_allowed r ks span c js (Err (fault.Missing i)) is same none givens given = absurd (true≢false none)
call_allowed r ks span c js (Err fault.Memory) is same none givens given =
    let ps = r.parameters in
    absurd (no_memory_found (is_wrong_number ps ks) (first_unknown ps ks) (first_missing ps (bound_from 0 ps ks)) (bound_from 0 ps ks) is)

pub may_be_asked : (function : Fun) (gs : Args) (c : Closure) (arguments : Arguments) (places : List (Option ℕ)) → HasCodes (callee.Function function) gs c arguments places → arguments.ends.poisoned ≡ false
    → MayBeAsked (row_of function) gs arguments.parts.items places
may_be_asked function gs c arguments places has clean = record {
  js = has.js;
  told = has.told;
  allowed = λ givens given.
      call_allowed (row_of function) (keywords_of gs) has.span c has.js (binding (row_of function).parameters (keywords_of gs)) refl (keywords_told gs has.js has.told.written_are) (has.codes clean) givens
      (subst (λ qs. AreAskedAbout (row_of function).parameters (bound qs has.js) givens) has.places_are given);
}
