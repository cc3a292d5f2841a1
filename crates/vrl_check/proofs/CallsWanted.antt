-- Calls of functions that take a closure: their own codes, and what there is where none stands.
use Rattle.std.proofs.Common.{◌≡◌, ◌<◌, ◌+◌, ◌⊎◌, inl, inr, ℕ, suc, nat_eq, nat_lt, Bool, true, false, not, List, [], ◌∷◌, ◌++◌, length, Option, Some, None, codes, option_map, Result, Ok, Err, refl, sym, ap, ◌∙◌, subst, arith, rules}
use Rattle.std.proofs.lemmas.Bool.{and_parts, eqb-true, le-ltb, lt-ltb, ltb-false, or_parts, true≢false}
use Rattle.std.proofs.lemmas.List.{length-append}
use Rattle.std.proofs.lemmas.List.Quantifiers.{position-Some}
use Rattle.std.specs.List.{list_any}
use Rattle.vrl_diag.specs.declared.diagnostic.Diagnostic.{Diagnostic}
use Rattle.vrl_diag.specs.declared.diagnostic.Span.{Span}
use Rattle.vrl_diag.specs.Refusal.{is_error}
use Rattle.vrl_builtin.specs.Rows.{parameter, ParameterRow}
use Rattle.vrl_kind.specs.KindTree.{KindTree}
use Rattle.vrl_syntax.specs.Calls.{for_names, has_equal, has_shape}
use Rattle.vrl_syntax.specs.Stores.{hidden_by}
use Rattle.vrl_syntax.specs.Tree.{Closure, no_closure, closure, call}
use Rattle.vrl_syntax.specs.View.{call_of, closure_in, closure_of}
use Rattle.vrl_syntax.specs.declared.call_form.CallForm.{CallForm}
use Rattle.vrl_syntax.specs.declared.call_form.CallForm.TheVariants as form
use Rattle.vrl_syntax.specs.declared.tree.Call.{Call as CodeCall, out-Call}
use Rattle.vrl_syntax.specs.declared.tree.Closure.{Closure as CodeClosure}
use Rattle.vrl_syntax.specs.declared.tree.Form.{the_lemmas}
use Rattle.vrl_syntax.proofs.PartSizes.{closure_size, exprs_size}
use Rattle.vrl_binding.specs.Binding.{binding, bound_from, collection_parameters, collections, first_missing, first_unknown, has_twice, is_unknown, is_wrong_number, Keywords}
use Rattle.vrl_binding.specs.declared.binding.BindFault.{BindFault}
use Rattle.vrl_judge.specs.Closures.{of_wanted_closure}
use Rattle.vrl_judge.specs.Rules.{at, when, Argument}
use Rattle.vrl_judge.proofs.Deleted.{empty_list}
use Rattle.vrl_check.specs.Calling.{call_args, call_bang, call_closure, call_name}
use Rattle.vrl_check.specs.Iterating.{closure_at, closure_items, closure_names, closure_span}
use Rattle.vrl_check.specs.Judgement.{bound, of_arguments, own_codes}
use Rattle.vrl_check.specs.Walking.{FormCanBeJudged, ItemsCanBeJudged}
use Rattle.vrl_check.proofs.CallsAllowed.{no_memory_found, finding, unknown_found, unknown_told}
use Rattle.vrl_check.proofs.CallsFound.{call_seen}
use Rattle.vrl_check.proofs.Capable.{closure_can, none_of_both}
use Rattle.vrl_binding.specs.declared.binding.BindFault.TheVariants as fault

-- ---- codes that were told

-- some code stands where there are more than before
pub counted_more : (before after ds : List Diagnostic) → after ≡ before ++ ds → nat_lt (length before) (length after) ≡ list_any (λ d. true) ds
counted_more before after [] is =
    let same : length after ≡ length before + 0 = ap length is ∙ length-append before [] in
    le-ltb (length before) (length after) (omega (arith, same))
counted_more before after (d ∷ ds) is =
    let more : length after ≡ length before + suc (length ds) = ap length is ∙ length-append before (d ∷ ds) in
    lt-ltb (length before) (length after) (omega (arith, more))

-- the first of them
pub some_code : (ds : List Diagnostic) → list_any (λ d. true) ds ≡ true → (first : Diagnostic) × (others : List Diagnostic) × (ds ≡ first ∷ others)
some_code [] some = absurd (true≢false (sym some))
some_code (d ∷ ds) some = (d, ds, refl)

pub no_code : (ds : List Diagnostic) → list_any (λ d. true) ds ≡ false → ds ≡ []
no_code [] none = refl
no_code (d ∷ ds) none = absurd (true≢false none)

-- ---- the closure of a call

seen_closure : (c : CodeClosure) → closure_of c ≡ closure (closure_names c) (closure_items c) (closure_span c)
seen_closure c = search (rules, the_lemmas)

-- one that is there
pub closure_called : (x : CodeCall) (c : CodeClosure) → closure_at x ≡ Some c → call_closure x ≡ closure (closure_names c) (closure_items c) (closure_span c)
closure_called x c is = ap (λ o. closure_in (option_map closure_of o)) is ∙ seen_closure c

pub closure_sized : (x : CodeCall) (c : CodeClosure) → closure_at x ≡ Some c → closure_size (call_closure x) ≡ exprs_size (closure_items c)
closure_sized x c is = ap closure_size (closure_called x c is)

pub closure_kept : {sources : List (List ℕ)} (x : CodeCall) (c : CodeClosure) → closure_at x ≡ Some c → FormCanBeJudged sources (call_of x) → ItemsCanBeJudged sources (closure_items c)
closure_kept {sources = sources} x c is can =
    let whole = call_seen x ∙ ap (call (call_name x) (out-Call x).name_span (call_bang x) (call_args x)) (closure_called x c is) in
    closure_can (call_name x) (out-Call x).name_span (closure_span c) (call_bang x) (call_args x) (closure_names c) (closure_items c) (subst (FormCanBeJudged sources) whole can)

-- its code
pub wanted_told : (f : CallForm) (c : CodeClosure) (span : Span) (right : Bool) → right ≡ has_shape f (closure_names c) → when (not right) (at 1010 span) ≡ of_wanted_closure f span (closure_of c)
wanted_told f c span right is = ap (λ b. when (not b) (at 1010 span)) is ∙ ap (of_wanted_closure f span) (sym (seen_closure c))

-- ---- a call without a code of its own

abbrev wanted_codes : CallForm → Span → Closure → Keywords → List Argument → List Diagnostic
wanted_codes f span c ks js = own_codes (λ i p e. false) (collection_parameters f) span (of_wanted_closure f span c) js (binding (collection_parameters f) ks)

places_right : (wrong : Bool) (unknown missing : Option ℕ) (places found : List (Option ℕ)) → finding wrong unknown missing places ≡ Ok found → (wrong ≡ false) × (missing ≡ None)
places_right true unknown missing places found is = absurd cc
places_right false (Some u) missing places found is = absurd cc
places_right false None (Some m) places found is = absurd cc
places_right false None None places found is = (refl, refl)

-- one parameter that is required
none_missing : (p : ParameterRow) (ks : Keywords) → p.required ≡ true → ks ≡ [] → first_missing (p ∷ []) (bound_from 0 (p ∷ []) ks) ≡ None → ⊥
none_missing p ks required none present =
    let missing : first_missing (p ∷ []) (bound_from 0 (p ∷ []) []) ≡ None = ap (λ l. first_missing (p ∷ []) (bound_from 0 (p ∷ []) l)) (sym none) ∙ present in
    missing_one p.required required missing
  where
    missing_one : (required : Bool) → required ≡ true → first_missing ((record p { required = required }) ∷ []) (None ∷ []) ≡ None → ⊥
    missing_one true is wrong = cc
    missing_one false is wrong = true≢false (sym is)

-- has one argument
one_given : (f : CallForm) (ks : Keywords) (js : List Argument) (found : List (Option ℕ)) → length ks ≡ length js → binding (collection_parameters f) ks ≡ Ok found → (g : Argument) × (js ≡ g ∷ [])
one_given f ks js found same is = by js refl where
  by : (all : List Argument) → js ≡ all → (g : Argument) × (js ≡ g ∷ [])
  by [] none =
      let ps = collection_parameters f in
      let right = places_right (is_wrong_number ps ks) (first_unknown ps ks) (first_missing ps (bound_from 0 ps ks)) (bound_from 0 ps ks) found is in
      absurd (none_missing (parameter (codes "value") (collections f)) ks refl (empty_list ks (same ∙ ap length none)) right.1)
  by (g ∷ []) one = (g, one)
  by (g ∷ h ∷ rest) more =
      let ps = collection_parameters f in
      let right = places_right (is_wrong_number ps ks) (first_unknown ps ks) (first_missing ps (bound_from 0 ps ks)) (bound_from 0 ps ks) found is in
      let few = ltb-false 1 (length ks) (or_parts (nat_lt 1 (length ks)) (has_twice ks) right.0).0 in
      let count : length js ≡ suc (suc (length rest)) = ap length more in
      absurd (omega (arith, few, same, count))

-- and its closure is one for the function
pub right_call : (f : CallForm) (span : Span) (c : Closure) (ks : Keywords) (js : List Argument) (b : Result (List (Option ℕ)) BindFault) → binding (collection_parameters f) ks ≡ b → length ks ≡ length js
    → own_codes (λ i p e. false) (collection_parameters f) span (of_wanted_closure f span c) js b ≡ [] → (g : Argument) × (js ≡ g ∷ []) × (of_wanted_closure f span c ≡ [])
right_call f span c ks js (Ok found) is same none =
    let one = one_given f ks js found same is in
    (one.0, one.1, (none_of_both (of_arguments (λ i p e. false) 0 (collection_parameters f) (bound found js)) (of_wanted_closure f span c) none).1)
right_call f span c ks js (Err fault.Number) is same none = absurd cc
right_call f span c ks js (Err (fault.Unknown i)) is same none =
    let ps = collection_parameters f in
    let unknown = unknown_found (is_wrong_number ps ks) (first_unknown ps ks) (first_missing ps (bound_from 0 ps ks)) (bound_from 0 ps ks) i is in
    let found = position-Some (is_unknown ps) ks i None unknown in
    let below : i < length js = omega (arith, found.0, same) in
    absurd (true≢false (sym (unknown_told js i below) ∙ ap (list_any is_error) none))
right_call f span c ks js (Err (fault.Missing i)) is same none = absurd cc
right_call f span c ks js (Err fault.Memory) is same none =
    let ps = collection_parameters f in
    absurd (no_memory_found (is_wrong_number ps ks) (first_unknown ps ks) (first_missing ps (bound_from 0 ps ks)) (bound_from 0 ps ks) is)

shaped : (right : Bool) (span : Span) → when (not right) (at 1010 span) ≡ [] → right ≡ true
shaped true span none = refl
shaped false span none = absurd cc

pub right_shape : (f : CallForm) (span : Span) (c : Closure) (x : CodeClosure) (ks : Keywords) (js : List Argument) → c ≡ closure (closure_names x) (closure_items x) (closure_span x) → length ks ≡ length js → wanted_codes f span c ks js ≡ [] → has_shape f (closure_names x) ≡ true
right_shape f span c x ks js is same none =
    let right = right_call f span c ks js (binding (collection_parameters f) ks) refl same none in
    shaped (has_shape f (closure_names x)) span (ap (of_wanted_closure f span) (sym is) ∙ right.2)

-- a call that has one, or has no closure, has some code
pub wrong_code : (f : CallForm) (span : Span) (c : Closure) (ks : Keywords) (js : List Argument) (wrong : Bool) → length ks ≡ length js → wrong ≡ list_any (λ d. true) (wanted_codes f span c ks js) → (wrong ≡ true) ⊎ (c ≡ no_closure)
    → (first : Diagnostic) × (others : List Diagnostic) × (wanted_codes f span c ks js ≡ first ∷ others)
wrong_code f span c ks js wrong same is (inl stands) = some_code (wanted_codes f span c ks js) (sym is ∙ stands)
wrong_code f span c ks js wrong same is (inr none) = by (wanted_codes f span c ks js) refl where
  by : (ds : List Diagnostic) → wanted_codes f span c ks js ≡ ds → (first : Diagnostic) × (others : List Diagnostic) × (wanted_codes f span c ks js ≡ first ∷ others)
  by (d ∷ ds) codes = (d, ds, codes)
  by [] codes =
      let right = right_call f span c ks js (binding (collection_parameters f) ks) refl same codes in
      let wanted : at 1010 span ≡ [] = ap (of_wanted_closure f span) (sym none) ∙ right.2 in
      absurd cc

-- one whose closure is passed by
pub wrong_or_none : (x : CodeCall) (wrong : Bool) → (wrong ≡ true) ⊎ (closure_at x ≡ None) → (wrong ≡ true) ⊎ (call_closure x ≡ no_closure)
wrong_or_none x wrong (inl stands) = inl stands
wrong_or_none x wrong (inr none) = inr (ap (λ o. closure_in (option_map closure_of o)) none)

names_counted : (f : CallForm) (key value : KindTree) → length (for_names {A = Unit {0}} f tt tt) ≡ length (for_names f key value)
names_counted form.ForEach key value = refl
names_counted form.Filter key value = refl
names_counted form.MapValues key value = refl
names_counted form.MapKeys key value = refl
names_counted form.Del key value = refl
names_counted form.Exists key value = refl

-- a closure of the right shape has as many names as it is asked for
pub shape_counted : (f : CallForm) (names : List (List ℕ)) (key value : KindTree) → has_shape f names ≡ true → length names ≡ length (for_names f key value)
shape_counted f names key value is = eqb-true (length names) _ (and_parts (nat_eq (length names) (length (for_names {A = Unit {0}} f tt tt))) (not (has_equal (hidden_by names))) is).0 ∙ names_counted f key value
