-- A call has at most one judgement where its arguments and the body of its closure have one.
use Rattle.std.proofs.Common.{◌≡◌, ℕ, Bool, true, false, ◌||◌, List, [], ◌∷◌, Option, Some, None, IsTrue, ◌↔◌, cond, bytes_eq, codes as bytes_of, refl, sym, ap, ◌∙◌, subst}
use Rattle.std.proofs.lemmas.Bool.{false≢true, true≢false, or_left, or_parts, or_right}
use Rattle.std.proofs.lemmas.Slice.Eq.{bytes_eq-Decides}
use Rattle.vrl_diag.specs.declared.diagnostic.Diagnostic.{Diagnostic}
use Rattle.vrl_diag.specs.declared.diagnostic.Span.{Span}
use Rattle.vrl_syntax.specs.Tree.{Expr, Args, no_args, arg, Closure}
use Rattle.vrl_syntax.specs.declared.call_form.CallForm.{CallForm}
use Rattle.vrl_kind.specs.Canonical.{any_kind}
use Rattle.vrl_kind.specs.KindTree.{KindTree}
use Rattle.vrl_kind.specs.Laws.{EqualTagsAreOneKind}
use Rattle.vrl_kind.specs.PartSets.{parts_at}
use Rattle.vrl_state.specs.States.{IsKnownWithin, RootMap, with_names}
use Rattle.vrl_builtin.specs.Rows.{GivenTree, ParameterRow, Row}
use Rattle.vrl_binding.specs.Binding.{binding, collections, keywords_of, path_parameters}
use Rattle.vrl_table.specs.Table.{row_of, function_named, FormsAreNoFunctions, FunctionsAreFound}
use Rattle.vrl_table.specs.declared.function.Fun.{Fun}
use Rattle.vrl_syntax.specs.Calls.{form_named, is_closure_form, is_exists, literal_of, is_del, takes_closure}
use Rattle.vrl_judge.specs.Closures.{ClosureBody, Try, first_try, second_try, third_try, next_try, call_at, key_tags, left_body, of_body, IsNextTry}
use Rattle.vrl_judge.specs.Rules.{Argument, Judgement, Loop, banged, with_codes, if_state}
use Rattle.vrl_check.specs.Judgement.{JudgesArguments, JudgesBody, JudgesTries, JudgesRuns, AreAskedAbout, IsAnsweredUnless, IsDeletedAt, IsAskedAbout, behind_arguments, body_of, bound, deleted_kind, deleted_path, of_closure_call, passing_closure, places_in, run_through, wants_literal}
use Rattle.vrl_check.specs.Loops.{closures_in_closure, closures_in_exprs}
use Rattle.vrl_check.specs.OpenRules.{OpenRules, LeaveNothingOpen}
use Rattle.vrl_check.proofs.Decided.{arguments_alike, arguments_go, banged_adds, behind_adds, both_decided, by_given, by_rules, judged_alike, next_decided, IsDecided}
use Rattle.vrl_check.proofs.DeterminedPremises.{one_cut, one_cut_down, one_join, one_deleted, some_is, one_turned, one_then, one_unjudged, HasOne, GivesOne, ArgumentsHaveOne, BlockHasOne, ClosureHasOne}
use Rattle.vrl_syntax.specs.Tree as syntax
use Rattle.vrl_syntax.specs.declared.call_form.CallForm.TheVariants as form
use Rattle.vrl_check.specs.Judgement as judging
use Rattle.vrl_judge.specs.Rules as words

-- ---- bodies of closures

one_body : (b : ClosureBody) → BlockHasOne b.items → (rules : OpenRules) (known : Option RootMap) (j k : Judgement) → IsDecided rules j k → JudgesBody rules b known j → JudgesBody rules b known k → j ≡ k
one_body b has rules None j k decided (judging.unreached_body one) (judging.unreached_body two) = ap (λ ts. judging.unreached_parts ts (closures_in_exprs b.items)) (one_unjudged decided one two)
one_body b has rules (Some known) j k decided (judging.reached_body {j = x} one) (judging.reached_body {j = y} two) =
    ap (left_body b known) (has rules true (Some (with_names b.names b.kinds known)) x y decided one two)

-- what is known at the next try, by what is known behind the body
one_next : EqualTagsAreOneKind → (try : Try) (b : ClosureBody) (known : Option RootMap) {behind behind' next next' : Option RootMap} → behind ≡ behind' → IsNextTry try b known behind next → IsNextTry try b known behind' next' → next ≡ next'
one_next kinds first_try b known behind one two = one_turned _ _ (one_join kinds {a = known} {a' = known} refl behind one.1 two.1) one.2 two.2
one_next kinds second_try b known behind one two = one_turned _ _ refl one two
one_next kinds third_try b known behind one two = absurd one

one_try : EqualTagsAreOneKind → (rules : OpenRules) → LeaveNothingOpen rules → (b : ClosureBody) → BlockHasOne b.items → (try : Try) (known last last' : Option RootMap) (k k' : Judgement) → JudgesTries rules b try known last k → JudgesTries rules b try known last' k' → (last ≡ last') × (k ≡ k')
one_try kinds rules decided b has try known last last' k k' (judging.a_stable_try {j = j} one within) (judging.a_stable_try {j = j'} two within') = (refl, one_body b has rules (if_state b.runs known) j j' (by_rules decided) one two)
one_try kinds rules decided b has try known last last' k k' (judging.a_stable_try {j = j} one within) (judging.an_unstable_try {j = j'} two unstable is rest) =
    absurd (unstable (subst (λ x. IsKnownWithin x.ok known) (one_body b has rules (if_state b.runs known) j j' (by_rules decided) one two) within))
one_try kinds rules decided b has try known last last' k k' (judging.an_unstable_try {j = j} one unstable is rest) (judging.a_stable_try {j = j'} two within) =
    absurd (unstable (subst (λ x. IsKnownWithin x.ok known) (one_body b has rules (if_state b.runs known) j' j (by_rules decided) two one) within))
one_try kinds rules decided b has try known last last' k k' (judging.an_unstable_try {next = n} {j = j} one unstable is rest) (judging.an_unstable_try {next = n'} {j = j'} two unstable' is' rest') =
    let same : j ≡ j' = one_body b has rules (if_state b.runs known) j j' (by_rules decided) one two in
    let next : n ≡ n' = one_next kinds try b known (λ i. (same i).ok) is is' in
    one_try kinds rules decided b has (next_try try) n last last' k k' rest (subst (λ s. JudgesTries rules b (next_try try) s last' k') (sym next) rest')

-- two booleans that tell one thing are the same
same_truth : {P : Type 0} (a b : Bool) → (IsTrue a ↔ P) → (IsTrue b ↔ P) → a ≡ b
same_truth true true one two = refl
same_truth true false one two = absurd (false≢true (two.1 (one.0 refl)))
same_truth false true one two = absurd (false≢true (one.1 (two.0 refl)))
same_truth false false one two = refl

one_run : EqualTagsAreOneKind → (rules : OpenRules) (b : ClosureBody) → BlockHasOne b.items → (known : Option RootMap) (loop loop' : Loop) (k k' : Judgement) → IsDecided rules (run_through loop k) (run_through loop' k')
    → JudgesRuns rules b known loop k → JudgesRuns rules b known loop' k' → (loop ≡ loop') × (k ≡ k')
one_run kinds rules b has known loop loop' k k' (by_rules decided) (judging.by_tries {last = last} tried one) (judging.by_tries {last = last'} tried' two) =
    let same : (last ≡ last') × (k ≡ k') = one_try kinds rules decided b has first_try known last last' k k' one two in
    ((λ i. record { known = same.0 i; begins = true; goes_on = true }), same.1)
one_run kinds rules b has known loop loop' k k' (by_rules decided) (judging.by_tries tried one) (judging.by_what_is_given may body begins goes_on) = absurd (false≢true (sym (decided.loop loop') ∙ may))
one_run kinds rules b has known loop loop' k k' (by_rules decided) (judging.by_what_is_given may body begins goes_on) two = absurd (false≢true (sym (decided.loop loop) ∙ may))
one_run kinds rules b has known loop loop' k k' (by_given no_tries same have) (judging.by_tries tried one) two = absurd (false≢true (sym no_tries ∙ tried))
one_run kinds rules b has known loop loop' k k' (by_given no_tries same have) (judging.by_what_is_given may body begins goes_on) (judging.by_tries tried two) = absurd (false≢true (sym no_tries ∙ tried))
one_run kinds rules b has known loop loop' k k' (by_given no_tries same have) (judging.by_what_is_given may one begins goes_on) (judging.by_what_is_given may' two begins' goes_on') =
    let state : loop.known ≡ loop'.known = have.0 in
    let bodies : k ≡ k' = one_body b has rules (if_state b.runs loop'.known) k k' (by_given no_tries same have.1) (subst (λ s. JudgesBody rules b (if_state b.runs s) k) state one) two in
    let begins_so : loop.begins ≡ loop'.begins = same_truth loop.begins loop'.begins (subst (λ s. IsTrue loop.begins ↔ IsKnownWithin known s) state begins) begins' in
    let goes_on_so : loop.goes_on ≡ loop'.goes_on =
    same_truth loop.goes_on loop'.goes_on (subst (λ s. IsTrue loop.goes_on ↔ IsKnownWithin k'.ok s) state (subst (λ x. IsTrue loop.goes_on ↔ IsKnownWithin x.ok loop.known) bodies goes_on)) goes_on'
    in
    ((λ i. record { known = state i; begins = begins_so i; goes_on = goes_on_so i }), bodies)

-- the same where the bodies, and what is known where they begin to run, are the same
one_run_of : EqualTagsAreOneKind → {rules : OpenRules} {b b' : ClosureBody} {known known' : Option RootMap} {loop loop' : Loop} {k k' : Judgement} → IsDecided rules (run_through loop k) (run_through loop' k') → b ≡ b' → known ≡ known'
    → BlockHasOne b'.items → JudgesRuns rules b known loop k → JudgesRuns rules b' known' loop' k' → (loop ≡ loop') × (k ≡ k')
one_run_of kinds {rules = rules} {b = b} {b' = b'} {known' = known'} {loop = loop} {loop' = loop'} {k = k} {k' = k'} decided body known has one two =
    one_run kinds rules b' has known' loop loop' k k' decided (subst (λ c. JudgesRuns rules c known' loop k) body (subst (λ s. JudgesRuns rules b s loop k) known one)) two

-- ---- calls

pub no_arguments_once : ArgumentsHaveOne no_args
no_arguments_once rules inside before js ks j k decided judging.no_more_arguments judging.no_more_arguments = (refl, refl)

pub one_more_argument_of : EqualTagsAreOneKind → (name : Option (List ℕ)) (span : Span) (e : Expr) (gs : Args) → HasOne e → ArgumentsHaveOne gs → ArgumentsHaveOne (arg name span e gs)
one_more_argument_of kinds name span e gs has all rules inside before js ks a b decided
    (judging.one_more_argument {j = j} {middle = m} {js = js'} one then more)
    (judging.one_more_argument {j = k} {middle = n} {js = ks'} one' then' more') =
    let part = next_decided before j m a before k n b (behind_adds before j m then.behind) (arguments_go more) (behind_adds before k n then'.behind) (arguments_go more') (refl, refl) (judged_alike j k one one') decided in
    let same : j ≡ k = has rules inside before.ok j k part one one' in
    let next : m ≡ n = one_then kinds refl same then then' in
    let rest : (js' ≡ ks') × (a ≡ b) = all rules inside n js' ks' a b decided (subst (λ x. JudgesArguments rules inside x gs js' a) next more) more' in
    ((λ i. record { span = span; value = e; judged = same i } ∷ rest.0 i), rest.1)

-- what a function is asked about, and what it answers
one_given_of : EqualTagsAreOneKind → (p : ParameterRow) (g : Option Argument) (x y : GivenTree) → IsAskedAbout p g x → IsAskedAbout p g y → x ≡ y
one_given_of kinds p None x y one two = one ∙ sym two
one_given_of kinds p (Some g) x y one two =
    let made : KindTree → GivenTree = λ K. record { kind = Some K; literal = literal_of g.value } in
    one.2 ∙ ap made (one_cut_down kinds refl refl one.1 two.1) ∙ sym two.2

one_list_of : EqualTagsAreOneKind → (ps : List ParameterRow) (js : List (Option Argument)) (xs ys : List GivenTree) → AreAskedAbout ps js xs → AreAskedAbout ps js ys → xs ≡ ys
one_list_of kinds [] js xs ys one two = one ∙ sym two
one_list_of kinds (p ∷ ps) [] xs ys one two = one ∙ sym two
one_list_of kinds (p ∷ ps) (g ∷ js) [] ys one two = absurd one
one_list_of kinds (p ∷ ps) (g ∷ js) (x ∷ xs) [] one two = absurd two
one_list_of kinds (p ∷ ps) (g ∷ js) (x ∷ xs) (y ∷ ys) one two =
    let first : x ≡ y = one_given_of kinds p g x y one.0 two.0 in
    let rest : xs ≡ ys = one_list_of kinds ps js xs ys one.1 two.1 in
    λ i. first i ∷ rest i

one_answer_of : EqualTagsAreOneKind → (poisoned : Bool) (sources : List (List ℕ)) (r : Row) (js : List (Option Argument)) (K L : KindTree) (may might : Bool) → IsAnsweredUnless poisoned sources r js K may → IsAnsweredUnless poisoned sources r js L might → (K ≡ L) × (may ≡ might)
one_answer_of kinds true sources r js K L may might one two = (one.0 ∙ sym two.0, one.1 ∙ sym two.1)
one_answer_of kinds false sources r js K L may might one two =
    let givens : one.givens ≡ two.givens = one_list_of kinds r.parameters js one.givens two.givens one.given two.given in
    (one_cut kinds (λ i. r.kind (givens i) sources) one.kind two.kind, one.fails ∙ ap (λ xs. judging.some_has_others r.parameters js || r.may_fail xs) givens ∙ sym two.fails)

-- two functions of one name are one
one_function : FunctionsAreFound → (f g : Fun) (name : List ℕ) → (row_of f).name ≡ name → (row_of g).name ≡ name → f ≡ g
one_function names f g name is too = some_is f g (sym (names f) ∙ ap function_named (is ∙ sym too) ∙ names g)

-- a call of `del` is none of `exists`
one_of_two : (name : List ℕ) → is_del name ≡ true → is_exists name ≡ true → ⊥
one_of_two name is too = false≢true (subst (λ word. is_exists word ≡ true) ((bytes_eq-Decides name (bytes_of "del")).0 is) too)

-- and one of nothing is neither
neither : (name : List ℕ) → (is_del name || (is_exists name || takes_closure name)) ≡ false → (is_del name ≡ false) × (is_exists name ≡ false)
neither name other =
    let parts = or_parts (is_del name) (is_exists name || takes_closure name) other in
    (parts.0, (or_parts (is_exists name) (takes_closure name) parts.1).0)

-- ---- calls of closures

-- the form of a name, by what the name is
abbrev form_if : Bool → Bool → Bool → Bool → Bool → Bool → Option CallForm
form_if del exists for_each filter map_values map_keys =
    cond del (Some form.Del) (cond exists (Some form.Exists) (cond for_each (Some form.ForEach) (cond filter (Some form.Filter) (cond map_values (Some form.MapValues) (cond map_keys (Some form.MapKeys) None)))))

no_form : (d e f g m k : Bool) → (d || (e || (f || (g || (m || k))))) ≡ false → form_if d e f g m k ≡ None
no_form false false false false false false none = refl
no_form true e f g m k wrong = absurd (true≢false wrong)
no_form false true f g m k wrong = absurd (true≢false wrong)
no_form false false true g m k wrong = absurd (true≢false wrong)
no_form false false false true m k wrong = absurd (true≢false wrong)
no_form false false false false true k wrong = absurd (true≢false wrong)
no_form false false false false false true wrong = absurd (true≢false wrong)

runs_none : (d e f g m k : Bool) → (d || e) ≡ true → is_closure_form (form_if d e f g m k) ≡ false
runs_none true e f g m k is = refl
runs_none false true f g m k is = refl
runs_none false false f g m k wrong = absurd (false≢true wrong)

some_form : (d e f g m k : Bool) → (d || e) ≡ true → form_if d e f g m k ≡ None → ⊥
some_form true e f g m k is none = let wrong : Some form.Del ≡ None = none in cc
some_form false true f g m k is none = let wrong : Some form.Exists ≡ None = none in cc
some_form false false f g m k wrong none = false≢true wrong

module _ (name : List ℕ) where
  -- a function that runs a closure is neither nothing, nor one of the table, nor `del` or `exists`
  not_nothing : (f : CallForm) → (is_del name || (is_exists name || takes_closure name)) ≡ false → form_named name ≡ Some f → ⊥
  not_nothing f other is =
      let none : form_named name ≡ None = no_form (is_del name) (is_exists name) (bytes_eq name (bytes_of "for_each")) (bytes_eq name (bytes_of "filter")) (bytes_eq name (bytes_of "map_values")) (bytes_eq name (bytes_of "map_keys")) other in
      let wrong : None ≡ Some f = sym none ∙ is in cc

  not_of_table : FormsAreNoFunctions → (function : Fun) (f : CallForm) → (row_of function).name ≡ name → form_named name ≡ Some f → ⊥
  not_of_table forms function f named is = let wrong : None ≡ Some f = sym (forms function) ∙ ap form_named named ∙ is in cc

  not_of_path : (f : CallForm) → (is_del name || is_exists name) ≡ true → form_named name ≡ Some f → is_closure_form (Some f) ≡ true → ⊥
  not_of_path f path is runs =
      let none : is_closure_form (form_named name) ≡ false = runs_none (is_del name) (is_exists name) (bytes_eq name (bytes_of "for_each")) (bytes_eq name (bytes_of "filter")) (bytes_eq name (bytes_of "map_values")) (bytes_eq name (bytes_of "map_keys")) path in
      false≢true (sym none ∙ ap is_closure_form is ∙ runs)

  -- nor is `del`, or `exists`, one of the table
  no_path_of_table : FormsAreNoFunctions → (function : Fun) → (row_of function).name ≡ name → (is_del name || is_exists name) ≡ true → ⊥
  no_path_of_table forms function named path =
      some_form (is_del name) (is_exists name) (bytes_eq name (bytes_of "for_each")) (bytes_eq name (bytes_of "filter")) (bytes_eq name (bytes_of "map_values")) (bytes_eq name (bytes_of "map_keys")) path (sym (ap form_named named) ∙ forms function)

  deletes : is_del name ≡ true → (is_del name || is_exists name) ≡ true
  deletes is = or_left (is_del name) (is_exists name) is

  asks : is_exists name ≡ true → (is_del name || is_exists name) ≡ true
  asks is = or_right (is_del name) (is_exists name) is

first_is : {A : Type 0} (x y : A) → x ∷ [] ≡ y ∷ [] → x ≡ y
first_is x y same = cc

-- a call has a code of its own, or none
told_apart : (span : Span) (gs : Args) (block : Closure) {f f' : CallForm} {js ks : List Argument} {d : Diagnostic} {ds : List Diagnostic} → f ≡ f' → js ≡ ks → of_closure_call f span gs block js ≡ d ∷ ds → of_closure_call f' span gs block ks ≡ [] → ⊥
told_apart span gs block {d = d} {ds = ds} function arguments some none = let wrong : d ∷ ds ≡ [] = sym some ∙ (λ i. of_closure_call (function i) span gs block (arguments i)) ∙ none in cc

-- ---- all calls

-- functions are told by their names, and none of the table has the name of a form
abbrev pub NamesTell : Type 0
NamesTell = FunctionsAreFound × FormsAreNoFunctions

pub one_call : EqualTagsAreOneKind → NamesTell → (span : Span) (name : List ℕ) (place : Span) (bang : Bool) (gs : Args) (block : Closure) → ArgumentsHaveOne gs → ClosureHasOne block → GivesOne span (syntax.call name place bang gs block)
one_call kinds names span name place bang gs block all has rules inside known g h decided
    (judging.a_call_of_nothing {js = js} {j = j} {tags = ts} none other one allowed) (judging.a_call_of_nothing {js = ks} {j = k} {tags = us} none' other' two allowed') =
    let split = both_decided j (judging.unreached_parts ts (closures_in_closure block)) g k (judging.unreached_parts us (closures_in_closure block)) h (record { empties = refl; loops = refl }) (record { empties = refl; loops = refl }) (arguments_alike j k one two) decided in
    let same : j ≡ k = (all rules inside _ js ks j k split.0 one two).1 in
    let passed : ts ≡ us = one_unjudged split.1 allowed allowed' in
    λ i. with_codes (words.at 105 place) (passing_closure block (passed i) (record (same i) { kind = any_kind }))
one_call kinds names span name place bang gs block all has rules inside known g h decided
    (judging.a_call f {js = js} {j = j} {whole = w} {tags = ts} K may fail is one allowed behind answered ends)
    (judging.a_call f' {js = ks} {j = k} {whole = v} {tags = us} L might fail' is' two allowed' behind' answered' ends') =
    let function : f ≡ f' = one_function names.0 f f' name is is' in
    let adds = banged_adds span bang j (judging.unreached_parts ts (closures_in_closure block)) (record w { kind = K; fail = fail }) (record { empties = ap (λ x. x.empties) behind; loops = ap (λ x. x.loops) behind }) in
    let adds' = banged_adds span bang k (judging.unreached_parts us (closures_in_closure block)) (record v { kind = L; fail = fail' }) (record { empties = ap (λ x. x.empties) behind'; loops = ap (λ x. x.loops) behind' }) in
    let split = both_decided j (judging.unreached_parts ts (closures_in_closure block)) g k (judging.unreached_parts us (closures_in_closure block)) h adds adds' (arguments_alike j k one two) decided in
    let parts : (js ≡ ks) × (j ≡ k) = all rules inside _ js ks j k split.0 one two in
    let passed : ts ≡ us = one_unjudged split.1 allowed allowed' in
    let whole : w ≡ v = behind ∙ (λ i. behind_arguments (wants_literal (row_of (function i))) (row_of (function i)).parameters span gs block (passed i) (parts.0 i) (parts.1 i)) ∙ sym behind' in
    let bound_in : Fun → List Argument → List (Option Argument) = λ x xs. bound (places_in (binding (row_of x).parameters (keywords_of gs))) xs in
    let by_function : IsAnsweredUnless w.poisoned rules.sources (row_of f') (bound_in f' js) K may = subst (λ x. IsAnsweredUnless w.poisoned rules.sources (row_of x) (bound_in x js) K may) function answered in
    let by_arguments : IsAnsweredUnless w.poisoned rules.sources (row_of f') (bound_in f' ks) K may = subst (λ xs. IsAnsweredUnless w.poisoned rules.sources (row_of f') (bound_in f' xs) K may) parts.0 by_function in
    let by_whole : IsAnsweredUnless v.poisoned rules.sources (row_of f') (bound_in f' ks) K may = subst (λ x. IsAnsweredUnless x.poisoned rules.sources (row_of f') (bound_in f' ks) K may) whole by_arguments in
    let answer : (K ≡ L) × (may ≡ might) = one_answer_of kinds v.poisoned rules.sources (row_of f') (bound_in f' ks) K L may might by_whole answered' in
    let fails : fail ≡ fail' = one_join kinds (λ i. (whole i).fail) (λ i. if_state (answer.1 i) (whole i).ok) ends ends' in
    λ i. banged span bang (record (whole i) { kind = answer.0 i; fail = fails i })
one_call kinds names span name place bang gs block all has rules inside known g h decided
    (judging.a_deletion {js = js} {j = j} {whole = w} {tags = ts} ok is one allowed behind deleted)
    (judging.a_deletion {js = ks} {j = k} {whole = v} {tags = us} ok' is' two allowed' behind' deleted') =
    let adds = banged_adds span bang j (judging.unreached_parts ts (closures_in_closure block)) (record w { kind = deleted_kind w.poisoned js; ok = ok }) (record { empties = ap (λ x. x.empties) behind; loops = ap (λ x. x.loops) behind }) in
    let adds' = banged_adds span bang k (judging.unreached_parts us (closures_in_closure block)) (record v { kind = deleted_kind v.poisoned ks; ok = ok' }) (record { empties = ap (λ x. x.empties) behind'; loops = ap (λ x. x.loops) behind' }) in
    let split = both_decided j (judging.unreached_parts ts (closures_in_closure block)) g k (judging.unreached_parts us (closures_in_closure block)) h adds adds' (arguments_alike j k one two) decided in
    let parts : (js ≡ ks) × (j ≡ k) = all rules inside _ js ks j k split.0 one two in
    let passed : ts ≡ us = one_unjudged split.1 allowed allowed' in
    let whole : w ≡ v = behind ∙ (λ i. behind_arguments judging.wants_path path_parameters span gs block (passed i) (parts.0 i) (parts.1 i)) ∙ sym behind' in
    let by_arguments : IsDeletedAt (deleted_path w.poisoned ks) w.ok ok = subst (λ xs. IsDeletedAt (deleted_path w.poisoned xs) w.ok ok) parts.0 deleted in
    let by_whole : IsDeletedAt (deleted_path v.poisoned ks) v.ok ok = subst (λ x. IsDeletedAt (deleted_path x.poisoned ks) x.ok ok) whole by_arguments in
    let left : ok ≡ ok' = one_deleted kinds (deleted_path v.poisoned ks) v.ok ok ok' by_whole deleted' in
    λ i. banged span bang (record (whole i) { kind = deleted_kind (whole i).poisoned (parts.0 i); ok = left i })
one_call kinds names span name place bang gs block all has rules inside known g h decided
    (judging.an_existence {js = js} {j = j} {whole = w} {tags = ts} K is one allowed behind cut)
    (judging.an_existence {js = ks} {j = k} {whole = v} {tags = us} L is' two allowed' behind' cut') =
    let adds = banged_adds span bang j (judging.unreached_parts ts (closures_in_closure block)) (record w { kind = K }) (record { empties = ap (λ x. x.empties) behind; loops = ap (λ x. x.loops) behind }) in
    let adds' = banged_adds span bang k (judging.unreached_parts us (closures_in_closure block)) (record v { kind = L }) (record { empties = ap (λ x. x.empties) behind'; loops = ap (λ x. x.loops) behind' }) in
    let split = both_decided j (judging.unreached_parts ts (closures_in_closure block)) g k (judging.unreached_parts us (closures_in_closure block)) h adds adds' (arguments_alike j k one two) decided in
    let parts : (js ≡ ks) × (j ≡ k) = all rules inside _ js ks j k split.0 one two in
    let passed : ts ≡ us = one_unjudged split.1 allowed allowed' in
    let whole : w ≡ v = behind ∙ (λ i. behind_arguments judging.wants_path path_parameters span gs block (passed i) (parts.0 i) (parts.1 i)) ∙ sym behind' in
    let kind : K ≡ L = one_cut kinds refl cut cut' in
    λ i. banged span bang (record (whole i) { kind = kind i })
one_call kinds names span name place bang gs block all has rules inside known g h decided
    (judging.a_wrong_closure_call f {js = js} {j = j} {tags = ts} first others is runs one allowed codes)
    (judging.a_wrong_closure_call f' {js = ks} {j = k} {tags = us} first' others' is' runs' two allowed' codes') =
    let function : f ≡ f' = some_is f f' (sym is ∙ is') in
    let adds = banged_adds span bang j (judging.unreached_parts ts (closures_in_closure block)) (with_codes (first ∷ others) (passing_closure block ts (record j { kind = any_kind }))) (record { empties = refl; loops = refl }) in
    let adds' = banged_adds span bang k (judging.unreached_parts us (closures_in_closure block)) (with_codes (first' ∷ others') (passing_closure block us (record k { kind = any_kind }))) (record { empties = refl; loops = refl }) in
    let split = both_decided j (judging.unreached_parts ts (closures_in_closure block)) g k (judging.unreached_parts us (closures_in_closure block)) h adds adds' (arguments_alike j k one two) decided in
    let parts : (js ≡ ks) × (j ≡ k) = all rules inside _ js ks j k split.0 one two in
    let told : first ∷ others ≡ first' ∷ others' = sym codes ∙ (λ i. of_closure_call (function i) span gs block (parts.0 i)) ∙ codes' in
    let passed : ts ≡ us = one_unjudged split.1 allowed allowed' in
    λ i. banged span bang (with_codes (told i) (passing_closure block (passed i) (record (parts.1 i) { kind = any_kind })))
one_call kinds names span name place bang gs block all has rules inside known g h decided
    (judging.a_closure_call f {names = bars} {es = es} {t = t} {g = x} {j = j} C key value loop {k = k} {whole = w} K fail is runs one no_codes cut_down key_cut value_cut all_runs then kind_cut ends)
    (judging.a_closure_call f' {g = y} {j = j'} C' key' value' loop' {k = k'} {whole = w'} K' fail' is' runs' two no_codes' cut_down' key_cut' value_cut' all_runs' then' kind_cut' ends') =
    let function : f ≡ f' = some_is f f' (sym is ∙ is') in
    let adds = banged_adds span bang j (run_through loop k) (with_codes (of_body f t k) (record w { kind = K; fail = fail })) (record { empties = then.behind.empties; loops = then.behind.loops }) in
    let adds' = banged_adds span bang j' (run_through loop' k') (with_codes (of_body f' t k') (record w' { kind = K'; fail = fail' })) (record { empties = then'.behind.empties; loops = then'.behind.loops }) in
    let split = both_decided j (run_through loop k) g j' (run_through loop' k') h adds adds' (arguments_alike j j' one two) decided in
    let parts : (x ∷ [] ≡ y ∷ []) × (j ≡ j') = all rules inside _ (x ∷ []) (y ∷ []) j j' split.0 one two in
    let argument : x ≡ y = first_is x y parts.0 in
    let collection : C ≡ C' = one_cut_down kinds (ap collections function) (λ i. (argument i).judged.kind) cut_down cut_down' in
    let key_kind : key ≡ key' = one_cut kinds (λ i. words.scalars_at (key_tags (collection i))) key_cut key_cut' in
    let value_kind : value ≡ value' = one_cut kinds (λ i. parts_at (collection i)) value_cut value_cut' in
    let body : body_of f bars es key value ≡ body_of f' bars es key' value' = λ i. body_of (function i) bars es (key_kind i) (value_kind i) in
    let run : (loop ≡ loop') × (k ≡ k') = one_run_of kinds split.1 body (λ i. (parts.1 i).ok) has all_runs all_runs' in
    let whole : w ≡ w' = one_then kinds parts.1 (λ i. run_through (run.0 i) (run.1 i)) then then' in
    let kind : K ≡ K' = one_cut kinds (λ i. call_at (function i) (collection i) (run.1 i).kind) kind_cut kind_cut' in
    let fails : fail ≡ fail' = one_join kinds (λ i. (whole i).fail) (λ i. if_state (words.has_others (collections (function i)) (argument i).judged.kind) (parts.1 i).ok) ends ends' in
    λ i. banged span bang (with_codes (of_body (function i) t (run.1 i)) (record (whole i) { kind = kind i; fail = fails i }))
one_call kinds names span name place bang gs block all has rules inside known g h decided
    (judging.a_wrong_closure_call f {js = js} {j = j} {tags = ts} first others is runs one allowed codes)
    (judging.a_closure_call f' {t = t} {g = y} {j = k} C key value loop {k = m} {whole = w} K fail is' runs' two no_codes cut_down key_cut value_cut all_runs then kind_cut ends) =
    let adds = banged_adds span bang j (judging.unreached_parts ts (closures_in_closure block)) (with_codes (first ∷ others) (passing_closure block ts (record j { kind = any_kind }))) (record { empties = refl; loops = refl }) in
    let adds' = banged_adds span bang k (run_through loop m) (with_codes (of_body f' t m) (record w { kind = K; fail = fail })) (record { empties = then.behind.empties; loops = then.behind.loops }) in
    let split = both_decided j (judging.unreached_parts ts (closures_in_closure block)) g k (run_through loop m) h adds adds' (arguments_alike j k one two) decided in
    absurd (told_apart span gs block (some_is f f' (sym is ∙ is')) (all rules inside _ js (y ∷ []) j k split.0 one two).0 codes no_codes)
one_call kinds names span name place bang gs block all has rules inside known g h decided
    (judging.a_closure_call f' {t = t} {g = y} {j = k} C key value loop {k = m} {whole = w} K fail is' runs' two no_codes cut_down key_cut value_cut all_runs then kind_cut ends)
    (judging.a_wrong_closure_call f {js = js} {j = j} {tags = ts} first others is runs one allowed codes) =
    let adds = banged_adds span bang j (judging.unreached_parts ts (closures_in_closure block)) (with_codes (first ∷ others) (passing_closure block ts (record j { kind = any_kind }))) (record { empties = refl; loops = refl }) in
    let adds' = banged_adds span bang k (run_through loop m) (with_codes (of_body f' t m) (record w { kind = K; fail = fail })) (record { empties = then.behind.empties; loops = then.behind.loops }) in
    let split = both_decided k (run_through loop m) g j (judging.unreached_parts ts (closures_in_closure block)) h adds' adds (arguments_alike k j two one) decided in
    absurd (told_apart span gs block (some_is f f' (sym is ∙ is')) (sym (all rules inside _ (y ∷ []) js k j split.0 two one).0) codes no_codes)
one_call kinds names span name place bang gs block all has rules inside known g h decided (judging.a_call_of_nothing none other one allowed) (judging.a_call f K may fail is two allowed' behind answered ends) = absurd (none f is)
one_call kinds names span name place bang gs block all has rules inside known g h decided (judging.a_call f K may fail is two allowed behind answered ends) (judging.a_call_of_nothing none other one allowed') = absurd (none f is)
one_call kinds names span name place bang gs block all has rules inside known g h decided (judging.a_call_of_nothing none other one allowed) (judging.a_deletion ok is two allowed' behind deleted) = absurd (false≢true (sym (neither name other).0 ∙ is))
one_call kinds names span name place bang gs block all has rules inside known g h decided (judging.a_deletion ok is two allowed behind deleted) (judging.a_call_of_nothing none other one allowed') = absurd (false≢true (sym (neither name other).0 ∙ is))
one_call kinds names span name place bang gs block all has rules inside known g h decided (judging.a_call_of_nothing none other one allowed) (judging.an_existence K is two allowed' behind cut) = absurd (false≢true (sym (neither name other).1 ∙ is))
one_call kinds names span name place bang gs block all has rules inside known g h decided (judging.an_existence K is two allowed behind cut) (judging.a_call_of_nothing none other one allowed') = absurd (false≢true (sym (neither name other).1 ∙ is))
one_call kinds names span name place bang gs block all has rules inside known g h decided (judging.a_call f K may fail named one allowed behind answered ends) (judging.a_deletion ok is two allowed' behind' deleted) = absurd (no_path_of_table name names.1 f named (deletes name is))
one_call kinds names span name place bang gs block all has rules inside known g h decided (judging.a_deletion ok is two allowed behind' deleted) (judging.a_call f K may fail named one allowed' behind answered ends) = absurd (no_path_of_table name names.1 f named (deletes name is))
one_call kinds names span name place bang gs block all has rules inside known g h decided (judging.a_call f K may fail named one allowed behind answered ends) (judging.an_existence L is two allowed' behind' cut) = absurd (no_path_of_table name names.1 f named (asks name is))
one_call kinds names span name place bang gs block all has rules inside known g h decided (judging.an_existence L is two allowed behind' cut) (judging.a_call f K may fail named one allowed' behind answered ends) = absurd (no_path_of_table name names.1 f named (asks name is))
one_call kinds names span name place bang gs block all has rules inside known g h decided (judging.a_deletion ok is one allowed behind deleted) (judging.an_existence K too two allowed' behind' cut) = absurd (one_of_two name is too)
one_call kinds names span name place bang gs block all has rules inside known g h decided (judging.an_existence K too two allowed behind' cut) (judging.a_deletion ok is one allowed' behind deleted) = absurd (one_of_two name is too)
one_call kinds names span name place bang gs block all has rules inside known g h decided (judging.a_call_of_nothing none other one allowed) (judging.a_wrong_closure_call f first others is runs two allowed' codes) = absurd (not_nothing name f other is)
one_call kinds names span name place bang gs block all has rules inside known g h decided (judging.a_wrong_closure_call f first others is runs two allowed codes) (judging.a_call_of_nothing none other one allowed') = absurd (not_nothing name f other is)
one_call kinds names span name place bang gs block all has rules inside known g h decided (judging.a_call_of_nothing none other one allowed) (judging.a_closure_call f C key value loop L fails is runs two no_codes cut_down key_cut value_cut all_runs then kind_cut joins) = absurd (not_nothing name f other is)
one_call kinds names span name place bang gs block all has rules inside known g h decided (judging.a_closure_call f C key value loop L fails is runs two no_codes cut_down key_cut value_cut all_runs then kind_cut joins) (judging.a_call_of_nothing none other one allowed) = absurd (not_nothing name f other is)
one_call kinds names span name place bang gs block all has rules inside known g h decided (judging.a_call function K may fail named one allowed behind answered ends) (judging.a_wrong_closure_call f first others is runs two allowed' codes) = absurd (not_of_table name names.1 function f named is)
one_call kinds names span name place bang gs block all has rules inside known g h decided (judging.a_wrong_closure_call f first others is runs two allowed codes) (judging.a_call function K may fail named one allowed' behind answered ends) = absurd (not_of_table name names.1 function f named is)
one_call kinds names span name place bang gs block all has rules inside known g h decided (judging.a_call function K may fail named one allowed behind answered ends) (judging.a_closure_call f C key value loop L fails is runs two no_codes cut_down key_cut value_cut all_runs then kind_cut joins) = absurd (not_of_table name names.1 function f named is)
one_call kinds names span name place bang gs block all has rules inside known g h decided (judging.a_closure_call f C key value loop L fails is runs two no_codes cut_down key_cut value_cut all_runs then kind_cut joins) (judging.a_call function K may fail named one allowed behind answered ends) = absurd (not_of_table name names.1 function f named is)
one_call kinds names span name place bang gs block all has rules inside known g h decided (judging.a_deletion ok del one allowed behind deleted) (judging.a_wrong_closure_call f first others is runs two allowed' codes) = absurd (not_of_path name f (deletes name del) is runs)
one_call kinds names span name place bang gs block all has rules inside known g h decided (judging.a_wrong_closure_call f first others is runs two allowed codes) (judging.a_deletion ok del one allowed' behind deleted) = absurd (not_of_path name f (deletes name del) is runs)
one_call kinds names span name place bang gs block all has rules inside known g h decided (judging.a_deletion ok del one allowed behind deleted) (judging.a_closure_call f C key value loop L fails is runs two no_codes cut_down key_cut value_cut all_runs then kind_cut joins) = absurd (not_of_path name f (deletes name del) is runs)
one_call kinds names span name place bang gs block all has rules inside known g h decided (judging.a_closure_call f C key value loop L fails is runs two no_codes cut_down key_cut value_cut all_runs then kind_cut joins) (judging.a_deletion ok del one allowed behind deleted) = absurd (not_of_path name f (deletes name del) is runs)
one_call kinds names span name place bang gs block all has rules inside known g h decided (judging.an_existence K exists one allowed behind cut) (judging.a_wrong_closure_call f first others is runs two allowed' codes) = absurd (not_of_path name f (asks name exists) is runs)
one_call kinds names span name place bang gs block all has rules inside known g h decided (judging.a_wrong_closure_call f first others is runs two allowed codes) (judging.an_existence K exists one allowed' behind cut) = absurd (not_of_path name f (asks name exists) is runs)
one_call kinds names span name place bang gs block all has rules inside known g h decided (judging.an_existence K exists one allowed behind cut) (judging.a_closure_call f C key value loop L fails is runs two no_codes cut_down key_cut value_cut all_runs then kind_cut joins) = absurd (not_of_path name f (asks name exists) is runs)
one_call kinds names span name place bang gs block all has rules inside known g h decided (judging.a_closure_call f C key value loop L fails is runs two no_codes cut_down key_cut value_cut all_runs then kind_cut joins) (judging.an_existence K exists one allowed behind cut) = absurd (not_of_path name f (asks name exists) is runs)
