-- What is linked can be run: its variables have numbers, what it writes and deletes keeps the limits, its literals are well-formed, and its calls
-- give each parameter what it wants.
use Rattle.std.proofs.Common.{◌≡◌, ℕ, zero, suc, ◌<◌, Bool, true, false, ◌&&◌, ◌||◌, List, [], ◌∷◌, ◌++◌, length, map, Option, Some, None, option_to_list, slice_get, nat_lt, pos, negsuc, refl, sym, ap, ◌∙◌, subst, arith, if◌then◌else◌}
use Rattle.std.proofs.lemmas.Bool.{true≢false, ltb-false}
use Rattle.std.proofs.lemmas.List.Elements.{All-cons, All-nil}
use Rattle.std.specs.List.{list_any}
use Rattle.std.specs.Option.{option_map_or}
use Rattle.std.specs.Prelude.{IsSome}
use Rattle.std.specs.declared.result.Result.{Result}
use Rattle.std.specs.declared.result.Result.TheVariants.{Ok, Err}
use Rattle.vrl_value.specs.Tree.{Tree}
use Rattle.vrl_value.specs.declared.value.Tag.{Tag}
use Rattle.vrl_path.specs.Steps.{IsWritable, IsWritableStep}
use Rattle.vrl_path.specs.declared.path.Step.{Step}
use Rattle.vrl_path.specs.declared.path.Step.TheVariants.{Field, Place as Index}
use Rattle.vrl_diag.specs.declared.diagnostic.Diagnostic.{Diagnostic}
use Rattle.vrl_diag.specs.declared.diagnostic.Span.{Span}
use Rattle.vrl_syntax.specs.Calls.{form_named, has_shape, is_closure_form, is_del, is_exists, literal_of}
use Rattle.vrl_syntax.specs.Limits.{args_faults, arms_faults, else_faults, expr_faults, exprs_faults, fault_at, faults_at, form_faults, is_out_of_range, path_faults, pairs_faults, target_faults}
use Rattle.vrl_syntax.specs.Regexes.{args_regexes_below, arms_regexes_below, else_regexes_below, expr_regexes_below, exprs_regexes_below, form_regexes_below, pairs_regexes_below}
use Rattle.vrl_syntax.specs.Tree.{Expr, expr, Form, Exprs, Pairs, Arms, Else, Args, Closure, no_closure, closure, literal}
use Rattle.vrl_syntax.specs.Tree as tree
use Rattle.vrl_syntax.specs.declared.call_form.CallForm.{CallForm}
use Rattle.vrl_syntax.specs.declared.root.Target.{Target}
use Rattle.vrl_syntax.specs.declared.root.Target.TheVariants as target
use Rattle.vrl_builtin.specs.Rows.{ParameterRow}
use Rattle.vrl_binding.specs.Binding.{binding, collection_parameters, keywords_of, path_parameters}
use Rattle.vrl_table.specs.Table.{function_named, row_of}
use Rattle.vrl_binding.specs.declared.binding.BindFault.{BindFault}
use Rattle.vrl_table.specs.declared.function.Fun.{Fun}
use Rattle.vrl_store.specs.StoreView.{Names}
use Rattle.vrl_store.specs.declared.target_path.TargetPath.{TargetPath}
use Rattle.vrl_resolve.specs.Calls as called
use Rattle.vrl_resolve.specs.Calls.{are_written_right, is_written_right, values_of, written_at}
use Rattle.vrl_resolve.specs.Fits.{part_at, AllFit, AreGiven, AreKnownSlots, ArmsFit, ElseFits, Fits, IsAllowedPart, IsAllowedPartIf, IsCallee, IsGiven, IsTarget, PairsFit}
use Rattle.vrl_resolve.specs.Linked as linked
use Rattle.vrl_resolve.specs.Linked.{Linked, Parts}
use Rattle.vrl_resolve.specs.LinkedMeaning.{slots_in}
use Rattle.vrl_resolve.specs.Linking.{AreArgsLinked, AreArmsLinked, AreLinked, ArePairsLinked, AreSlotsOf, IsCalleeOf, IsElseLinked, IsLinked, IsLinkedForm, IsTargetOf, stands, a_literal, an_array, an_object, a_read, a_query, a_group, a_block, a_conditional, a_negation, a_binary, an_assignment, a_merge, an_error_assignment, a_call, an_iteration, a_return, a_bare_abort, an_abort, none_linked, one_linked, no_pair, one_pair, no_arm, one_arm, no_last, a_last, no_argument, one_argument}
use Rattle.vrl_resolve.specs.declared.node.Callee.{Callee}
use Rattle.vrl_resolve.specs.declared.node.Callee.TheVariants as callee
use Rattle.vrl_resolve.proofs.BoundPlaces.{places_are, ArePlaced, IsPlaced}

-- ---- parts of what holds of the whole

no_front : (xs ys : List Diagnostic) → xs ++ ys ≡ [] → xs ≡ []
no_front [] ys none = refl
no_front (x ∷ xs) ys none = absurd cc

no_back : (xs ys : List Diagnostic) → xs ++ ys ≡ [] → ys ≡ []
no_back [] ys none = none
no_back (x ∷ xs) ys none = absurd cc

left_holds : (a b : Bool) → (a && b) ≡ true → a ≡ true
left_holds true b is = refl
left_holds false b is = is

right_holds : (a b : Bool) → (a && b) ≡ true → b ≡ true
right_holds true b is = is
right_holds false b is = absurd (true≢false (sym is))

-- ---- paths that keep the limits

no_fault : (fault : Option Diagnostic) → option_to_list fault ≡ [] → fault ≡ None
no_fault None none = refl
no_fault (Some d) none = absurd cc

keeps_limits : (long out : Bool) (d : Diagnostic) → (if long || out then Some d else None) ≡ None → out ≡ false
keeps_limits true out d none = absurd cc
keeps_limits false true d none = absurd cc
keeps_limits false false d none = refl

first_false : (a b : Bool) → (a || b) ≡ false → a ≡ false
first_false false b is = refl
first_false true b is = is

second_false : (a b : Bool) → (a || b) ≡ false → b ≡ false
second_false false b is = is
second_false true b is = absurd (true≢false is)

writable_step : (s : Step) → is_out_of_range s ≡ false → IsWritableStep s
writable_step (Field name) within = tt
writable_step (Index (pos i)) within = ltb-false 65535 i within
writable_step (Index (negsuc i)) within = ltb-false 65536 (suc i) within

writable_path : (path : List Step) → list_any is_out_of_range path ≡ false → IsWritable path
writable_path [] within = All-nil IsWritableStep
writable_path (s ∷ path) within =
    All-cons IsWritableStep s path (writable_step s (first_false (is_out_of_range s) _ within)) (writable_path path (second_false (is_out_of_range s) _ within))

limits_kept : (span : Span) (path : List Step) → faults_at span path ≡ [] → list_any is_out_of_range path ≡ false
limits_kept span path none = keeps_limits (nat_lt 128 (length path)) (list_any is_out_of_range path) _ (no_fault (fault_at span path) none)

target_fits : (names : Names) (t : Target) (place : Option TargetPath) → IsTargetOf names t place → target_faults t ≡ [] → IsTarget (length names) place
target_fits names target.Nowhere None is none = tt
target_fits names target.Nowhere (Some place) is none = absurd is
target_fits names (target.Place span root path) None is none = absurd is
target_fits names (target.Place span root path) (Some place) is none =
    (is.begins.known, subst IsWritable (sym is.steps) (writable_path path (limits_kept span path none)))

-- ---- which way a call was looked up

abbrev is_function : called.Callee → Bool
is_function (called.function f places) = true
is_function c = false

path_no_function : (es : List Expr) → (is_function (called.path_callee called.deletion es) ≡ false) × (is_function (called.path_callee called.existence es) ≡ false)
path_no_function [] = (refl, refl)
path_no_function (expr span (tree.read root path) ∷ []) = (refl, refl)
path_no_function (expr span f ∷ []) = (refl, refl)
path_no_function (expr span (tree.read root path) ∷ e ∷ es) = (refl, refl)
path_no_function (expr span f ∷ e ∷ es) = (refl, refl)

-- what runs a closure is no function
closure_no_function : (f : Option CallForm) (xs : List (List ℕ)) (gs : Args) → is_function (called.closure_callee f xs gs) ≡ false
closure_no_function None xs gs = refl
closure_no_function (Some f) xs gs = chosen (is_closure_form (Some f) && has_shape f xs) (binding (collection_parameters f) (keywords_of gs)) where
  chosen : (b : Bool) (bound : Result (List (Option ℕ)) BindFault) → is_function (if b then called.bound_iteration f bound else called.nothing_called) ≡ false
  chosen false bound = refl
  chosen true (Ok places) = refl
  chosen true (Err fault) = refl

-- ---- functions

-- the function takes the arguments as they are written, at these places
abbrev IsBoundTo : Fun → Args → List (Option ℕ) → Type 0
IsBoundTo f gs places = (binding (row_of f).parameters (keywords_of gs) ≡ Ok places) × (are_written_right (row_of f).accepts 0 (row_of f).parameters (map (written_at (values_of gs)) places) ≡ true)

written_is : (g : Fun) (gs : Args) (ps : List (Option ℕ)) (b : Bool) (f : Fun) (places : List (Option ℕ)) → binding (row_of g).parameters (keywords_of gs) ≡ Ok ps
    → are_written_right (row_of g).accepts 0 (row_of g).parameters (map (written_at (values_of gs)) ps) ≡ b → called.function f places ≡ (if b then called.function g ps else called.nothing_called) → IsBoundTo f gs places
written_is g gs ps false f places bound right is = absurd (true≢false (ap is_function is))
written_is g gs ps true f places bound right is =
    let one : g ≡ f = cc in
    let same : ps ≡ places = cc in
    subst (λ h. IsBoundTo h gs places) one (subst (IsBoundTo g gs) same (bound, right))

bound_is : (g : Fun) (gs : Args) (b : Result (List (Option ℕ)) BindFault) (f : Fun) (places : List (Option ℕ)) → binding (row_of g).parameters (keywords_of gs) ≡ b → called.function f places ≡ called.bound_function g gs b → IsBoundTo f gs places
bound_is g gs (Err fault) f places bound is = absurd (true≢false (ap is_function is))
bound_is g gs (Ok ps) f places bound is = written_is g gs ps _ f places bound refl is

named_is : (o : Option Fun) (gs : Args) (f : Fun) (places : List (Option ℕ)) → called.function f places ≡ called.named_function o gs → IsBoundTo f gs places
named_is None gs f places is = absurd (true≢false (ap is_function is))
named_is (Some g) gs f places is = bound_is g gs _ f places refl is

function_is : (dels exists : Bool) (b : Result (List (Option ℕ)) BindFault) (gs : Args) (o : Option Fun) (f : Fun) (places : List (Option ℕ))
    → called.function f places ≡ (if dels then called.bound_path called.deletion gs b else (if exists then called.bound_path called.existence gs b else called.named_function o gs))
    → IsBoundTo f gs places
function_is true exists (Ok ps) gs o f places is = absurd (true≢false (ap is_function is ∙ (path_no_function (values_of gs)).0))
function_is true exists (Err fault) gs o f places is = absurd (true≢false (ap is_function is))
function_is false true (Ok ps) gs o f places is = absurd (true≢false (ap is_function is ∙ (path_no_function (values_of gs)).1))
function_is false true (Err fault) gs o f places is = absurd (true≢false (ap is_function is))
function_is false false b gs o f places is = named_is o gs f places is

-- the argument and the part at a place
abbrev IsPartAt : Names → Args → Parts → ℕ → Type 0
IsPartAt names gs ns place = (e : Expr) × (n : Linked) × (tags : List Tag) × (slice_get (values_of gs) place ≡ Some e) × (part_at place ns ≡ Some n) × IsLinked names tags e n

part_there : {names : Names} {tags : List Tag} {gs : Args} {ns : Parts} → AreArgsLinked names tags gs ns → (place : ℕ) → place < length (keywords_of gs) → IsPartAt names gs ns place
part_there no_argument place below = absurd (omega arith)
part_there (one_argument {tags = tags} {e = e} {n = n} one rest) zero below = (e, n, tags, refl, refl, one)
part_there (one_argument one rest) (suc place) below =
    let there = part_there rest place (omega arith) in
    (there.0, there.1, there.2, there.3, there.4, there.5)

literal_part : {names : Names} {tags : List Tag} {e : Expr} {n : Linked} (accepts : Tree → Bool) → IsLinked names tags e n → option_map_or accepts (literal_of e) false ≡ true → IsAllowedPart accepts (Some n)
literal_part accepts (stands (a_literal ordered)) allowed = allowed
literal_part accepts (stands form) allowed = absurd (true≢false (sym allowed))

allowed_part : {names : Names} {tags : List Tag} {e : Expr} {n : Linked} (wants : Bool) (accepts : Tree → Bool) → IsLinked names tags e n → (if wants then option_map_or accepts (literal_of e) false else true) ≡ true → IsAllowedPartIf wants accepts (Some n)
allowed_part false accepts one allowed = tt
allowed_part true accepts one allowed = literal_part accepts one allowed

given_part : {names : Names} {tags : List Tag} {gs : Args} {ns : Parts} (p : ParameterRow) (accepts : Tree → Bool) (place : Option ℕ) → AreArgsLinked names tags gs ns → IsPlaced p (length (keywords_of gs)) place
    → is_written_right p accepts (written_at (values_of gs) place) ≡ true → IsGiven p accepts ns place
given_part p accepts None linked placed right = placed
given_part {ns = ns} p accepts (Some place) linked placed right =
    let there = part_there linked place placed in
    let allowed : IsAllowedPartIf p.literal accepts (Some there.1) = allowed_part p.literal accepts there.5 (ap (is_written_right p accepts) (sym there.3) ∙ right) in
    (subst IsSome (sym there.4) refl, subst (IsAllowedPartIf p.literal accepts) (sym there.4) allowed)

given_parts : {names : Names} {tags : List Tag} {gs : Args} {ns : Parts} (i : ℕ) (ps : List ParameterRow) (accepts : ℕ → Tree → Bool) (places : List (Option ℕ)) → AreArgsLinked names tags gs ns → ArePlaced ps (length (keywords_of gs)) places
    → are_written_right accepts i ps (map (written_at (values_of gs)) places) ≡ true → AreGiven i ps accepts ns places
given_parts i [] accepts places linked placed right = tt
given_parts i (p ∷ ps) accepts [] linked placed right = placed
given_parts {gs = gs} i (p ∷ ps) accepts (place ∷ places) linked placed right = (
  given_part p (accepts i) place linked placed.0 (left_holds (is_written_right p (accepts i) (written_at (values_of gs) place)) _ right),
  given_parts (suc i) ps accepts places linked placed.1 (right_holds (is_written_right p (accepts i) (written_at (values_of gs) place)) _ right),
)

-- ---- calls

callee_fits : {names : Names} {tags : List Tag} {gs : Args} {ns : Parts} (name : List ℕ) (c : Closure) (d : Callee) → IsCalleeOf names name gs c d → AreArgsLinked names tags gs ns → IsCallee (length names) ns d
callee_fits name c callee.Nothing is linked = tt
callee_fits name c (callee.Existence place) is linked = is.known
callee_fits name c (callee.Deletion place) is linked = is.known
callee_fits {gs = gs} name (closure xs es span) (callee.Function f places) is linked = absurd (true≢false (ap is_function is.same ∙ closure_no_function (form_named name) xs gs))
callee_fits {gs = gs} name no_closure (callee.Function f places) is linked =
    let bound = function_is (is_del name) (is_exists name) (binding path_parameters (keywords_of gs)) gs (function_named name) f places.items is.same in
    given_parts 0 (row_of f).parameters (row_of f).accepts places.items linked (places_are (row_of f).parameters (keywords_of gs) places.items bound.0) bound.1

-- the variables of a closure's names
slots_fit : (names : Names) (xs : List (List ℕ)) (slots : List (Option ℕ)) → AreSlotsOf names xs slots → AreKnownSlots (length names) slots
slots_fit names [] [] are = tt
slots_fit names [] (slot ∷ slots) are = absurd are
slots_fit names (x ∷ xs) [] are = absurd are
slots_fit names (x ∷ xs) (None ∷ slots) are = (tt, slots_fit names xs slots are.1)
slots_fit names (x ∷ xs) (Some number ∷ slots) are = (are.0.1.known, slots_fit names xs slots are.1)

-- ---- forms

mutual
  pub expr_fits : {names : Names} {tags : List Tag} {e : Expr} {n : Linked} (sources : ℕ) → IsLinked names tags e n → expr_faults e ≡ [] → expr_regexes_below sources e ≡ true → Fits (length names) sources n
  expr_fits sources (stands form) none below = form_fits sources form none below

  form_fits : {names : Names} {tags : List Tag} {f : Form} {n : Linked} (sources : ℕ) → IsLinkedForm names tags f n → form_faults f ≡ [] → form_regexes_below sources f ≡ true → Fits (length names) sources n
  form_fits sources (a_literal ordered) none below = record { ordered = ordered; below = below }
  form_fits sources (an_array all) none below = parts_fit sources all none below
  form_fits sources (an_object all) none below = pairs_fit sources all none below
  form_fits sources (a_read is) none below = is.begins.known
  form_fits sources (a_query part) none below = expr_fits sources part none below
  form_fits sources (a_group part) none below = expr_fits sources part none below
  form_fits sources (a_block items) none below = parts_fit sources items none below
  form_fits sources (a_conditional {gs = gs} {es = es} arms last) none below = (
    arms_fit sources arms (no_front (arms_faults gs) _ none) (left_holds (arms_regexes_below sources gs) _ below),
    else_fits sources last (no_back (arms_faults gs) _ none) (right_holds (arms_regexes_below sources gs) _ below),
  )
  form_fits sources (a_negation part) none below = expr_fits sources part none below
  form_fits sources (a_binary {l = l} left right) none below = (
    expr_fits sources left (no_front (expr_faults l) _ none) (left_holds (expr_regexes_below sources l) _ below),
    expr_fits sources right (no_back (expr_faults l) _ none) (right_holds (expr_regexes_below sources l) _ below),
  )
  form_fits {names = names} sources (an_assignment {t = t} {place = place} is part) none below =
      (target_fits names t place is (no_front (target_faults t) _ none), expr_fits sources part (no_back (target_faults t) _ none) below)
  form_fits {names = names} sources (a_merge {t = t} {place = place} is part) none below =
      (target_fits names t place is (no_front (target_faults t) _ none), expr_fits sources part (no_back (target_faults t) _ none) below)
  form_fits {names = names} sources (an_error_assignment {t = t} {u = u} {ok = ok} {err = err} is to part) none below =
      let others = no_back (target_faults t) _ none in (
        target_fits names t ok is (no_front (target_faults t) _ none),
        (target_fits names u err to (no_front (target_faults u) _ others), expr_fits sources part (no_back (target_faults u) _ others) below),
      )
  form_fits sources (a_call {name = name} {gs = gs} {c = c} {d = d} is args) none below =
      let written = no_front (args_faults (is_del name) gs) _ none in
      (callee_fits name c d is args, args_fit sources (is_del name) args written (left_holds (args_regexes_below sources gs) _ below))
  form_fits {names = names} sources (an_iteration {name = name} {gs = gs} {xs = xs} {f = f} is slots args items) none below =
      let written = no_front (args_faults (is_del name) gs) _ none in (
        slots_fit names xs (slots_in f) slots,
        (
          args_fit sources (is_del name) args written (left_holds (args_regexes_below sources gs) _ below),
          parts_fit sources items (no_back (args_faults (is_del name) gs) _ none) (right_holds (args_regexes_below sources gs) _ below),
        ),
      )
  form_fits sources (a_return part) none below = expr_fits sources part none below
  form_fits sources a_bare_abort none below = tt
  form_fits sources (an_abort part) none below = expr_fits sources part none below

  pub parts_fit : {names : Names} {tags : List Tag} {es : Exprs} {ns : Parts} (sources : ℕ) → AreLinked names tags es ns → exprs_faults es ≡ [] → exprs_regexes_below sources es ≡ true → AllFit (length names) sources ns
  parts_fit sources none_linked none below = tt
  parts_fit sources (one_linked {e = e} one rest) none below = (
    expr_fits sources one (no_front (expr_faults e) _ none) (left_holds (expr_regexes_below sources e) _ below),
    parts_fit sources rest (no_back (expr_faults e) _ none) (right_holds (expr_regexes_below sources e) _ below),
  )

  pairs_fit : {names : Names} {tags : List Tag} {ps : Pairs} {qs : linked.Pairs} (sources : ℕ) → ArePairsLinked names tags ps qs → pairs_faults ps ≡ [] → pairs_regexes_below sources ps ≡ true → PairsFit (length names) sources qs
  pairs_fit sources no_pair none below = tt
  pairs_fit sources (one_pair {e = e} one rest) none below = (
    expr_fits sources one (no_front (expr_faults e) _ none) (left_holds (expr_regexes_below sources e) _ below),
    pairs_fit sources rest (no_back (expr_faults e) _ none) (right_holds (expr_regexes_below sources e) _ below),
  )

  arms_fit : {names : Names} {tags : List Tag} {gs : Arms} {as_ : linked.Arms} (sources : ℕ) → AreArmsLinked names tags gs as_ → arms_faults gs ≡ [] → arms_regexes_below sources gs ≡ true → ArmsFit (length names) sources as_
  arms_fit sources no_arm none below = tt
  arms_fit sources (one_arm {predicate = p} {es = es} predicate items rest) none below =
      let others = no_back (expr_faults p) _ none in
      let others_below = right_holds (expr_regexes_below sources p) _ below in (
        expr_fits sources predicate (no_front (expr_faults p) _ none) (left_holds (expr_regexes_below sources p) _ below),
        (
          parts_fit sources items (no_front (exprs_faults es) _ others) (left_holds (exprs_regexes_below sources es) _ others_below),
          arms_fit sources rest (no_back (exprs_faults es) _ others) (right_holds (exprs_regexes_below sources es) _ others_below),
        ),
      )

  else_fits : {names : Names} {tags : List Tag} {es : Else} {otherwise : linked.Else} (sources : ℕ) → IsElseLinked names tags es otherwise → else_faults es ≡ [] → else_regexes_below sources es ≡ true → ElseFits (length names) sources otherwise
  else_fits sources no_last none below = tt
  else_fits sources (a_last items) none below = parts_fit sources items none below

  args_fit : {names : Names} {tags : List Tag} {gs : Args} {ns : Parts} (sources : ℕ) (deleted : Bool) → AreArgsLinked names tags gs ns → args_faults deleted gs ≡ [] → args_regexes_below sources gs ≡ true → AllFit (length names) sources ns
  args_fit sources deleted no_argument none below = tt
  args_fit sources deleted (one_argument {e = e} one rest) none below =
      let others = no_back (if deleted then path_faults e else []) _ none in (
        expr_fits sources one (no_front (expr_faults e) _ others) (left_holds (expr_regexes_below sources e) _ below),
        args_fit sources deleted rest (no_back (expr_faults e) _ others) (right_holds (expr_regexes_below sources e) _ below),
      )
