-- A call with a closure in memory.
use Rattle.std.proofs.Common.{◌≡◌, ℕ, ◌+◌, Bool, true, false, ◌&&◌, List, [], ◌∷◌, drop, get_or, length, nat_eq, not, Option, Some, None, is_some, option_map, refl, sym, ap, ◌∙◌, subst, arith, rules, true≢false, if◌then◌else◌}
use Rattle.std.proofs.lemmas.Bool.{and_parts}
use Rattle.vrl_value.specs.declared.value.Tag.{Tag}
use Rattle.vrl_diag.specs.declared.diagnostic.Span.{Span}
use Rattle.vrl_syntax.specs.Calls.{for_names, form_named, has_equal, has_shape, is_closure_form}
use Rattle.vrl_syntax.specs.ErrorAssignments.{in_args, in_closure, in_exprs}
use Rattle.vrl_syntax.specs.Stores.{hidden_by}
use Rattle.vrl_syntax.specs.Tree.{Args, Closure, no_closure, closure, call}
use Rattle.vrl_syntax.specs.View.{args_of, call_of, closure_in, closure_of, exprs_of}
use Rattle.vrl_syntax.specs.declared.call_form.CallForm.{CallForm}
use Rattle.vrl_syntax.specs.declared.tree.Call.{Call as CodeCall, out-Call}
use Rattle.vrl_syntax.specs.declared.tree.Closure.{Closure as CodeClosure, out-Closure}
use Rattle.vrl_syntax.specs.declared.tree.Form.{the_lemmas}
use Rattle.vrl_binding.specs.Binding.{binding, collection_parameters, keywords_of}
use Rattle.vrl_store.specs.StoreView.{Names}
use Rattle.vrl_resolve.specs.Calls as called
use Rattle.vrl_resolve.specs.Linked as linked
use Rattle.vrl_resolve.specs.Linked.{Linked, Parts}
use Rattle.vrl_resolve.specs.Linking.{an_iteration, names_in, AreArgsLinked, AreLinked, AreSlotsOf, IsBeginning, IsBodyLinked, IsCalleeIn, IsLinkedForm, IsLoopBy, IsLoopIn, IsSlotOf, Links, LinksForm}
use Rattle.vrl_resolve.specs.declared.link.Linker.{Linker}
use Rattle.vrl_resolve.specs.declared.node.Callee.TheVariants as callee
use Rattle.vrl_resolve.specs.declared.node.Loop.{Loop}
use Rattle.vrl_resolve.proofs.LinkedCalls.{call_seen, callee_seen}
use Rattle.vrl_resolve.proofs.Links.{form_made, links_with}

pub closure_seen : (k : CodeClosure) → closure_of k ≡ closure (out-Closure k).names (exprs_of (out-Closure k).body) (out-Closure k).span
closure_seen k = search (rules, the_lemmas)

-- ---- which form runs it

pub run_nothing : (named : Option CallForm) (xs : List (List ℕ)) (gs : Args) → named ≡ None → called.closure_callee named xs gs ≡ called.nothing_called
run_nothing named xs gs is = ap (λ o. called.closure_callee o xs gs) is

abbrev chosen : CallForm → Args → Bool → called.Callee
chosen f gs b = if b then called.bound_iteration f (binding (collection_parameters f) (keywords_of gs)) else called.nothing_called

-- a form that runs none
pub run_by_none : (f : CallForm) (xs : List (List ℕ)) (gs : Args) → is_closure_form (Some f) ≡ false → called.closure_callee (Some f) xs gs ≡ called.nothing_called
run_by_none f xs gs is = ap (λ b. chosen f gs (b && has_shape f xs)) is

-- another shape
pub run_by_other : (f : CallForm) (xs : List (List ℕ)) (gs : Args) → is_closure_form (Some f) ≡ true → has_shape f xs ≡ false → called.closure_callee (Some f) xs gs ≡ called.nothing_called
run_by_other f xs gs is other = ap (λ b. chosen f gs (b && has_shape f xs)) is ∙ ap (chosen f gs) other

pub run_by : (f : CallForm) (xs : List (List ℕ)) (gs : Args) (takes : Bool) → is_closure_form (Some f) ≡ true → has_shape f xs ≡ true
    → called.bound_iteration f (binding (collection_parameters f) (keywords_of gs)) ≡ (if takes then called.iteration f else called.nothing_called)
    → called.closure_callee (Some f) xs gs ≡ (if takes then called.iteration f else called.nothing_called)
run_by f xs gs takes is shape bound = ap (λ b. chosen f gs (b && has_shape f xs)) is ∙ ap (chosen f gs) shape ∙ bound

-- ---- its names

-- there are as many as the function asks for
pub shape_length : (f : CallForm) (xs : List (List ℕ)) → has_shape f xs ≡ true → length xs ≡ length (for_names {A = Unit {0}} f tt tt)
shape_length f xs is =
    let parts = and_parts (nat_eq (length xs) (length (for_names {A = Unit {0}} f tt tt))) (not (has_equal (hidden_by xs))) is in
    let first = parts.0 in
    search rules

-- the variables of two names
pub two_are : (names : Names) (xs : List (List ℕ)) (x y : List ℕ) (a b : Option ℕ) → length xs ≡ 2 → x ≡ get_or xs 0 x → y ≡ get_or xs 1 y → IsSlotOf names x a → IsSlotOf names y b → AreSlotsOf names xs (a ∷ b ∷ [])
two_are names [] x y a b as_many first second one other = absurd (omega arith)
two_are names (u ∷ []) x y a b as_many first second one other = absurd (omega arith)
two_are names (u ∷ v ∷ []) x y a b as_many first second one other = (subst (λ k. IsSlotOf names k a) first one, (subst (λ k. IsSlotOf names k b) second other, tt))
two_are names (u ∷ v ∷ w ∷ xs) x y a b as_many first second one other = absurd (omega arith)

-- ---- its items

pub body_linked : {a b : Linker} (k : CodeClosure) (ns : Parts) → Links a b (in_exprs (exprs_of (out-Closure k).body)) (λ names tags. AreLinked names tags (exprs_of (out-Closure k).body) ns)
    → Links a b (in_closure (closure_of k)) (λ names tags. IsBodyLinked names tags (closure_of k) ns)
body_linked {a} {b} k ns links = subst (λ c. Links a b (in_closure c) (λ names tags. IsBodyLinked names tags c ns)) (sym (closure_seen k)) links

-- ---- the call

one_made : {names : Names} {tags : List Tag} (name : List ℕ) (span : Span) (bang : Bool) (gs : Args) (c : Closure) (f : Loop) (ns body : Parts) → IsLoopIn names (call name span bang gs c) (Some f)
    → AreArgsLinked names tags gs ns → IsBodyLinked names (drop (in_args gs) tags) c body → IsLinkedForm names tags (call name span bang gs c) (linked.iterate f bang ns body)
one_made name span bang gs no_closure f ns body is args items = absurd is
one_made name span bang gs (closure xs es at) f ns body is args items = an_iteration is.0 is.1 args items

pub iteration_made : {a b : Linker} (c : CodeCall) (m : Linked) (f : Loop) (ns body : Parts) → m ≡ linked.iterate f (out-Call c).bang ns body
    → ((names : Names) → IsBeginning (names_in a) names → IsLoopIn names (call_of c) (Some f))
    → Links a b (in_args (args_of (out-Call c).args) + in_closure (closure_in (option_map closure_of (out-Call c).closure)))
    (λ names tags. AreArgsLinked names tags (args_of (out-Call c).args) ns × IsBodyLinked names (drop (in_args (args_of (out-Call c).args)) tags) (closure_in (option_map closure_of (out-Call c).closure)) body)
    → LinksForm a b (call_of c) m
iteration_made {a} {b} c m f ns body is runs links =
    let seen = call_seen c in
    let k = closure_in (option_map closure_of (out-Call c).closure) in
    subst (λ form. LinksForm a b form m) (sym seen)
    (form_made _ m _ is (λ names all. one_made (out-Call c).name (out-Call c).name_span (out-Call c).bang (args_of (out-Call c).args) k f ns body all.0 all.1.0 all.1.1)
    (links_with (λ names begins. subst (λ form. IsLoopIn names form (Some f)) seen (runs names begins)) links))

-- what runs the closure, as the call in memory is seen
form_seen : (c : CodeCall) (k : CodeClosure) → (out-Call c).closure ≡ Some k
    → call_of c ≡ call (out-Call c).name (out-Call c).name_span (out-Call c).bang (args_of (out-Call c).args) (closure (out-Closure k).names (exprs_of (out-Closure k).body) (out-Closure k).span)
form_seen c k is =
    call_seen c
    ∙ ap (λ o. call (out-Call c).name (out-Call c).name_span (out-Call c).bang (args_of (out-Call c).args) (closure_in (option_map closure_of o))) is
    ∙ ap (λ o. call (out-Call c).name (out-Call c).name_span (out-Call c).bang (args_of (out-Call c).args) o) (closure_seen k)

pub loop_seen : (names : Names) (c : CodeCall) (k : CodeClosure) (o : Option Loop) → (out-Call c).closure ≡ Some k
    → IsLoopBy names (out-Call c).name (out-Closure k).names (args_of (out-Call c).args) o → IsLoopIn names (call_of c) o
loop_seen names c k o is told = subst (λ form. IsLoopIn names form o) (sym (form_seen c k is)) told

pub no_loop : (names : Names) (c : CodeCall) → (out-Call c).closure ≡ None → IsLoopIn names (call_of c) None
no_loop names c none =
    let seen = call_seen c ∙ ap (λ o. call (out-Call c).name (out-Call c).name_span (out-Call c).bang (args_of (out-Call c).args) (closure_in (option_map closure_of o))) none in
    subst (λ form. IsLoopIn names form None) (sym seen) tt

-- nothing is called where nothing runs the closure
pub nothing_run : (names : Names) (c : CodeCall) → is_some (out-Call c).closure ≡ true → IsLoopIn names (call_of c) None → IsCalleeIn names (call_of c) callee.Nothing
nothing_run names c some is = callee_seen names c callee.Nothing (record { known = tt; same = closed (out-Call c).closure refl some }) where
  closed : (o : Option CodeClosure) → (out-Call c).closure ≡ o → is_some o ≡ true → called.nothing_called ≡ called.callee_of (out-Call c).name (args_of (out-Call c).args) (closure_in (option_map closure_of o))
  closed None at there = absurd (true≢false (sym there))
  closed (Some k) at there =
      let told : called.closure_callee (form_named (out-Call c).name) (out-Closure k).names (args_of (out-Call c).args) ≡ called.nothing_called = subst (λ form. IsLoopIn names form None) (form_seen c k at) is in
      sym told ∙ ap (λ o. called.callee_of (out-Call c).name (args_of (out-Call c).args) o) (sym (closure_seen k))
