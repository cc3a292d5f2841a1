-- A node by its form: what it is by the parts that a walk takes out of it, and that it ends as its form does.
use Rattle.std.proofs.Common.{◌≡◌, Bool, List, ap, ap₂, rules, subst, sym, ◌∙◌}
use Rattle.std.specs.declared.result.Result.{Result}
use Rattle.vrl_value.specs.declared.value.Value.{Value}
use Rattle.vrl_store.specs.Results.{Ends}
use Rattle.vrl_store.specs.declared.stop.Stop.{Stop}
use Rattle.vrl_store.specs.declared.store.Store.{Store}
use Rattle.vrl_resolve.specs.Linked.{ArmTree, Linked, arm_of, call, call_of, iterate, iteration_of, linked_of, parts_view}
use Rattle.vrl_resolve.specs.Walking.{EndsAsked, meant, store_at}
use Rattle.vrl_resolve.specs.declared.node.Arm.{Arm, out-Arm}
use Rattle.vrl_resolve.specs.declared.node.Call.{Call, out-Call}
use Rattle.vrl_resolve.specs.declared.node.Form.{the_lemmas}
use Rattle.vrl_resolve.specs.declared.node.Iteration.{Iteration, out-Iteration}
use Rattle.vrl_resolve.specs.declared.node.Node.{Node}
use Rattle.vrl_resolve.specs.declared.walk.Context.{Context}
use Rattle.vrl_resolve.proofs.Walks.{told_anyhow}

-- a part that was taken out of a box
pub of_boxed : {A : Type 0} (n : Linked) (f : A → Linked) (part box : A) → part ≡ box → n ≡ f box → n ≡ f part
of_boxed n f part box here is = is ∙ ap f (sym here)

-- the items of an arm that were taken out of it
pub of_arm : (arm : Arm) (body : List Node) → body ≡ (out-Arm arm).body.items → ◌≡◌ {A = ArmTree} (arm_of arm) (linked_of (out-Arm arm).predicate, parts_view body)
of_arm arm body here = seen ∙ ap {B = ArmTree} (λ ns. (linked_of (out-Arm arm).predicate, parts_view ns)) (sym here) where
  seen : ◌≡◌ {A = ArmTree} (arm_of arm) (linked_of (out-Arm arm).predicate, parts_view (out-Arm arm).body.items)
  seen = search (rules, the_lemmas)

-- the arguments of a call
pub of_call : (called : Call) (args : List Node) → args ≡ (out-Call called).args.items → call_of called ≡ call (out-Call called).callee (out-Call called).bang (parts_view args)
of_call called args here = seen ∙ ap (λ ns. call (out-Call called).callee (out-Call called).bang (parts_view ns)) (sym here) where
  seen : call_of called ≡ call (out-Call called).callee (out-Call called).bang (parts_view (out-Call called).args.items)
  seen = search (rules, the_lemmas)

-- the arguments and the items of a call that runs a closure
pub of_iteration : (run : Iteration) (args body : List Node) → args ≡ (out-Iteration run).args.items → body ≡ (out-Iteration run).body.items
    → iteration_of run ≡ iterate (out-Iteration run).function (out-Iteration run).bang (parts_view args) (parts_view body)
of_iteration run args body here there = seen ∙ ap₂ (λ ns ms. iterate (out-Iteration run).function (out-Iteration run).bang (parts_view ns) (parts_view ms)) (sym here) (sym there) where
  seen : iteration_of run ≡ iterate (out-Iteration run).function (out-Iteration run).bang (parts_view (out-Iteration run).args.items) (parts_view (out-Iteration run).body.items)
  seen = search (rules, the_lemmas)

-- as the form ended, so did the node
pub ended_as : (x : Context) (before after : Store) {n m : Linked} (r : Result Value Stop) → n ≡ m → Ends (meant x m before) (store_at x after) r → Ends (meant x n before) (store_at x after) r
ended_as x before after r is ended = subst (λ l. Ends (meant x l before) (store_at x after) r) (sym is) ended

pub asked_as : (x : Context) (before after : Store) {n m : Linked} (asked : Bool) (r : Result Value Stop) → n ≡ m
    → EndsAsked asked (meant x m before) (store_at x after) r → EndsAsked asked (meant x n before) (store_at x after) r
asked_as x before after asked r is ended = subst (λ l. EndsAsked asked (meant x l before) (store_at x after) r) (sym is) ended

-- whose value is told anyhow
pub told_as : (x : Context) (before after : Store) {n m : Linked} (asked : Bool) (r : Result Value Stop) → n ≡ m
    → Ends (meant x m before) (store_at x after) r → EndsAsked asked (meant x n before) (store_at x after) r
told_as x before after asked r is ended = told_anyhow asked _ (store_at x after) r (ended_as x before after r is ended)
