-- What a linked expression does: as `Meaning` has it of the expression that it was made of.
use Rattle.std.specs.Prelude.{ℕ, List, [], ◌∷◌, ◌++◌, Option, Some, None, if◌then◌else◌}
use Rattle.vrl_value.specs.Tree.{Tree, null, array as items, object as members, Members, no_members, put}
use Rattle.vrl_value.specs.View.{items_of_trees}
use Rattle.vrl_syntax.specs.Tree.{no_span}
use Rattle.vrl_syntax.specs.Stores.{Store, with_value}
use Rattle.vrl_syntax.specs.declared.call_form.CallForm.{CallForm}
use Rattle.vrl_syntax.specs.declared.call_form.CallForm.TheVariants as form
use Rattle.vrl_syntax.specs.declared.root.Op.TheVariants as op
use Rattle.vrl_syntax.specs.declared.root.Root.TheVariants.{Name}
use Rattle.vrl_syntax.specs.declared.root.Target.{Target}
use Rattle.vrl_syntax.specs.declared.root.Target.TheVariants as target
use Rattle.vrl_builtin.specs.Rows.{SettingTree}
use Rattle.vrl_store.specs.Operators.{is_true, negated}
use Rattle.vrl_store.specs.Outcomes.{Ended, aborted, banged_if, block_left, ends, on_value, returned, value}
use Rattle.vrl_store.specs.Places.{part_of, read_in, target_value}
use Rattle.vrl_store.specs.StoreView.{name_at, root_of, Names}
use Rattle.vrl_store.specs.declared.target_path.TargetPath.{TargetPath}
use Rattle.vrl_resolve.specs.Calls.{acts, deletion, existence, function, items_in, iteration, nothing_called, Body, Callee}
use Rattle.vrl_resolve.specs.Linked.{Linked, literal, array, object, read, query, block, conditional, negation, binary, assign, merge, both, call, iterate, return_of, abort_with, Parts, no_parts, parts, Pairs, no_pairs, pair, Arms, no_arms, arm, Else, no_else, else_block, no_message, message}
use Rattle.vrl_resolve.specs.Meaning.{aborted_with, assigned, body_left, both_assigned, combined}
use Rattle.vrl_resolve.specs.declared.node.Callee.{Callee as CodeCallee}
use Rattle.vrl_resolve.specs.declared.node.Callee.TheVariants as callee
use Rattle.vrl_resolve.specs.declared.node.Loop.{Loop}
use Rattle.vrl_resolve.specs.declared.node.Loop.TheVariants as loops

abbrev pub target_of : Names → Option TargetPath → Target
target_of names None = target.Nowhere
target_of names (Some place) = target.Place no_span (root_of names place.base) place.path

abbrev pub callee_in : Names → CodeCallee → Callee
callee_in names (callee.Function f places) = function f places.items
callee_in names (callee.Deletion place) = deletion (root_of names place.base) place.path
callee_in names (callee.Existence place) = existence (root_of names place.base) place.path
callee_in names callee.Nothing = nothing_called

-- what such a node calls runs no closure
abbrev pub no_body : Body
no_body vs store = ends (value null) store

-- ---- closures

-- the function that runs one
abbrev pub form_in : Loop → CallForm
form_in (loops.ForEach key v) = form.ForEach
form_in (loops.Filter key v) = form.Filter
form_in (loops.MapValues v) = form.MapValues
form_in (loops.MapKeys key) = form.MapKeys

-- the variables of the closure's names, in order; none of `_`
abbrev pub slots_in : Loop → List (Option ℕ)
slots_in (loops.ForEach key v) = key ∷ v ∷ []
slots_in (loops.Filter key v) = key ∷ v ∷ []
slots_in (loops.MapValues v) = v ∷ []
slots_in (loops.MapKeys key) = key ∷ []

-- the names that hide names of the store
abbrev pub hidden_slots : Names → List (Option ℕ) → List (List ℕ)
hidden_slots names [] = []
hidden_slots names (None ∷ slots) = hidden_slots names slots
hidden_slots names (Some number ∷ slots) = name_at names number ∷ hidden_slots names slots

-- the store with the variables bound to values
abbrev pub bound_slots : Names → List (Option ℕ) → List Tree → Store → Store
bound_slots names [] vs store = store
bound_slots names (slot ∷ slots) [] store = store
bound_slots names (None ∷ slots) (v ∷ vs) store = bound_slots names slots vs store
bound_slots names (Some number ∷ slots) (v ∷ vs) store =
    bound_slots names slots vs (with_value (Name (name_at names number)) v store)

-- ---- the meaning

abbrev mutual
  pub means : Names → SettingTree → Linked → Store → Ended
  means names setting (literal v) store = ends (value v) store
  means names setting (array ns) store = all_mean names setting ns [] store
  means names setting (object ps) store = pairs_mean names setting ps no_members store
  means names setting (read place) store = ends (value (read_in (root_of names place.base) place.path store)) store
  means names setting (query n path) store =
      on_value (means names setting n store) (λ v after. ends (value (part_of v path)) after)
  means names setting (block ns) store = block_left store (items_mean names setting null ns store)
  means names setting (conditional as_ otherwise) store =
      arms_mean names setting as_ (λ after. else_means names setting otherwise after) store
  means names setting (negation n) store = on_value (means names setting n store) (λ v after. ends (negated v) after)
  means names setting (binary o l r) store =
      combined o (means names setting l store) (λ after. means names setting r after)
  means names setting (assign t n) store = assigned (target_of names t) (means names setting n store)
  means names setting (merge t n) store =
      assigned (target_of names t)
      (combined op.Merge (ends (value (target_value (target_of names t) store)) store)
      (λ after. means names setting n after))
  means names setting (both t u tag n) store =
      let given = means names setting n store in
      both_assigned (target_of names t) (target_of names u) tag given.outcome given.store
  means names setting (call c bang ns) store = banged_if bang
      (on_value (all_mean names setting ns [] store)
      (λ vs after. acts setting (callee_in names c) no_body (items_in vs) after))
  means names setting (iterate f bang ns body) store =
      banged_if bang
      (on_value (all_mean names setting ns [] store)
      (λ vs after. acts setting (iteration (form_in f))
      (λ us now. body_left (hidden_slots names (slots_in f)) now
      (items_mean names setting null body (bound_slots names (slots_in f) us now))) (items_in vs) after))
  means names setting (return_of n) store = on_value (means names setting n store) (λ v after. ends (returned v) after)
  means names setting (abort_with no_message) store = ends (aborted None) store
  means names setting (abort_with (message n)) store =
      on_value (means names setting n store) (λ v after. ends (aborted_with v) after)

  -- the array of the values of parts in order, behind those before them
  pub all_mean : Names → SettingTree → Parts → List Tree → Store → Ended
  all_mean names setting no_parts vs store = ends (value (items (items_of_trees vs))) store
  all_mean names setting (parts n ns) vs store =
      on_value (means names setting n store) (λ v after. all_mean names setting ns (vs ++ v ∷ []) after)

  pub pairs_mean : Names → SettingTree → Pairs → Members → Store → Ended
  pairs_mean names setting no_pairs ms store = ends (value (members ms)) store
  pairs_mean names setting (pair key n ps) ms store =
      on_value (means names setting n store) (λ v after. pairs_mean names setting ps (put key v ms) after)

  pub items_mean : Names → SettingTree → Tree → Parts → Store → Ended
  items_mean names setting last no_parts store = ends (value last) store
  items_mean names setting last (parts n ns) store =
      on_value (means names setting n store) (λ v after. items_mean names setting v ns after)

  pub arms_mean : Names → SettingTree → Arms → (Store → Ended) → Store → Ended
  arms_mean names setting no_arms otherwise store = otherwise store
  arms_mean names setting (arm predicate ns as_) otherwise store =
      on_value (means names setting predicate store)
      (λ v after. (if is_true v then block_left after (items_mean names setting null ns after)
      else arms_mean names setting as_ otherwise after))

  pub else_means : Names → SettingTree → Else → Store → Ended
  else_means names setting no_else store = ends (value null) store
  else_means names setting (else_block ns) store = block_left store (items_mean names setting null ns store)

-- the items of a closure, with its variables bound to values
abbrev pub body_means : Names → SettingTree → List (Option ℕ) → Parts → Body
body_means names setting slots ns vs store =
    body_left (hidden_slots names slots) store (items_mean names setting null ns (bound_slots names slots vs store))
