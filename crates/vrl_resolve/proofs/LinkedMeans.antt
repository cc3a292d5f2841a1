-- What is linked means what the part of the script means that it was made of.
use Rattle.std.proofs.Common.{◌≡◌, ℕ, List, [], ◌∷◌, ◌++◌, Option, Some, None, refl, sym, ap, ap₂, ◌∙◌, if◌then◌else◌}
use Rattle.vrl_value.specs.Tree.{Tree, null, Items, Members, no_members, put}
use Rattle.vrl_value.specs.declared.value.Tag.{Tag}
use Rattle.vrl_syntax.specs.ErrorAssignments.{behind_args, first_tag}
use Rattle.vrl_syntax.specs.Stores.{Store, bound_to, hidden_by, with_value}
use Rattle.vrl_syntax.specs.Tree.{Expr, Form, Exprs, Pairs, Arms, Else, Args, closure}
use Rattle.vrl_syntax.specs.declared.root.Op.TheVariants as op
use Rattle.vrl_syntax.specs.declared.root.Root.TheVariants.{Name}
use Rattle.vrl_syntax.specs.declared.root.Target.{Target}
use Rattle.vrl_syntax.specs.declared.root.Target.TheVariants as target
use Rattle.vrl_builtin.specs.Rows.{SettingTree}
use Rattle.vrl_store.specs.Operators.{is_true, negated}
use Rattle.vrl_store.specs.Outcomes.{Outcome, value, error, aborted, returned, banged, deep, Ended, banged_if, block_left, ends, on_value}
use Rattle.vrl_store.specs.Places.{part_of, read_in, target_value, writes, writes_to}
use Rattle.vrl_store.specs.StoreView.{name_at, Names}
use Rattle.vrl_store.specs.declared.target_path.TargetPath.{TargetPath}
use Rattle.vrl_resolve.specs.Calls.{Body, acts, items_in}
use Rattle.vrl_resolve.specs.Linked as linked
use Rattle.vrl_resolve.specs.Linked.{Linked, Parts}
use Rattle.vrl_resolve.specs.LinkedMeaning.{all_mean, arms_mean, body_means, bound_slots, callee_in, else_means, hidden_slots, items_mean, means, no_body, pairs_mean, slots_in, target_of}
use Rattle.vrl_resolve.specs.Linking.{AreArgsLinked, AreArmsLinked, AreLinked, ArePairsLinked, AreSlotsOf, IsElseLinked, IsLinked, IsLinkedForm, IsTargetOf, stands, a_literal, an_array, an_object, a_read, a_query, a_group, a_block, a_conditional, a_negation, a_binary, an_assignment, a_merge, an_error_assignment, a_call, an_iteration, a_return, a_bare_abort, an_abort, none_linked, one_linked, no_pair, one_pair, no_arm, one_arm, no_last, a_last, no_argument, one_argument}
use Rattle.vrl_resolve.specs.Meaning.{aborted_with, assigned, body_left, both_assigned, combined, eval, eval_all, eval_args, eval_arms, eval_body, eval_else, eval_form, eval_items, eval_pairs, written_both}
use Rattle.vrl_resolve.specs.declared.node.Callee.{Callee}
use Rattle.vrl_resolve.specs.declared.node.Callee.TheVariants as callee

-- ---- targets

writes_same : (names : Names) (t : Target) (place : Option TargetPath) → IsTargetOf names t place → (v : Tree) (store : Store) (next : Store → Ended) → writes_to (target_of names place) v store next ≡ writes_to t v store next
writes_same names target.Nowhere None is v store next = refl
writes_same names target.Nowhere (Some place) is v store next = absurd is
writes_same names (target.Place span root path) None is v store next = absurd is
writes_same names (target.Place span root path) (Some place) is v store next = ap₂ (λ r steps. writes r steps v store next) is.begins.same is.steps

value_same : (names : Names) (t : Target) (place : Option TargetPath) → IsTargetOf names t place → (store : Store) → target_value (target_of names place) store ≡ target_value t store
value_same names target.Nowhere None is store = refl
value_same names target.Nowhere (Some place) is store = absurd is
value_same names (target.Place span root path) None is store = absurd is
value_same names (target.Place span root path) (Some place) is store = ap₂ (λ r steps. read_in r steps store) is.begins.same is.steps

assigned_same : (names : Names) (t : Target) (place : Option TargetPath) → IsTargetOf names t place → (m e : Ended) → m ≡ e → assigned (target_of names place) m ≡ assigned t e
assigned_same names t place is m e same = λ i. on_value (same i) (λ v after. writes_same names t place is v after (λ end. ends (value v) end) i)

both_written : (names : Names) (t u : Target) (ok err : Option TargetPath) → IsTargetOf names t ok → IsTargetOf names u err → (v w : Tree) (store : Store) → written_both (target_of names ok) (target_of names err) v w store ≡ written_both t u v w store
both_written names t u ok err is to v w store =
    writes_same names t ok is v store (λ after. writes_to (target_of names err) w after (λ end. ends (value v) end))
    ∙ (λ i. writes_to t v store (λ after. writes_same names u err to w after (λ end. ends (value v) end) i))

both_same : (names : Names) (t u : Target) (ok err : Option TargetPath) (tag : Tag) → IsTargetOf names t ok → IsTargetOf names u err → (o : Outcome) (store : Store) → both_assigned (target_of names ok) (target_of names err) tag o store ≡ both_assigned t u tag o store
both_same names t u ok err tag is to (value v) store = both_written names t u ok err is to v null store
both_same names t u ok err tag is to (error text) store = both_written names t u ok err is to _ _ store
both_same names t u ok err tag is to (aborted m) store = refl
both_same names t u ok err tag is to (returned v) store = refl
both_same names t u ok err tag is to (banged text) store = refl
both_same names t u ok err tag is to deep store = refl

-- ---- calls

-- what such a call calls runs no closure
acts_alone : (names : Names) (setting : SettingTree) (d : Callee) (body other : Body) (vs : Items) (store : Store) → acts setting (callee_in names d) body vs store ≡ acts setting (callee_in names d) other vs store
acts_alone names setting (callee.Function f places) body other vs store = refl
acts_alone names setting (callee.Deletion place) body other vs store = refl
acts_alone names setting (callee.Existence place) body other vs store = refl
acts_alone names setting callee.Nothing body other vs store = refl

body_unused : (names : Names) (setting : SettingTree) (d : Callee) (body other : Body) (given : Ended) → on_value given (λ vs after. acts setting (callee_in names d) body (items_in vs) after) ≡ on_value given (λ vs after. acts setting (callee_in names d) other (items_in vs) after)
body_unused names setting d body other given = λ i. on_value given (λ vs after. acts_alone names setting d body other (items_in vs) after i)

-- ---- closures

-- the names that hide others
hidden_same : (names : Names) (xs : List (List ℕ)) (slots : List (Option ℕ)) → AreSlotsOf names xs slots → hidden_slots names slots ≡ hidden_by xs
hidden_same names [] [] are = refl
hidden_same names [] (slot ∷ slots) are = absurd are
hidden_same names (x ∷ xs) [] are = absurd are
hidden_same names (x ∷ xs) (None ∷ slots) are = hidden_same names xs slots are.1 ∙ sym (ap (λ b. if b then hidden_by xs else x ∷ hidden_by xs) are.0)
hidden_same names (x ∷ xs) (Some number ∷ slots) are =
    let named = are.0.1.same in
    let one : name_at names number ≡ x = cc in
    ap₂ (λ y ys. y ∷ ys) one (hidden_same names xs slots are.1) ∙ sym (ap (λ b. if b then hidden_by xs else x ∷ hidden_by xs) are.0.0)

-- the store with the names bound
bound_same : (names : Names) (xs : List (List ℕ)) (slots : List (Option ℕ)) → AreSlotsOf names xs slots → (vs : List Tree) (store : Store) → bound_slots names slots vs store ≡ bound_to xs vs store
bound_same names [] [] are vs store = refl
bound_same names [] (slot ∷ slots) are vs store = absurd are
bound_same names (x ∷ xs) [] are vs store = absurd are
bound_same names (x ∷ xs) (slot ∷ slots) are [] store = refl
bound_same names (x ∷ xs) (None ∷ slots) are (v ∷ vs) store =
    bound_same names xs slots are.1 vs store ∙ sym (ap (λ b. bound_to xs vs (if b then store else with_value (Name x) v store)) are.0)
bound_same names (x ∷ xs) (Some number ∷ slots) are (v ∷ vs) store =
    bound_same names xs slots are.1 vs (with_value (Name (name_at names number)) v store)
    ∙ ap (λ root. bound_to xs vs (with_value root v store)) are.0.1.same
    ∙ sym (ap (λ b. bound_to xs vs (if b then store else with_value (Name x) v store)) are.0.0)

-- ---- forms

mutual
  pub expr_means : {names : Names} {tags : List Tag} {e : Expr} {n : Linked} (setting : SettingTree) → IsLinked names tags e n
      → (store : Store) → means names setting n store ≡ eval setting tags e store
  expr_means setting (stands form) store = form_means setting form store

  form_means : {names : Names} {tags : List Tag} {f : Form} {n : Linked} (setting : SettingTree) → IsLinkedForm names tags f n
      → (store : Store) → means names setting n store ≡ eval_form setting tags f store
  form_means setting (a_literal ordered) store = refl
  form_means setting (an_array all) store = parts_mean setting all [] store
  form_means setting (an_object all) store = object_means setting all no_members store
  form_means setting (a_read is) store = ap₂ (λ r steps. ends (value (read_in r steps store)) store) is.begins.same is.steps
  form_means setting (a_query {path = path} part) store =
      ap (λ m. on_value m (λ v after. ends (value (part_of v path)) after)) (expr_means setting part store)
  form_means setting (a_group part) store = expr_means setting part store
  form_means setting (a_block items) store = ap (block_left store) (items_are_meant setting items null store)
  form_means setting (a_conditional arms last) store =
      arms_are_meant setting arms _ _ (λ after. else_is_meant setting last after) store
  form_means setting (a_negation part) store = ap (λ m. on_value m (λ v after. ends (negated v) after)) (expr_means setting part store)
  form_means setting (a_binary {o = o} left right) store =
      λ i. combined o (expr_means setting left store i) (λ after. expr_means setting right after i)
  form_means {names = names} setting (an_assignment {t = t} {place = place} is part) store =
      assigned_same names t place is _ _ (expr_means setting part store)
  form_means {names = names} setting (a_merge {t = t} {place = place} is part) store =
      assigned_same names t place is _ _
      (λ i. combined op.Merge (ends (value (value_same names t place is store i)) store) (λ after. expr_means setting part after i))
  form_means {names = names} setting (an_error_assignment {tags = tags} {t = t} {u = u} {ok = ok} {err = err} is to part) store =
      both_same names t u ok err (first_tag tags) is to _ _
      ∙ ap (λ m. both_assigned t u (first_tag tags) m.outcome m.store) (expr_means setting part store)
  form_means {names = names} setting (a_call {tags = tags} {name = name} {bang = bang} {gs = gs} {c = c} {d = d} {ns = ns} is args) store =
      let body : Body = eval_body setting (behind_args gs tags) c in
      ap (banged_if bang) (body_unused names setting d no_body body (all_mean names setting ns [] store)
      ∙ (λ i. on_value (args_mean setting args [] store i) (λ vs after. acts setting (is.same i) body (items_in vs) after)))
  form_means {names = names} setting (an_iteration {tags = tags} {name = name} {bang = bang} {gs = gs} {xs = xs} {es = es} {at = at} {f = f} {ns = ns} {body = body} is slots args items) store =
      let same : (vs : List Tree) (after : Store) → body_means names setting (slots_in f) body vs after ≡ eval_body setting (behind_args gs tags) (closure xs es at) vs after =
      λ vs after. ap₂ (λ hidden ended. body_left hidden after ended) (hidden_same names xs (slots_in f) slots)
      (ap (items_mean names setting null body) (bound_same names xs (slots_in f) slots vs after) ∙ items_are_meant setting items null (bound_to xs vs after)) in
      let called = sym is in
      ap (banged_if bang) (λ i. on_value (args_mean setting args [] store i) (λ vs after. acts setting (called i) (λ us now. same us now i) (items_in vs) after))
  form_means setting (a_return part) store = ap (λ m. on_value m (λ v after. ends (returned v) after)) (expr_means setting part store)
  form_means setting a_bare_abort store = refl
  form_means setting (an_abort part) store = ap (λ m. on_value m (λ v after. ends (aborted_with v) after)) (expr_means setting part store)

  parts_mean : {names : Names} {tags : List Tag} {es : Exprs} {ns : Parts} (setting : SettingTree) → AreLinked names tags es ns → (vs : List Tree) (store : Store) → all_mean names setting ns vs store ≡ eval_all setting tags es vs store
  parts_mean setting none_linked vs store = refl
  parts_mean setting (one_linked one rest) vs store = λ i. on_value (expr_means setting one store i) (λ v after. parts_mean setting rest (vs ++ (v ∷ [])) after i)

  object_means : {names : Names} {tags : List Tag} {ps : Pairs} {qs : linked.Pairs} (setting : SettingTree) → ArePairsLinked names tags ps qs → (ms : Members) (store : Store) → pairs_mean names setting qs ms store ≡ eval_pairs setting tags ps ms store
  object_means setting no_pair ms store = refl
  object_means setting (one_pair {key = key} one rest) ms store = λ i. on_value (expr_means setting one store i) (λ v after. object_means setting rest (put key v ms) after i)

  args_mean : {names : Names} {tags : List Tag} {gs : Args} {ns : Parts} (setting : SettingTree) → AreArgsLinked names tags gs ns → (vs : List Tree) (store : Store) → all_mean names setting ns vs store ≡ eval_args setting tags gs vs store
  args_mean setting no_argument vs store = refl
  args_mean setting (one_argument one rest) vs store = λ i. on_value (expr_means setting one store i) (λ v after. args_mean setting rest (vs ++ (v ∷ [])) after i)

  pub items_are_meant : {names : Names} {tags : List Tag} {es : Exprs} {ns : Parts} (setting : SettingTree) → AreLinked names tags es ns
      → (last : Tree) (store : Store) → items_mean names setting last ns store ≡ eval_items setting tags last es store
  items_are_meant setting none_linked last store = refl
  items_are_meant setting (one_linked one rest) last store =
      λ i. on_value (expr_means setting one store i) (λ v after. items_are_meant setting rest v after i)

  arms_are_meant : {names : Names} {tags : List Tag} {gs : Arms} {as_ : linked.Arms} (setting : SettingTree) → AreArmsLinked names tags gs as_
      → (other follows : Store → Ended) → ((after : Store) → other after ≡ follows after)
      → (store : Store) → arms_mean names setting as_ other store ≡ eval_arms setting tags gs follows store
  arms_are_meant setting no_arm other follows same store = same store
  arms_are_meant setting (one_arm predicate items rest) other follows same store =
      λ i. on_value (expr_means setting predicate store i) (λ v after.
      (if is_true v then block_left after (items_are_meant setting items null after i) else arms_are_meant setting rest other follows same after i))

  else_is_meant : {names : Names} {tags : List Tag} {es : Else} {otherwise : linked.Else} (setting : SettingTree) → IsElseLinked names tags es otherwise
      → (store : Store) → else_means names setting otherwise store ≡ eval_else setting tags es store
  else_is_meant setting no_last store = refl
  else_is_meant setting (a_last items) store = ap (block_left store) (items_are_meant setting items null store)
