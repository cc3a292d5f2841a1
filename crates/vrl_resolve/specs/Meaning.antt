-- The meaning: what a script does to an event and its variables, as the Vector Remap Language's
-- expression reference has it, form by form.
--
-- From an expression and a store it gives an outcome and a store. A run has a setting: the moment
-- of its line, and the sources of the script's regexes. Of the judgement only the tags of the empty
-- values of error assignments are taken: `tags` has those of the part that is run, and maybe more
-- behind; `ErrorAssignments` says how they are shared out. No span plays a part.
use Rattle.std.specs.Prelude.{ℕ, false, List, [], ◌∷◌, ◌++◌, Option, Some, None, if◌then◌else◌}
use Rattle.vrl_value.specs.Tree.{Tree, string, boolean, null, array as items, object as members, Members, no_members, put}
use Rattle.vrl_value.specs.View.{items_of_trees}
use Rattle.vrl_value.specs.declared.value.Tag.{Tag}
use Rattle.vrl_syntax.specs.ErrorAssignments.{behind, behind_all, behind_args, behind_arms, empty_value, first_tag, other_tags}
use Rattle.vrl_syntax.specs.Stores.{Store, bound_to, hidden_by, store_back, store_of}
use Rattle.vrl_syntax.specs.Tree.{Expr, expr, Form, literal, array, object, read, query, group, block, conditional, negation, binary, assign, merge, both, call, return_of, abort_with, Exprs, no_exprs, exprs, Pairs, no_pairs, pair, Arms, no_arms, arm, Else, no_else, else_block, Args, no_args, arg, Closure, no_closure, closure, no_message, message}
use Rattle.vrl_syntax.specs.declared.root.Op.{Op}
use Rattle.vrl_syntax.specs.declared.root.Op.TheVariants as op
use Rattle.vrl_syntax.specs.declared.root.Target.{Target}
use Rattle.vrl_builtin.specs.Rows.{SettingTree}
use Rattle.vrl_store.specs.Operators.{applied, is_falsy, is_true, negated, truth_of}
use Rattle.vrl_store.specs.Outcomes.{Outcome, value, error, aborted, returned, banged, deep, Ended, banged_if, block_left, ends, on_error, on_value}
use Rattle.vrl_store.specs.Places.{part_of, read_in, target_value, writes_to}
use Rattle.vrl_resolve.specs.Calls.{acts, callee_of, items_in}

-- ---- forms, by how their parts end

-- an operator that asks both its sides, of how these ended
abbrev pub both_sides : Op → Ended → (Store → Ended) → Ended
both_sides o left right = on_value left (λ v after. on_value (right after) (λ w end. ends (applied o v w) end))

-- what an operator makes of how its left side ended and of its right side, which is run in the
-- store that the left one left
abbrev pub combined : Op → Ended → (Store → Ended) → Ended
-- the right side where the left one ends with an error
combined op.Coalesce left right = on_error left (λ text after. right after)
-- the right side where the left one is null or false, else the left one
combined op.Or left right = on_value left (λ v after. if is_falsy v then right after else ends (value v) after)
-- false where the left side is null or false, and the right one isn't run; else whether the right
-- one is true
combined op.And left right = on_value left
    (λ v after. if is_falsy v then ends (value (boolean false)) after
    else on_value (ends (truth_of v) after) (λ t same. on_value (right same) (λ w end. ends (truth_of w) end)))
combined o left right = both_sides o left right

-- a value is written, and is the value of the whole
abbrev pub assigned : Target → Ended → Ended
assigned target given = on_value given (λ v after. writes_to target v after (λ end. ends (value v) end))

-- a value is written to `ok`, and null to `err`; at an error the empty value to `ok`, and the text
-- to `err`. The value of the whole is that for `ok`, also where `ok` takes nothing
abbrev pub written_both : Target → Target → Tree → Tree → Store → Ended
written_both ok err v w store = writes_to ok v store (λ after. writes_to err w after (λ end. ends (value v) end))

abbrev pub both_assigned : Target → Target → Tag → Outcome → Store → Ended
both_assigned ok err tag (value v) store = written_both ok err v null store
both_assigned ok err tag (error text) store = written_both ok err (empty_value tag) (string text) store
both_assigned ok err tag other store = ends other store

-- the message of an `abort` is a text; no accepted script has another
abbrev pub aborted_with : Tree → Outcome
aborted_with (string s) = aborted (Some s)
aborted_with v = error []

-- the body of a closure that hides names ends, by whatever outcome, with just the names that the
-- store had before it, and with the hidden ones as they were there
abbrev pub body_left : List (List ℕ) → Store → Ended → Ended
body_left hidden before ended = ends ended.outcome (store_back hidden before ended.store)

-- ---- the meaning

abbrev mutual
  pub eval : SettingTree → List Tag → Expr → Store → Ended
  eval setting tags (expr span f) store = eval_form setting tags f store

  pub eval_form : SettingTree → List Tag → Form → Store → Ended
  eval_form setting tags (literal v) store = ends (value v) store
  eval_form setting tags (array es) store = eval_all setting tags es [] store
  eval_form setting tags (object ps) store = eval_pairs setting tags ps no_members store
  eval_form setting tags (read root path) store = ends (value (read_in root path store)) store
  eval_form setting tags (query e path) store =
      on_value (eval setting tags e store) (λ v after. ends (value (part_of v path)) after)
  eval_form setting tags (group e) store = eval setting tags e store
  eval_form setting tags (block es) store = block_left store (eval_items setting tags null es store)
  eval_form setting tags (conditional gs es) store =
      eval_arms setting tags gs (λ after. eval_else setting (behind_arms gs tags) es after) store
  eval_form setting tags (negation e) store = on_value (eval setting tags e store) (λ v after. ends (negated v) after)
  eval_form setting tags (binary o l r) store =
      combined o (eval setting tags l store) (λ after. eval setting (behind l tags) r after)
  eval_form setting tags (assign t e) store = assigned t (eval setting tags e store)
  -- `t |= e` is `t = t | e`
  eval_form setting tags (merge t e) store =
      assigned t (combined op.Merge (ends (value (target_value t store)) store) (λ after. eval setting tags e after))
  eval_form setting tags (both t u e) store =
      let given = eval setting (other_tags tags) e store in both_assigned t u (first_tag tags) given.outcome given.store
  eval_form setting tags (call name span bang gs c) store = banged_if bang
      (on_value (eval_args setting tags gs [] store)
      (λ vs after. acts setting (callee_of name gs c) (eval_body setting (behind_args gs tags) c) (items_in vs) after))
  eval_form setting tags (return_of e) store = on_value (eval setting tags e store) (λ v after. ends (returned v) after)
  eval_form setting tags (abort_with no_message) store = ends (aborted None) store
  eval_form setting tags (abort_with (message e)) store =
      on_value (eval setting tags e store) (λ v after. ends (aborted_with v) after)

  -- the array of the values of expressions, which stands behind those that were run before
  pub eval_all : SettingTree → List Tag → Exprs → List Tree → Store → Ended
  eval_all setting tags no_exprs vs store = ends (value (items (items_of_trees vs))) store
  eval_all setting tags (exprs e es) vs store =
      on_value (eval setting tags e store) (λ v after. eval_all setting (behind e tags) es (vs ++ v ∷ []) after)

  -- the object of keys and values; of equal keys the last wins
  pub eval_pairs : SettingTree → List Tag → Pairs → Members → Store → Ended
  eval_pairs setting tags no_pairs ms store = ends (value (members ms)) store
  eval_pairs setting tags (pair key e ps) ms store =
      on_value (eval setting tags e store) (λ v after. eval_pairs setting (behind e tags) ps (put key v ms) after)

  -- the array of the values of a call's arguments, in the order in which they are written
  pub eval_args : SettingTree → List Tag → Args → List Tree → Store → Ended
  eval_args setting tags no_args vs store = ends (value (items (items_of_trees vs))) store
  eval_args setting tags (arg name span e gs) vs store =
      on_value (eval setting tags e store) (λ v after. eval_args setting (behind e tags) gs (vs ++ v ∷ []) after)

  -- items in order, behind one with this value: the value of the last, null where there is none
  pub eval_items : SettingTree → List Tag → Tree → Exprs → Store → Ended
  eval_items setting tags last no_exprs store = ends (value last) store
  eval_items setting tags last (exprs e es) store =
      on_value (eval setting tags e store) (λ v after. eval_items setting (behind e tags) v es after)

  -- the block of the first true predicate, else what is otherwise done
  pub eval_arms : SettingTree → List Tag → Arms → (Store → Ended) → Store → Ended
  eval_arms setting tags no_arms otherwise store = otherwise store
  eval_arms setting tags (arm predicate es gs) otherwise store =
      on_value (eval setting tags predicate store) (λ v after.
      (if is_true v then block_left after (eval_items setting (behind predicate tags) null es after)
      else eval_arms setting (behind_all es (behind predicate tags)) gs otherwise after))

  -- the block behind a last `else`; null where there is none
  pub eval_else : SettingTree → List Tag → Else → Store → Ended
  eval_else setting tags no_else store = ends (value null) store
  eval_else setting tags (else_block es) store = block_left store (eval_items setting tags null es store)

  -- the body of a closure, with its names bound to values; null where there is no closure
  pub eval_body : SettingTree → List Tag → Closure → List Tree → Store → Ended
  eval_body setting tags no_closure vs store = ends (value null) store
  eval_body setting tags (closure names es span) vs store =
      body_left (hidden_by names) store (eval_items setting tags null es (bound_to names vs store))

-- ---- a script

-- the end of a run: a value, also that of a `return`; or an error that the script doesn't handle,
-- as no accepted one ends with
pub data End : Type 0 where
  ended : Tree → End
  ended_aborted : Option (List ℕ) → End
  ended_banged : List ℕ → End
  ended_deep : End
  unhandled : List ℕ → End

abbrev pub end_of : Outcome → End
end_of (value v) = ended v
end_of (error text) = unhandled text
end_of (aborted m) = ended_aborted m
end_of (returned v) = ended v
end_of (banged text) = ended_banged text
end_of deep = ended_deep

-- how the items of a script end over an event with its metadata beside it
abbrev pub run_script : SettingTree → List Tag → Exprs → Tree → Tree → Ended
run_script setting tags es event beside = eval_items setting tags null es (store_of event beside)

abbrev pub IsUnhandled : Outcome → Type 0
IsUnhandled (error text) = Unit {0}
IsUnhandled other = ⊥
